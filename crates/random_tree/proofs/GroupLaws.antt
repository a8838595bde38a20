-- Groups of a list: what they are over, which of them stay, and how few they are.
use Rattle.std.proofs.Common.{◌≡◌, ℕ, suc, zero, ◌+◌, ◌*◌, ◌^◌, ◌≤◌, Bool, true, false, cond, nat_le, List, [], ◌∷◌, ◌++◌, length, take, drop, Option, Some, None, refl, sym, ap, ◌∙◌, arith, append_assoc, length-append, add-one}
use Rattle.std.specs.List.{All}
use Rattle.std.proofs.lemmas.Bool.{leb-true, le-leb}
use Rattle.std.proofs.lemmas.List.{drop-drop, take-append-drop}
use Rattle.std.proofs.lemmas.List.Elements.{All-head, All-tail}
use Rattle.random_tree.specs.Groups.{Members, alone, with_next, size, members_of, ends, groups_on, groups_of, Ends}

-- Twice a power of two.
pub double : (n : ℕ) → 2 ^ (n + 1) ≡ 2 * 2 ^ n
double n = ap (λ (m : ℕ). 2 ^ m) (add-one n) ∙ (let next : 2 ^ (suc n) ≡ 2 * 2 ^ n = omega arith in next)

module _ {T : Type 0} where
  -- All members of the groups.
  abbrev pub flat : List (Members T) → List T
  flat [] = []
  flat (g ∷ gs) = members_of g ++ flat gs

  -- How many they are.
  abbrev pub sizes : List (Members T) → ℕ
  sizes [] = 0
  sizes (g ∷ gs) = size g + sizes gs

  pub length-flat : (gs : List (Members T)) → length (flat gs) ≡ sizes gs
  length-flat [] = refl
  length-flat (g ∷ gs) = let a = length-append (members_of g) (flat gs) in let b = length-flat gs in omega (arith, a, b)

  flat-append : (gs hs : List (Members T)) → flat (gs ++ hs) ≡ flat gs ++ flat hs
  flat-append [] hs = refl
  flat-append (g ∷ gs) hs = ap (λ (ts : List T). members_of g ++ ts) (flat-append gs hs) ∙ sym (append_assoc (members_of g) (flat gs) (flat hs))

  pub drop_first : (xs ys : List T) → drop (length xs) (xs ++ ys) ≡ ys
  drop_first [] ys = refl
  drop_first (x ∷ xs) ys = drop_first xs ys

  pub take_first : (xs ys : List T) → take (length xs) (xs ++ ys) ≡ xs
  take_first [] ys = refl
  take_first (x ∷ xs) ys = ap (λ (zs : List T). x ∷ zs) (take_first xs ys)

  pub members-next : (g : Members T) (t : T) (ts : List T) → members_of (with_next g t) ++ ts ≡ members_of g ++ (t ∷ ts)
  members-next g t ts = ap (λ (us : List T). g.first ∷ us) (append_assoc g.others (t ∷ []) ts)

  -- The first groups are over the first members.
  pub flat-take : (p : ℕ) (gs : List (Members T)) → flat (take p gs) ≡ take (sizes (take p gs)) (flat gs)
  flat-take p gs =
      sym (take_first (flat (take p gs)) (flat (drop p gs)))
      ∙ (ap (λ (n : ℕ). take n (flat (take p gs) ++ flat (drop p gs))) (length-flat (take p gs))
      ∙ ap (take (sizes (take p gs))) (sym (flat-append (take p gs) (drop p gs)) ∙ ap flat (take-append-drop p gs)))

module _ {T : Type 0} (marked : T → Bool) where
  -- The group is begun, and does not end yet.
  abbrev pub IsOpen : Members T → Type 0
  IsOpen g = (ts : List T) → groups_on marked None (members_of g ++ ts) ≡ groups_on marked (Some g) ts

  pub alone-open : (t : T) → IsOpen (alone t)
  alone-open t ts = refl

  pub next-open : (g : Members T) (t : T) → IsOpen g → ends marked (size g + 1) t ≡ false → IsOpen (with_next g t)
  next-open g t before is ts =
      ap (groups_on marked None) (members-next g t ts)
      ∙ (before (t ∷ ts)
      ∙ ap (λ (b : Bool). cond b (with_next g t ∷ groups_on marked None ts) (groups_on marked (Some (with_next g t)) ts)) is)

  pub ends-next : (g : Members T) (t : T) → IsOpen g → ends marked (size g + 1) t ≡ true → Ends marked (with_next g t)
  ends-next g t before is ts =
      ap (groups_on marked None) (members-next g t ts)
      ∙ (before (t ∷ ts)
      ∙ ap (λ (b : Bool). cond b (with_next g t ∷ groups_on marked None ts) (groups_on marked (Some (with_next g t)) ts)) is)

  -- What is begun.
  abbrev begun : Option (Members T) → List T
  begun None = []
  begun (Some g) = members_of g

  flat-on : (o : Option (Members T)) (ts : List T) → flat (groups_on marked o ts) ≡ begun o ++ ts
  flat-on None [] = refl
  flat-on (Some g) [] = refl
  flat-on None (t ∷ ts) = flat-on (Some (alone t)) ts
  flat-on (Some g) (t ∷ ts) = elim (ends marked (size g + 1) t) as (λ b. flat (cond b (with_next g t ∷ groups_on marked None ts) (groups_on marked (Some (with_next g t)) ts)) ≡ members_of g ++ (t ∷ ts)) [
    | true ↦ ap (λ (us : List T). members_of (with_next g t) ++ us) (flat-on None ts) ∙ members-next g t ts
    | false ↦ flat-on (Some (with_next g t)) ts ∙ members-next g t ts
  ]

  -- The groups of a list are over all of it.
  pub flat-groups : (ts : List T) → flat (groups_on marked None ts) ≡ ts
  flat-groups ts = flat-on None ts

  -- The first group, and those after it.
  record FirstOn (g : Members T) (ts : List T) : Type 0 where
    group : Members T
    more : List T
    rest : List T
    is : groups_on marked (Some g) ts ≡ group ∷ groups_on marked None rest
    are : ts ≡ more ++ rest
    grew : length group.others ≡ length g.others + length more

  first-on : (g : Members T) (ts : List T) → FirstOn g ts
  first-on g [] = record { group = g; more = []; rest = []; is = refl; are = refl; grew = omega arith }
  first-on g (t ∷ ts) = elim (ends marked (size g + 1) t) as (λ b. ends marked (size g + 1) t ≡ b → FirstOn g (t ∷ ts)) [
    | true ↦ λ e. record {
      group = with_next g t;
      more = t ∷ [];
      rest = ts;
      is = ap (λ (b : Bool). cond b (with_next g t ∷ groups_on marked None ts) (groups_on marked (Some (with_next g t)) ts)) e;
      are = refl;
      grew = length-append g.others (t ∷ []);
    }
    | false ↦ λ e. let f = first-on (with_next g t) ts in record {
      group = f.group;
      more = t ∷ f.more;
      rest = f.rest;
      is = ap (λ (b : Bool). cond b (with_next g t ∷ groups_on marked None ts) (groups_on marked (Some (with_next g t)) ts)) e ∙ f.is;
      are = ap (λ (us : List T). t ∷ us) f.are;
      grew = (let a = length-append g.others (t ∷ []) in let b = f.grew in omega (arith, a, b));
    }
  ] refl

  -- After the first group come the groups of the members after it.
  pub rest-after : (ts : List T) (h : Members T) (hs : List (Members T)) → groups_on marked None ts ≡ h ∷ hs → groups_on marked None (drop (size h) ts) ≡ hs
  rest-after [] h hs is = absurd (let no : [] ≡ h ∷ hs = is in cc)
  rest-after (t ∷ ts) h hs is =
      let f = first-on (alone t) ts in
      let both : f.group ∷ groups_on marked None f.rest ≡ h ∷ hs = sym f.is ∙ is in
      let same : f.group ≡ h = cc in
      let rest : groups_on marked None f.rest ≡ hs = cc in
      let grew : length f.group.others ≡ length f.more = (let a = f.grew in omega (arith, a)) in
      let count : size h ≡ suc (length f.more) = (let a = ap (λ (m : Members T). length m.others) same in omega (arith, a, grew)) in
      ap (groups_on marked None) (ap (λ (n : ℕ). drop n (t ∷ ts)) count ∙ (ap (drop (length f.more)) f.are ∙ drop_first f.more f.rest)) ∙ rest

  -- The same after a number of groups.
  pub rest-at : (q : ℕ) (ts : List T) (gs : List (Members T)) → groups_on marked None ts ≡ gs → groups_on marked None (drop (sizes (take q gs)) ts) ≡ drop q gs
  rest-at zero ts gs is = is
  rest-at (suc q) ts [] is = is
  rest-at (suc q) ts (g ∷ gs) is =
      ap (groups_on marked None) (sym (drop-drop (sizes (take q gs)) (size g) ts)) ∙ rest-at q (drop (size g) ts) gs (rest-after ts g gs is)

  -- Groups that end by themselves stay, whatever comes after them.
  pub front-stays : (gs : List (Members T)) (ts : List T) → All (Ends marked) gs → groups_on marked None (flat gs ++ ts) ≡ gs ++ groups_on marked None ts
  front-stays [] ts all = refl
  front-stays (g ∷ gs) ts all =
      ap (groups_on marked None) (append_assoc (members_of g) (flat gs) ts)
      ∙ (All-head (Ends marked) g gs all (flat gs ++ ts)
      ∙ ap (λ (hs : List (Members T)). g ∷ hs) (front-stays gs ts (All-tail (Ends marked) g gs all)))

  -- Over two or more members there are groups, over fewer none.
  pub groups-over : (ts : List T) → 2 ≤ length ts → groups_of marked ts ≡ groups_on marked None ts
  groups-over ts two = ap (λ (b : Bool). cond b (groups_on marked None ts) []) (le-leb 2 (length ts) two)

  pub groups-none : (ts : List T) → length ts ≤ 1 → groups_of marked ts ≡ []
  groups-none ts few = elim (nat_le 2 (length ts)) as (λ b. nat_le 2 (length ts) ≡ b → cond b (groups_on marked None ts) [] ≡ []) [
    | true ↦ λ e. absurd (let two : 2 ≤ length ts = leb-true 2 (length ts) e in omega (arith, two, few))
    | false ↦ λ e. refl
  ] refl

  pub groups-two : (ts : List T) (g : Members T) (gs : List (Members T)) → groups_of marked ts ≡ g ∷ gs → 2 ≤ length ts
  groups-two ts g gs is = elim (nat_le 2 (length ts)) as (λ b. nat_le 2 (length ts) ≡ b → cond b (groups_on marked None ts) [] ≡ g ∷ gs → 2 ≤ length ts) [
    | true ↦ λ e same. leb-true 2 (length ts) e
    | false ↦ λ e same. absurd (let no : [] ≡ g ∷ gs = same in cc)
  ] refl is

  -- A level has at most half as many groups as members, rounded up.
  few-on : (o : Option (Members T)) (ts : List T) → 2 * length (groups_on marked o ts) ≤ length ts + elim o [ None ↦ 1 | Some g ↦ 2 ]
  few-on None [] = omega arith
  few-on (Some g) [] = omega arith
  few-on None (t ∷ ts) = let a = few-on (Some (alone t)) ts in omega (arith, a)
  few-on (Some g) (t ∷ ts) = elim (ends marked (size g + 1) t) as (λ b. 2 * length (cond b (with_next g t ∷ groups_on marked None ts) (groups_on marked (Some (with_next g t)) ts)) ≤ length (t ∷ ts) + 2) [
    | true ↦ let a = few-on None ts in omega (arith, a)
    | false ↦ let a = few-on (Some (with_next g t)) ts in omega (arith, a)
  ]

  pub groups-few : (ts : List T) → 2 * length (groups_of marked ts) ≤ length ts + 1
  groups-few ts = elim (nat_le 2 (length ts)) as (λ b. 2 * length (cond b (groups_on marked None ts) []) ≤ length ts + 1) [
    | true ↦ few-on None ts
    | false ↦ omega arith
  ]

  some-on : (g : Members T) (ts : List T) → 1 ≤ length (groups_on marked (Some g) ts)
  some-on g ts = let f = first-on g ts in let a = ap length f.is in omega (arith, a)

  -- Some members have a group.
  pub groups-some : (ts : List T) → 2 ≤ length ts → 1 ≤ length (groups_of marked ts)
  groups-some [] two = absurd (omega (arith, two))
  groups-some (t ∷ ts) two = let a = ap length (groups-over (t ∷ ts) two) in let b = some-on (alone t) ts in omega (arith, a, b)

  pub sizes-groups : (ts : List T) → 2 ≤ length ts → sizes (groups_of marked ts) ≡ length ts
  sizes-groups ts two = ap sizes (groups-over ts two) ∙ (sym (length-flat (groups_on marked None ts)) ∙ ap length (flat-groups ts))

  -- Levels get small.
  pub groups-halved : (k : ℕ) (ts : List T) → length ts ≤ 2 ^ (suc k) → length (groups_of marked ts) ≤ 2 ^ k
  groups-halved k ts le = let a = groups-few ts in let two : 2 ^ (suc k) ≡ 2 * 2 ^ k = halved k in omega (arith, a, le, two)
    where
      halved : (n : ℕ) → 2 ^ (suc n) ≡ 2 * 2 ^ n
      halved n = omega arith
