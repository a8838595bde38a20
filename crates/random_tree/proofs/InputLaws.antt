-- The inputs of the levels over a list: their number, and that enough levels have all of them.
use Rattle.std.proofs.Common.{◌≡◌, ◌⊎◌, inl, inr, ℕ, suc, zero, ◌+◌, ◌-◌, ◌*◌, ◌^◌, ◌≤◌, Bool, true, false, cond, List, [], ◌∷◌, ◌++◌, length, map, fold, Some, None, refl, sym, ap, ◌∙◌, arith, append_assoc, length-append}
use Rattle.std.proofs.lemmas.List.{length-map}
use Rattle.std.proofs.lemmas.Nat.{pow_pos}
use Rattle.random_tree.specs.Groups.{Members, with_next, size, ends, groups_on, groups_of, whole, inputs_from, group_inputs, level_inputs, next, inputs_by, inputs_of}
use Rattle.random_tree.proofs.GroupLaws.{sizes, groups-none, groups-some, groups-halved, sizes-groups}

module _ {T X : Type 0} (join : T → T → T) (input : T → T → X) where
  length-from : (a : T) (ts : List T) → length (inputs_from join input a ts) ≡ length ts
  length-from a [] = refl
  length-from a (t ∷ ts) = ap suc (length-from (join a t) ts)

  pub length-group : (g : Members T) → length (group_inputs join input g) ≡ length g.others
  length-group g = length-from g.first g.others

  -- A level has as many inputs as it has fewer groups than the level below.
  pub length-level : (gs : List (Members T)) → length (level_inputs join input gs) + length gs ≡ sizes gs
  length-level [] = refl
  length-level (g ∷ gs) = let a = length-append (group_inputs join input g) (level_inputs join input gs) in let b = length-group g in let c = length-level gs in omega (arith, a, b, c)

  inputs-more : (a : T) (ts : List T) (t : T) → inputs_from join input a (ts ++ t ∷ []) ≡ inputs_from join input a ts ++ input (fold join a ts) t ∷ []
  inputs-more a [] t = refl
  inputs-more a (u ∷ ts) t = ap (λ (xs : List X). input a u ∷ xs) (inputs-more (join a u) ts t)

  -- A group with one member more has one input more.
  pub inputs-next : (g : Members T) (t : T) → group_inputs join input (with_next g t) ≡ group_inputs join input g ++ input (whole join g) t ∷ []
  inputs-next g t = inputs-more g.first g.others t

  next-first : (g : Members T) (t : T) (more : List X) → group_inputs join input (with_next g t) ++ more ≡ group_inputs join input g ++ (input (whole join g) t ∷ more)
  next-first g t more = ap (λ (xs : List X). xs ++ more) (inputs-next g t) ∙ append_assoc (group_inputs join input g) (input (whole join g) t ∷ []) more

  module _ (marked : T → Bool) where
    pub inputs-none : (k : ℕ) (ts : List T) → length ts ≤ 1 → inputs_by marked join input k ts ≡ []
    inputs-none zero ts few = refl
    inputs-none (suc k) ts few =
        let none = groups-none marked ts few in
        ap (λ (gs : List (Members T)). level_inputs join input gs ++ inputs_by marked join input k (map (whole join) gs)) none ∙ inputs-none k [] (omega arith)

    -- The inputs of a begun group come first.
    pub inputs-begin : (g : Members T) (ts : List T) → (more : List X) × (level_inputs join input (groups_on marked (Some g) ts) ≡ group_inputs join input g ++ more)
    inputs-begin g [] = ([], refl)
    inputs-begin g (t ∷ ts) =
        elim (ends marked (size g + 1) t) as (λ b. (more : List X) × (level_inputs join input (cond b (with_next g t ∷ groups_on marked None ts) (groups_on marked (Some (with_next g t)) ts)) ≡ group_inputs join input g ++ more)) [
          | true ↦ (input (whole join g) t ∷ level_inputs join input (groups_on marked None ts), next-first g t (level_inputs join input (groups_on marked None ts)))
          | false ↦ let (more, e) = inputs-begin (with_next g t) ts in (input (whole join g) t ∷ more, e ∙ next-first g t more)
        ]

    -- And then that of the next member.
    pub inputs-then : (g : Members T) (t : T) (ts : List T) → (more : List X) × (level_inputs join input (groups_on marked (Some g) (t ∷ ts)) ≡ group_inputs join input g ++ (input (whole join g) t ∷ more))
    inputs-then g t ts =
        elim (ends marked (size g + 1) t) as (λ b. (more : List X) × (level_inputs join input (cond b (with_next g t ∷ groups_on marked None ts) (groups_on marked (Some (with_next g t)) ts)) ≡ group_inputs join input g ++ (input (whole join g) t ∷ more))) [
          | true ↦ (level_inputs join input (groups_on marked None ts), next-first g t (level_inputs join input (groups_on marked None ts)))
          | false ↦ let (more, e) = inputs-begin (with_next g t) ts in (more, e ∙ next-first g t more)
        ]

    pub length-next : (k : ℕ) (ts : List T) → length ts ≤ 2 ^ (suc k) → length (next marked join ts) ≤ 2 ^ k
    length-next k ts le = let a = length-map (groups_of marked ts) (whole join) in let b = groups-halved marked k ts le in omega (arith, a, b)

    -- Enough levels have all inputs.
    pub inputs-enough : (k j : ℕ) (ts : List T) → length ts ≤ 2 ^ k → length ts ≤ 2 ^ j → inputs_by marked join input k ts ≡ inputs_by marked join input j ts
    inputs-enough zero j ts a b = sym (inputs-none j ts (omega (arith, a)))
    inputs-enough (suc k) zero ts a b = inputs-none (suc k) ts (omega (arith, b))
    inputs-enough (suc k) (suc j) ts a b = ap (λ (xs : List X). level_inputs join input (groups_of marked ts) ++ xs) (inputs-enough k j (next marked join ts) (length-next k ts a) (length-next j ts b))

    count-by : (k : ℕ) (ts : List T) → length ts ≤ 2 ^ k → length (inputs_by marked join input k ts) ≡ length ts - 1
    count-by zero ts le = omega (arith, le)
    count-by (suc k) ts le = go (few_or_two (length ts)) (count-by k (next marked join ts) (length-next k ts le))
      where
        few_or_two : (n : ℕ) → (n ≤ 1) ⊎ (2 ≤ n)
        few_or_two zero = inl (omega arith)
        few_or_two (suc zero) = inl (omega arith)
        few_or_two (suc (suc n)) = inr (omega arith)

        go : (length ts ≤ 1) ⊎ (2 ≤ length ts) → length (inputs_by marked join input k (next marked join ts)) ≡ length (next marked join ts) - 1 → length (inputs_by marked join input (suc k) ts) ≡ length ts - 1
        go (inl few) d = (let a = ap length (inputs-none (suc k) ts few) in omega (arith, a, few))
        go (inr two) d =
            let a = length-append (level_inputs join input (groups_of marked ts)) (inputs_by marked join input k (next marked join ts)) in
            let b = length-level (groups_of marked ts) in
            let c = sizes-groups marked ts two in
            let e = length-map (groups_of marked ts) (whole join) in
            let f = groups-some marked ts two in
            omega (arith, a, b, c, d, e, f, two)

    below-power : (n : ℕ) → n ≤ 2 ^ n
    below-power zero = omega arith
    below-power (suc n) = let a = below-power n in let two : 2 ^ (suc n) ≡ 2 * 2 ^ n = omega arith in let one = pow_pos n in omega (arith, a, two, one)

    -- A tree over m leaves has m - 1 inputs.
    pub count-inputs : (ts : List T) → length (inputs_of marked join input ts) ≡ length ts - 1
    count-inputs ts = count-by (length ts) ts (below-power (length ts))

    pub inputs-all : (k : ℕ) (ts : List T) → length ts ≤ 2 ^ k → inputs_by marked join input k ts ≡ inputs_of marked join input ts
    inputs-all k ts le = inputs-enough k (length ts) ts le (below-power (length ts))
