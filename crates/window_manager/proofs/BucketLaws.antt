-- Windows of buckets before and after a command.
use Rattle.std.proofs.Common.{◌≡◌, ◌≢◌, ℕ, ◌+◌, ◌-◌, ◌<◌, ◌≤◌, Bool, true, false, List, [], ◌∷◌, ◌++◌, length, drop, get_or, refl, sym, ap, ◌∙◌, subst, arith, length-drop}
use Rattle.std.specs.Prelude.{not, ◌&&◌, nat_le, nat_lt, if◌then◌else◌}
use Rattle.std.specs.declared.option.Option.TheVariants.{Some, None}
use Rattle.std.proofs.lemmas.Bool.Decides.{nat_tests}
use Rattle.definitions.specs.Records.{text_of}
use Rattle.record_text.specs.declared.kind.Kind.{Kind}
use Rattle.record_text.specs.declared.kind.Kind.TheVariants as Kinds
use Rattle.record_text.specs.declared.command.Command.{Command}
use Rattle.record_text.specs.declared.command.Command.TheVariants.{Bucket, Drop, Late, File, Remove, Edit, Load, Run}
use Rattle.window_manager.specs.Windows.{Leaf, WindowState, has_command, is_circle, last_of, with_leaf, with_late, asks_too_many, is_large, window_after, refusal_of, record_refusal, first_refused, brought}
use Rattle.window_manager.specs.Slides.{Slid, slid_after, late_after, with_place}
use Rattle.window_manager.specs.Buckets.{BucketView, IsOfBuckets, buckets_after, leaving, text_size}
use Rattle.window_manager.specs.declared.fault.WindowFault.TheVariants.{NotHere, TooMany}
use Rattle.window_manager.proofs.TextLaws.{size_append, size_cut, size_one, size_late, size_part, count_late, count_size, late_nothing}

-- a kind of buckets has the command `bucket`
has_bucket : (kind : Kind) (records : List (List ℕ)) → kind ≢ Kinds.Document → has_command kind (Bucket records) ≡ true
has_bucket Kinds.Buckets records is = refl
has_bucket Kinds.Circle records is = refl
has_bucket Kinds.Growing records is = refl
has_bucket Kinds.Document records is = absurd (is refl)

-- a command that its kind has, and that asks for no more than there may be, is refused only for its records
pub records_refused : (accepts : List ℕ → Bool) (w : WindowState) (c : Command) (large : Bool) → has_command w.kind c ≡ true → asks_too_many w c ≡ false → is_large (window_after w c) ≡ large → record_refusal (first_refused accepts (brought c)) large ≡ refusal_of accepts w c
records_refused accepts w c large has few is = sym (λ i. if not (has i) then Some NotHere else if few i then Some TooMany else record_refusal (first_refused accepts (brought c)) (is i))

-- a command that asks for more than there is, or than there may be
too_many : (accepts : List ℕ → Bool) (w : WindowState) (c : Command) → has_command w.kind c ≡ true → asks_too_many w c ≡ true → Some TooMany ≡ refusal_of accepts w c
too_many accepts w c has many = sym (λ i. if not (has i) then Some NotHere else if many i then Some TooMany else record_refusal (first_refused accepts (brought c)) (is_large (window_after w c)))

-- tests of numbers
nat_is_lt : (a b : ℕ) → a < b → nat_lt a b ≡ true
nat_is_lt a b h = grind (arith, nat_tests)

nat_not_lt : (a b : ℕ) → b ≤ a → nat_lt a b ≡ false
nat_not_lt a b h = grind (arith, nat_tests)

nat_is_le : (a b : ℕ) → a ≤ b → nat_le a b ≡ true
nat_is_le a b h = grind (arith, nat_tests)

nat_not_le : (a b : ℕ) → b < a → nat_le a b ≡ false
nat_not_le a b h = grind (arith, nat_tests)

drop_one : (leaves : List Leaf) (leaf : Leaf) → 1 ≤ length leaves → drop 1 (leaves ++ leaf ∷ []) ≡ drop 1 leaves ++ leaf ∷ []
drop_one [] leaf some = absurd (omega (arith, some))
drop_one (l ∷ ls) leaf some = refl

one_longer : (leaves : List Leaf) (leaf : Leaf) → length (leaves ++ leaf ∷ []) ≡ length leaves + 1
one_longer [] leaf = refl
one_longer (l ∷ ls) leaf = let rest = one_longer ls leaf in omega (arith, rest)

circle_is : (places : ℕ) (leaves : List Leaf) (leaf : Leaf) (b : Bool) → nat_le places (length leaves) ≡ b → 1 ≤ places → length leaves ≤ places → last_of places (leaves ++ leaf ∷ []) ≡ drop (if b then 1 else 0) leaves ++ leaf ∷ []
circle_is places leaves leaf true is some fits =
    let full : places ≤ length leaves = grind (arith, nat_tests) in
    let n : length (leaves ++ leaf ∷ []) - places ≡ 1 = omega (arith, one_longer leaves leaf, full, fits) in
    ap (λ (k : ℕ). drop k (leaves ++ leaf ∷ [])) n ∙ drop_one leaves leaf (omega (arith, full, some))
circle_is places leaves leaf false is some fits =
    let room : length leaves < places = grind (arith, nat_tests) in
    let n : length (leaves ++ leaf ∷ []) - places ≡ 0 = omega (arith, one_longer leaves leaf, room) in
    ap (λ (k : ℕ). drop k (leaves ++ leaf ∷ [])) n

-- a new leaf comes after those that stay
pub with_leaf-is : (kind : Kind) (places : ℕ) (leaves : List Leaf) (leaf : Leaf) → 1 ≤ places → (kind ≡ Kinds.Circle → length leaves ≤ places) → with_leaf kind places leaves leaf ≡ drop (leaving kind places (length leaves)) leaves ++ leaf ∷ []
with_leaf-is Kinds.Buckets places leaves leaf some fits = refl
with_leaf-is Kinds.Growing places leaves leaf some fits = refl
with_leaf-is Kinds.Document places leaves leaf some fits = refl
with_leaf-is Kinds.Circle places leaves leaf some fits = circle_is places leaves leaf (nat_le places (length leaves)) refl some (fits refl)

leaves_within : (kind : Kind) (places count : ℕ) → 1 ≤ places → leaving kind places count ≤ count
leaves_within kind places count some = grind (arith, nat_tests)

few_places : (kind : Kind) (places count : ℕ) → kind ≡ Kinds.Circle → 1 ≤ places → count ≤ places → count + 1 - leaving kind places count ≤ places
few_places kind places count is some fits = subst (λ (k : Kind). count + 1 - leaving k places count ≤ places) (sym is) (grind (arith, nat_tests))

few_leaves : (kind : Kind) (places count : ℕ) → (not (is_circle kind) && nat_le 65536 count) ≡ false → 1 ≤ places → places ≤ 4096 → (kind ≡ Kinds.Circle → count ≤ places) → count + 1 - leaving kind places count ≤ 65536
few_leaves Kinds.Buckets places count few some small circle = grind (arith, nat_tests)
few_leaves Kinds.Growing places count few some small circle = grind (arith, nat_tests)
few_leaves Kinds.Document places count few some small circle = grind (arith, nat_tests)
few_leaves Kinds.Circle places count few some small circle = let fits = few_places Kinds.Circle places count refl some (circle refl) in omega (arith, fits, small)

pub not_large : (n : ℕ) → nat_lt 268435456 n ≡ false → n ≤ 268435456
not_large n is = grind (arith, nat_tests)

-- the first leaves left, so no text came
pub size_drop : (n : ℕ) (leaves : List Leaf) → text_size (drop n leaves) ≤ text_size leaves
size_drop n leaves = omega (arith, size_cut n leaves)

-- a new leaf in a window of buckets
module _ (w : WindowState) (is : IsOfBuckets w) (leaf : Leaf) where
  pub leaf_after : (window_after w (Bucket leaf)).leaves ≡ drop (leaving w.kind w.places (length w.leaves)) w.leaves ++ leaf ∷ []
  leaf_after = with_leaf-is w.kind w.places w.leaves leaf is.some is.circle

  pub size_with : text_size (window_after w (Bucket leaf)).leaves ≡ text_size (drop (leaving w.kind w.places (length w.leaves)) w.leaves) + length (text_of leaf)
  size_with =
      let stays : List Leaf = drop (leaving w.kind w.places (length w.leaves)) w.leaves in
      ap text_size leaf_after ∙ size_append stays (leaf ∷ []) ∙ ap (λ (n : ℕ). text_size stays + n) (size_one leaf)

  pub bucket_refused : (accepts : List ℕ → Bool) (kept : ℕ) → kept ≡ text_size (drop (leaving w.kind w.places (length w.leaves)) w.leaves) → asks_too_many w (Bucket leaf) ≡ false → record_refusal (first_refused accepts leaf) (nat_lt 268435456 (kept + length (text_of leaf))) ≡ refusal_of accepts w (Bucket leaf)
  bucket_refused accepts kept same few =
      records_refused accepts w (Bucket leaf) (nat_lt 268435456 (kept + length (text_of leaf))) (has_bucket w.kind leaf is.buckets) few
      (ap (λ (n : ℕ). nat_lt 268435456 n) (size_with ∙ ap (λ (n : ℕ). n + length (text_of leaf)) (sym same)))

  pub count_with : length (drop (leaving w.kind w.places (length w.leaves)) w.leaves ++ leaf ∷ []) ≡ length w.leaves + 1 - leaving w.kind w.places (length w.leaves)
  count_with = omega (arith, one_longer (drop (leaving w.kind w.places (length w.leaves)) w.leaves) leaf, length-drop (leaving w.kind w.places (length w.leaves)) w.leaves, leaves_within w.kind w.places (length w.leaves) is.some)

  pub bucket_kept : asks_too_many w (Bucket leaf) ≡ false → is_large (window_after w (Bucket leaf)) ≡ false → IsOfBuckets (record w { leaves = drop (leaving w.kind w.places (length w.leaves)) w.leaves ++ leaf ∷ [] })
  bucket_kept few fits =
      let small : text_size (window_after w (Bucket leaf)).leaves ≤ 268435456 = not_large (text_size (window_after w (Bucket leaf)).leaves) fits in record {
        buckets = is.buckets;
        some = is.some;
        few = is.few;
        small = subst (λ (l : List Leaf). text_size l ≤ 268435456) leaf_after small;
        count = subst (λ (n : ℕ). n ≤ 65536) (sym count_with) (few_leaves w.kind w.places (length w.leaves) few is.some is.few is.circle);
        circle = λ round. subst (λ (n : ℕ). n ≤ w.places) (sym count_with) (few_places w.kind w.places (length w.leaves) round is.some (is.circle round));
      }

-- buckets go
large_not : (n : ℕ) → n ≤ 268435456 → nat_lt 268435456 n ≡ false
large_not n is = grind (arith, nat_tests)

module _ (w : WindowState) (n : ℕ) where
  pub drop_none : IsOfBuckets w → has_command w.kind (Drop n) ≡ true → n ≤ length w.leaves → (accepts : List ℕ → Bool) → None ≡ refusal_of accepts w (Drop n)
  drop_none is has within accepts =
      records_refused accepts w (Drop n) false has (nat_not_lt (length w.leaves) n within) (large_not (text_size (drop n w.leaves)) (omega (arith, size_drop n w.leaves, is.small)))

  pub drop_many : has_command w.kind (Drop n) ≡ true → length w.leaves < n → (accepts : List ℕ → Bool) → Some TooMany ≡ refusal_of accepts w (Drop n)
  drop_many has beyond accepts = too_many accepts w (Drop n) has (nat_is_lt (length w.leaves) n beyond)

  pub drop_kept : IsOfBuckets w → IsOfBuckets (record w { leaves = drop n w.leaves })
  drop_kept is = record {
    buckets = is.buckets;
    some = is.some;
    few = is.few;
    small = omega (arith, size_drop n w.leaves, is.small);
    count = omega (arith, length-drop n w.leaves, is.count);
    circle = λ round. let fits = is.circle round in omega (arith, length-drop n w.leaves, fits);
  }

-- records are added at the end of a bucket
module _ (w : WindowState) (place : ℕ) (more : List (List ℕ)) where
  pub late_refused : (accepts : List ℕ → Bool) (kept : ℕ) → has_command w.kind (Late place more) ≡ true → place < length w.leaves → kept ≡ text_size w.leaves → record_refusal (first_refused accepts more) (nat_lt 268435456 (kept + length (text_of more))) ≡ refusal_of accepts w (Late place more)
  late_refused accepts kept has within same =
      records_refused accepts w (Late place more) (nat_lt 268435456 (kept + length (text_of more))) has (nat_not_le (length w.leaves) place within)
      (ap (λ (n : ℕ). nat_lt 268435456 n) (size_late place more w.leaves within ∙ ap (λ (n : ℕ). n + length (text_of more)) (sym same)))

  pub late_many : (accepts : List ℕ → Bool) → has_command w.kind (Late place more) ≡ true → length w.leaves ≤ place → Some TooMany ≡ refusal_of accepts w (Late place more)
  late_many accepts has beyond = too_many accepts w (Late place more) has (nat_is_le (length w.leaves) place beyond)

  pub late_kept : IsOfBuckets w → is_large (window_after w (Late place more)) ≡ false → IsOfBuckets (record w { leaves = with_late place more w.leaves })
  late_kept is fits = record {
    buckets = is.buckets;
    some = is.some;
    few = is.few;
    small = not_large (text_size (with_late place more w.leaves)) fits;
    count = let n = count_late place more w.leaves in omega (arith, n, is.count);
    circle = λ round. let n = count_late place more w.leaves in let l = is.circle round in omega (arith, n, l);
  }

-- commands that no window of buckets has
abbrev pub IsOther : Command → Type 0
IsOther (Bucket records) = ⊥
IsOther (Drop n) = ⊥
IsOther (Late place more) = ⊥
IsOther c = Unit {0}

pub other_has : (kind : Kind) (c : Command) → kind ≢ Kinds.Document → IsOther c → has_command kind c ≡ false
other_has Kinds.Document c is other = absurd (is refl)
other_has kind (Bucket records) is other = absurd other
other_has kind (Drop n) is other = absurd other
other_has kind (Late place more) is other = absurd other
other_has Kinds.Buckets (File name) is other = refl
other_has Kinds.Buckets (Remove name) is other = refl
other_has Kinds.Buckets (Edit at del ins) is other = refl
other_has Kinds.Buckets (Load records) is other = refl
other_has Kinds.Buckets Run is other = refl
other_has Kinds.Circle (File name) is other = refl
other_has Kinds.Circle (Remove name) is other = refl
other_has Kinds.Circle (Edit at del ins) is other = refl
other_has Kinds.Circle (Load records) is other = refl
other_has Kinds.Circle Run is other = refl
other_has Kinds.Growing (File name) is other = refl
other_has Kinds.Growing (Remove name) is other = refl
other_has Kinds.Growing (Edit at del ins) is other = refl
other_has Kinds.Growing (Load records) is other = refl
other_has Kinds.Growing Run is other = refl

pub not_here : (accepts : List ℕ → Bool) (w : WindowState) (c : Command) → has_command w.kind c ≡ false → Some NotHere ≡ refusal_of accepts w c
not_here accepts w c has = sym (λ i. if not (has i) then Some NotHere else if asks_too_many w c then Some TooMany else record_refusal (first_refused accepts (brought c)) (is_large (window_after w c)))

pub other_refused : (accepts : List ℕ → Bool) (w : WindowState) (c : Command) → IsOfBuckets w → IsOther c → Some NotHere ≡ refusal_of accepts w c
other_refused accepts w c is other = not_here accepts w c (other_has w.kind c is.buckets other)

-- no records came
pub late_none : (v : BucketView) (place : ℕ) (more : List (List ℕ)) → more ≡ [] → v ≡ buckets_after v (Late place more)
late_none v place more none =
    (λ i. record { window = record v.window { leaves = sym (late_nothing place v.window.leaves) i }; slid = v.slid })
    ∙ ap (λ (m : List (List ℕ)). buckets_after v (Late place m)) (sym none)

late_some : (old place : ℕ) (more : List (List ℕ)) (late : List ℕ) → more ≢ [] → (if nat_lt place old then with_place place late else late) ≡ late_after old place more late
late_some old place [] late some = absurd (some refl)
late_some old place (r ∷ rs) late some = refl

-- some records came to a leaf
abbrev pub late_slid : Slid → ℕ → ℕ → Slid
late_slid s count place = record { accepted = s.accepted; stood = s.stood; fresh = s.fresh; late = if nat_lt place (count - s.fresh) then with_place place s.late else s.late }

pub marked : (w : WindowState) (s : Slid) (place : ℕ) (more : List (List ℕ)) → more ≢ [] → late_slid s (length w.leaves) place ≡ slid_after w (Late place more) s
marked w s place more some = λ i. record { accepted = s.accepted; stood = s.stood; fresh = s.fresh; late = late_some (length w.leaves - s.fresh) place more s.late some i }

-- the records of a leaf with more fit in one list
pub few_records : (leaves : List Leaf) (place : ℕ) (leaf : Leaf) (more : List (List ℕ)) → place < length leaves → leaf ≡ get_or leaves place leaf → text_size (with_late place more leaves) ≤ 268435456 → length leaf + length more < 4294967296
few_records leaves place leaf more lt is small = omega (arith, small, size_late place more leaves lt, size_part leaves place leaf lt is, count_size leaf, count_size more)

pub is_other : (c : Command) → ((records : List (List ℕ)) → c ≢ Bucket records) → ((n : ℕ) → c ≢ Drop n) → ((place : ℕ) (more : List (List ℕ)) → c ≢ Late place more) → IsOther c
is_other (Bucket records) a b d = absurd (a records refl)
is_other (Drop n) a b d = absurd (b n refl)
is_other (Late place more) a b d = absurd (d place more refl)
is_other (File name) a b d = tt
is_other (Remove name) a b d = tt
is_other (Edit at del ins) a b d = tt
is_other (Load records) a b d = tt
is_other Run a b d = tt
