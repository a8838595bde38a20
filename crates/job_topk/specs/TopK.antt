-- The job `topk`: the first members of each group, score falling.
use Rattle.std.specs.Prelude.{◌≤◌, ℕ, max, List, [], ◌∷◌, ◌++◌, length, take, decimal, Option, Some, None}
use Rattle.std.specs.declared.cmp.Ordering.{Ordering}
use Rattle.std.specs.List.{flat_map}
use Rattle.std.specs.Ordering.{nat_cmp, on, then_cmp, flip_args}
use Rattle.definitions.specs.Numbers.{digits_value}
use Rattle.definitions.specs.Tables.{key_cmp}
use Rattle.job_laws.specs.Forms.{split_at_tab}
use Rattle.job_laws.specs.Encoding.{be32}
use Rattle.job_topk.specs.Merging.{in_order, IsOrdered}

-- The group with the list of one member, if there are both TABs.
abbrev pub member_pair : List ℕ → Option (List ℕ × List ℕ) → List (List ℕ × List (ℕ × List ℕ))
member_pair group None = []
member_pair group (Some p) = (group, (digits_value p.0, p.1) ∷ []) ∷ []

-- The same of both fields round the first TAB.
abbrev pub group_pair : Option (List ℕ × List ℕ) → List (List ℕ × List (ℕ × List ℕ))
group_pair None = []
group_pair (Some p) = member_pair p.0 (split_at_tab p.1)

-- The group with the list of one member.
abbrev pub topk_emits : List ℕ → List (List ℕ × List (ℕ × List ℕ))
topk_emits r = group_pair (split_at_tab r)

-- Score falling, then item rising in the order of bytes.
abbrev pub member_cmp : ℕ × List ℕ → ℕ × List ℕ → Ordering
member_cmp = then_cmp (on (λ m. m.0) (flip_args nat_cmp)) (on (λ m. m.1) key_cmp)

-- The first k of the two lists merged, repeats kept.
abbrev pub topk_joined : ℕ → List (ℕ × List ℕ) → List (ℕ × List ℕ) → List (ℕ × List ℕ)
topk_joined k a b = take k (in_order member_cmp a b)

-- A list in this order of at most k members; a list of one member is good at every k.
abbrev pub topk_good : ℕ → List (ℕ × List ℕ) → Type 0
topk_good k v = (length v ≤ max k 1) × IsOrdered member_cmp v

-- A score between two TABs.
abbrev pub score_text : ℕ → List ℕ
score_text score = 9 ∷ decimal score ++ 9 ∷ []

-- An item with its LF.
abbrev pub item_text : List ℕ → List ℕ
item_text item = item ++ 10 ∷ []

-- The group, TAB, the score, TAB, the item, LF.
abbrev pub member_text : List ℕ → ℕ × List ℕ → List ℕ
member_text group m = group ++ (score_text m.0 ++ item_text m.1)

-- That line for each member in order.
abbrev pub topk_text : List ℕ → List (ℕ × List ℕ) → List ℕ
topk_text group ms = flat_map (member_text group) ms

-- The score and the item's length as 4 bytes each, and the item.
abbrev pub member_encoded : ℕ × List ℕ → List ℕ
member_encoded m = be32 m.0 ++ (be32 (length m.1) ++ m.1)

-- That for each member in order.
abbrev pub topk_encoded : List (ℕ × List ℕ) → List ℕ
topk_encoded ms = flat_map member_encoded ms
