-- The job `extremes`: the least and the greatest number of each key.
use Rattle.std.specs.Prelude.{◌≡◌, ◌≤◌, ℕ, min, max, Bool, ◌&&◌, List, [], ◌∷◌, ◌++◌, decimal, Option, Some, None}
use Rattle.std.proofs.Common.{arith}
use Rattle.definitions.specs.Numbers.{is_number, digits_value}
use Rattle.definitions.specs.Tables.{HasGoodValues, IsGoodJoin}
use Rattle.job_laws.specs.Encoding.{be32}
use Rattle.job_laws.specs.Forms.{split_at_tab, has_bytes, fields_pass, is_short}
use Rattle.jobs_basic.specs.Lines.{line_of}
use Rattle.job_extremes.specs.declared.extent.Extent.{Extent}

-- Extremes accepts `key` TAB `number`, where the key is not empty.
abbrev pub is_extremes_record : List ℕ → Bool
is_extremes_record r = is_short r && fields_pass (λ key number. has_bytes key && is_number number) (split_at_tab r)

-- One number is the least and the greatest of itself.
abbrev pub extent_of : ℕ → Extent
extent_of n = record { least = n; greatest = n }

-- The key with the number alone, if there is a TAB.
abbrev pub extent_pair : Option (List ℕ × List ℕ) → List (List ℕ × Extent)
extent_pair None = []
extent_pair (Some p) = (p.0, extent_of (digits_value p.1)) ∷ []

-- The key with the number alone.
abbrev pub extremes_emits : List ℕ → List (List ℕ × Extent)
extremes_emits r = extent_pair (split_at_tab r)

-- The least of both leasts, and the greatest of both greatests.
abbrev pub extremes_joined : Extent → Extent → Extent
extremes_joined a b = record { least = min a.least b.least; greatest = max a.greatest b.greatest }

-- The least is at most the greatest.
abbrev pub extremes_good : Extent → Type 0
extremes_good e = e.least ≤ e.greatest

-- The line of the key with the least, TAB, the greatest.
abbrev pub extremes_text : List ℕ → Extent → List ℕ
extremes_text key e = line_of key (decimal e.least ++ 9 ∷ decimal e.greatest)

-- The least and the greatest as 4 bytes each.
abbrev pub extremes_encoded : Extent → List ℕ
extremes_encoded e = be32 e.least ++ be32 e.greatest

good_pair : (found : Option (List ℕ × List ℕ)) → HasGoodValues extremes_good (extent_pair found)
good_pair None = tt
good_pair (Some p) = (omega arith, tt)

-- Emitted values are good.
pub extremes_emits_good : (r : List ℕ) → HasGoodValues extremes_good (extremes_emits r)
extremes_emits_good r = good_pair (split_at_tab r)

-- Joining keeps good values, and is associative on them.
pub extremes_join_laws : IsGoodJoin extremes_good extremes_joined
extremes_join_laws = record { keeps = keeps_good; assoc = assoc_good }
  where
    keeps_good : (a b : Extent) → extremes_good a → extremes_good b → extremes_good (extremes_joined a b)
    keeps_good a b g h = omega arith

    assoc_good : (a b c : Extent) → extremes_good a → extremes_good b → extremes_good c → extremes_joined (extremes_joined a b) c ≡ extremes_joined a (extremes_joined b c)
    assoc_good a b c g h i =
        let least : min (min a.least b.least) c.least ≡ min a.least (min b.least c.least) = omega arith in
        let greatest : max (max a.greatest b.greatest) c.greatest ≡ max a.greatest (max b.greatest c.greatest) = omega arith in
        λ k. record { least = least k; greatest = greatest k }

-- Joining is commutative.
pub extremes_joined_comm : (a b : Extent) → extremes_joined a b ≡ extremes_joined b a
extremes_joined_comm a b =
    let least : min a.least b.least ≡ min b.least a.least = omega arith in
    let greatest : max a.greatest b.greatest ≡ max b.greatest a.greatest = omega arith in
    λ k. record { least = least k; greatest = greatest k }
