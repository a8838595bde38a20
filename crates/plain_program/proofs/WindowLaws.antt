-- What an accepted window emits, and its records leaf by leaf.
use Rattle.std.proofs.Common.{◌≡◌, ◌<◌, ℕ, zero, suc, ◌+◌, List, [], ◌∷◌, ◌++◌, length, take, sym, ap, ◌∙◌, arith, append-nil, append_assoc, All}
use Rattle.std.specs.Prelude.{IsTrue, slice_index_or}
use Rattle.std.proofs.lemmas.List.Elements.{All-head, All-tail}
use Rattle.definitions.specs.Tables.{HasGoodValues}
use Rattle.definitions.specs.Answer.{pairs_of}
use Rattle.definitions.proofs.AnswerLaws.{good-append}
use Rattle.job_laws.specs.Meanings.{Meaning, AllAccepted}
use Rattle.marker_chunker.specs.Cuts.{joined}
use Rattle.window_manager.specs.Windows.{Leaf}
use Rattle.slider_session.proofs.Accepted.{joined_accepted}

-- one leaf more
pub joined_more : (leaves : List Leaf) (i : ℕ) (d : Leaf) → i < length leaves → joined (take (i + 1) leaves) ≡ joined (take i leaves) ++ slice_index_or leaves i d
joined_more [] i d h = absurd (omega arith)
joined_more (leaf ∷ leaves) zero d h = append-nil leaf
joined_more (leaf ∷ leaves) (suc i) d h = ap (λ k. joined (take k (leaf ∷ leaves))) {y = suc (i + 1)} (omega arith) ∙ ap (λ (x : Leaf). leaf ++ x) (joined_more leaves i d (omega arith)) ∙ sym (append_assoc leaf (joined (take i leaves)) (slice_index_or leaves i d))

module _ {V : Type 0} (j : Meaning V) (good : V → Type 0) (each : (r : List ℕ) → IsTrue (j.accepts r) → HasGoodValues good (j.emits r)) where
  -- what accepted records emit has good values
  records_good : (records : List (List ℕ)) → AllAccepted j records → HasGoodValues good (pairs_of j.emits records)
  records_good [] all = tt
  records_good (r ∷ rs) all = good-append good (j.emits r) (pairs_of j.emits rs) (each r (All-head (λ r. IsTrue (j.accepts r)) r rs all)) (records_good rs (All-tail (λ r. IsTrue (j.accepts r)) r rs all))

  -- what accepted leaves emit has good values
  pub window_good : (leaves : List Leaf) → All (AllAccepted j) leaves → HasGoodValues good (pairs_of j.emits (joined leaves))
  window_good leaves all = records_good (joined leaves) (joined_accepted j leaves all)
