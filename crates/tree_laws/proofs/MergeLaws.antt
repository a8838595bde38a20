-- The answers of a look and of a keep, as holds on the merge of a pair.
use Rattle.std.proofs.Common.{◌≡◌, ℕ, true, false, List, [], ◌∷◌, length, Result, Ok, Err, IfOk, OnErr, refl, sym, ap, subst, ◌∙◌, inr}
use Rattle.std.specs.List.{list_any}
use Rattle.std.specs.declared.alloc.AllocError.{AllocError}
use Rattle.memo_core.specs.declared.event.Event.{Event}
use Rattle.memo_core.specs.declared.event.Event.TheVariants.{Look, Keep}
use Rattle.memo_core.specs.declared.event.LookAnswer.TheVariants.{Hit as HitAnswer}
use Rattle.memo_core.specs.declared.event.KeepAnswer.TheVariants.{Stored as StoredAnswer, Found as FoundAnswer}
use Rattle.memo_server.specs.Views.{EntryView}
use Rattle.sheets.specs.Sheets.{SheetOf}
use Rattle.pin_table.specs.Views.{CallerView, PinView}
use Rattle.pin_table.specs.Placing.{shard_at}
use Rattle.pin_table.specs.Known.{CallerFits, WornOut, AtShard, IsWorn}
use Rattle.pin_table.specs.Answers.{HitAs, StoredAs, FoundAs, KeepClashAs}
use Rattle.pin_table.specs.declared.answers.Looked.TheVariants.{Hit}
use Rattle.pin_table.specs.declared.answers.Kept.TheVariants.{Stored, Found, Clash as KeepClash}
use Rattle.pin_table.specs.Covers.{Got, IsLater}
use Rattle.pin_table.specs.OwnEvents.{there, gained, is_hit, is_miss, Quiet}
use Rattle.pin_table.proofs.Covering.{got-then}
use Rattle.pin_table.proofs.Answering.{looks-got, keeps-got, got-worn, same-pin}
use Rattle.pin_table.proofs.OwnEvents.{hit-event, stored-event, found-event, keep-clash-met, worn-there, quiet-any, quiet-none}
use Rattle.tree_laws.specs.Pairs.{PairOf, IsMergeOf}
use Rattle.tree_laws.specs.Holds.{IsHeld}
use Rattle.tree_laws.specs.declared.hold.Hold.{Hold}
use Rattle.tree_laws.specs.declared.hold.Hold.TheVariants.{Pinned, Loose}
use Rattle.tree_laws.proofs.HoldLaws.{pinned-held, loose-held, held-after}

module _ {J V M : Type 0} (joined : ℕ → V → V → V) (digest_of : PairOf V → List ℕ) (run : ℕ) (pair : PairOf V) (v w : CallerView) (known : CallerFits v) where
  pub hit-held : (p : PinView (PairOf V) (SheetOf V)) → AtShard (HitAs (IsMergeOf joined) digest_of v.number (there (digest_of pair) v) run pair p) (there (digest_of pair) v) v w → IsHeld {J = J} {V = V} {M = M} digest_of pair v w (Pinned p)
  hit-held p h =
      pinned-held digest_of pair (Look v.number run (digest_of pair) (HitAnswer p.id)) v w p
      (looks-got v w known {R = Unit {0}} (IsMergeOf joined) digest_of run pair (Hit p) h) h.goes.2 (same-pin p.id (digest_of pair)) (hit-event (IsMergeOf joined) digest_of run pair v w p h)

  pub stored-held : (out : SheetOf V) (p : PinView (PairOf V) (SheetOf V)) → AtShard (StoredAs (IsMergeOf joined) digest_of v.number (there (digest_of pair) v) run pair out p) (there (digest_of pair) v) v w → IsHeld {J = J} {V = V} {M = M} digest_of pair v w (Pinned p)
  stored-held out p h =
      pinned-held digest_of pair (Keep v.number run (digest_of pair) (StoredAnswer p.id)) v w p
      (keeps-got v w known {R = Unit {0}} (IsMergeOf joined) digest_of run pair out (Stored p) h) h.goes.2 (same-pin p.id (digest_of pair)) (stored-event (IsMergeOf joined) digest_of run pair v w out p h)

  pub found-held : (out : SheetOf V) (p : PinView (PairOf V) (SheetOf V)) → AtShard (FoundAs (IsMergeOf joined) digest_of v.number (there (digest_of pair) v) run pair p) (there (digest_of pair) v) v w → IsHeld {J = J} {V = V} {M = M} digest_of pair v w (Pinned p)
  found-held out p h =
      pinned-held digest_of pair (Keep v.number run (digest_of pair) (FoundAnswer p.id)) v w p
      (keeps-got v w known {R = Unit {0}} (IsMergeOf joined) digest_of run pair out (Found p) h) h.goes.2 (same-pin p.id (digest_of pair)) (found-event (IsMergeOf joined) digest_of run pair v w p h)

  pub clash-held : (out s : SheetOf V) (e : EntryView (PairOf V) (SheetOf V)) (i : PairOf V) (o : SheetOf V) → AtShard (KeepClashAs (IsMergeOf joined) digest_of v.number run pair out e i o) (there (digest_of pair) v) v w → IsHeld {J = J} {V = V} {M = M} digest_of pair v w (Loose s)
  clash-held out s e i o h =
      loose-held digest_of pair s v w (keeps-got v w known {R = Unit {0}} (IsMergeOf joined) digest_of run pair out (KeepClash e i o) h).0 (keep-clash-met (IsMergeOf joined) digest_of run pair v w out e i o h)

module _ {J V M : Type 0} (digest_of : PairOf V → List ℕ) (pair : PairOf V) (v w : CallerView) where
  -- A keep at a worn lock.
  pub worn-held : (out : SheetOf V) (ticket s : ℕ) → there (digest_of pair) v ≡ s → AtShard (WornOut ticket) s v w → IsHeld {J = J} {V = V} {M = M} digest_of pair v w (Loose out)
  worn-held out ticket s place at = loose-held digest_of pair out v w (got-worn ticket s v w at) (inr (subst (λ (i : ℕ). IsWorn i w) (sym place) (worn-there ticket s v w at)))

  -- A quiet look, and then a merge that is kept.
  module _ (x : CallerView) (es : List Event) (q : Quiet (digest_of pair) es v w) (r : Result (Hold J V M) AllocError) (held : IfOk r (λ h. IsHeld digest_of pair w x h)) (unheld : OnErr r (Got w [] x)) where
    pub kept-later : IsLater w x
    kept-later = either r held unheld
      where
        either : (a : Result (Hold J V M) AllocError) → IfOk a (λ h. IsHeld digest_of pair w x h) → OnErr a (Got w [] x) → IsLater w x
        either (Ok h) a b = a.got.later
        either (Err e) a b = b.later

    pub kept-held : IfOk r (λ h. IsHeld digest_of pair v x h)
    kept-held = either r held
      where
        either : (a : Result (Hold J V M) AllocError) → IfOk a (λ h. IsHeld digest_of pair w x h) → IfOk a (λ h. IsHeld digest_of pair v x h)
        either (Ok h) a = held-after digest_of pair es v w x h q a
        either (Err e) a = tt

    pub kept-unheld : OnErr r (Got v [] x)
    kept-unheld = either r unheld
      where
        either : (a : Result (Hold J V M) AllocError) → OnErr a (Got w [] x) → OnErr a (Got v [] x)
        either (Ok h) a = tt
        either (Err e) a = got-then v w x [] [] q.got a

    pub kept-missed : list_any (is_miss (digest_of pair)) es ≡ true → list_any (is_miss (digest_of pair)) (gained (digest_of pair) v x) ≡ true
    kept-missed h = quiet-any (digest_of pair) (is_miss (digest_of pair)) es v w x h q kept-later

    pub kept-unhit : list_any (is_hit (digest_of pair)) es ≡ false → list_any (is_hit (digest_of pair)) (gained (digest_of pair) w x) ≡ false → list_any (is_hit (digest_of pair)) (gained (digest_of pair) v x) ≡ true → ⊥
    kept-unhit none after hit =
        let no : list_any (is_hit (digest_of pair)) (gained (digest_of pair) v x) ≡ false = quiet-none (digest_of pair) (is_hit (digest_of pair)) es v w x none q kept-later after in
        let both : true ≡ false = sym hit ∙ no in cc

    pub kept-worn : (s : ℕ) → there (digest_of pair) v ≡ s → IsWorn s w → IsWorn (there (digest_of pair) v) x
    kept-worn s place worn = kept-later.worn (there (digest_of pair) v) (subst (λ (i : ℕ). IsWorn i w) (sym place) worn)
