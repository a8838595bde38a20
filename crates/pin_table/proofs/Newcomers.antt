-- Callers that have played no turn.
use Rattle.std.proofs.Common.{◌≡◌, ℕ, List, [], ◌∷◌, ◌++◌, map, Some, slice_get, sym, ap, ◌∙◌}
use Rattle.atomic_table.specs.Seated.{TableId}
use Rattle.turn_lock.specs.Views.{LockView}
use Rattle.pin_table.specs.Views.{ShardKnown, CallerView, nothing, newcomer, with_lock}
use Rattle.pin_table.specs.Ends.{AreNewcomers}
use Rattle.pin_table.proofs.Places.{mapped-at, map-push}

pub numbers-of : (locks : List TableId) (cs : List CallerView) → AreNewcomers locks cs → (i : ℕ) (c : CallerView) → slice_get cs i ≡ Some c → c.number ≡ i
numbers-of locks cs fresh i c at = ap (λ (c : CallerView). c.number) (fresh i c at)

newcomer-more : (id : TableId) (locks : List TableId) (i : ℕ) → with_lock id (newcomer locks i) ≡ newcomer (locks ++ id ∷ []) i
newcomer-more id locks i = ap (λ (ks : List ShardKnown). record { locks = locks ++ id ∷ []; number = i; shards = ks }) (sym (map-push (λ (k : TableId). nothing) locks id))

-- Each has a pass at one more lock.
pub newcomers-more : (ls ms : List LockView) (l : LockView) (cs ds : List CallerView) → ms ≡ ls ++ l ∷ [] → ds ≡ map (with_lock l.id) cs → AreNewcomers (map (λ k. k.id) ls) cs → AreNewcomers (map (λ k. k.id) ms) ds
newcomers-more ls ms l cs ds is are fresh i d at =
    let x = mapped-at (with_lock l.id) cs i d (ap (λ (xs : List CallerView). slice_get xs i) (sym are) ∙ at) in
    let locks : map (λ (k : LockView). k.id) ms ≡ map (λ (k : LockView). k.id) ls ++ l.id ∷ [] = ap (map (λ (k : LockView). k.id)) is ∙ map-push (λ (k : LockView). k.id) ls l in
    sym x.2 ∙ (ap (with_lock l.id) (fresh i x.0 x.1) ∙ (newcomer-more l.id (map (λ k. k.id) ls) i ∙ ap (λ (xs : List TableId). newcomer xs i) (sym locks)))
