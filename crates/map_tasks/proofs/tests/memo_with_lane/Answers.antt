use Rattle.std.proofs.Common.{◌≡◌, List, [], ◌∷◌, ◌++◌, sym, ap, ◌∙◌, append-nil}
use Rattle.pin_table.specs.Views.{CallerView}
use Rattle.map_tasks.specs.Lanes.{LaneView}
use Rattle.map_tasks.proofs.Backing.{newcomer-among}
use Rattle.map_tasks.proofs.tests.memo_with_lane.Goals as goal

pub new-requires : goal.new-requires
new-requires g c =
    let is : c.in_ok-memo.callers.items ≡ (c.pop-2.new.self.items ++ c.in-Some-pop.caller ∷ []) ++ c.in-Some.other ∷ [] = c.in-Some.ensures.items ∙ ap (λ (xs : List CallerView). xs ++ c.in-Some.other ∷ []) c.in-Some-pop.ensures.items in
    record { unused = (newcomer-among c.in_ok-memo.memo.locks c.in_ok-memo.callers.items c.pop-2.new.self.items (c.in-Some.other ∷ []) c.in-Some-pop.caller c.in_ok-memo.ensures.fresh is).1 }

pub returns-clause-lane : goal.returns-clause-lane
returns-clause-lane g c =
    let is : c.in_ok-memo.callers.items ≡ (c.pop-2.new.self.items ++ c.in-Some-pop.caller ∷ []) ++ c.in-Some.other ∷ [] = c.in-Some.ensures.items ∙ ap (λ (xs : List CallerView). xs ++ c.in-Some.other ∷ []) c.in-Some-pop.ensures.items in (
      ap (λ (v : LaneView). v.caller.locks) c.new.ensures ∙ (newcomer-among c.in_ok-memo.memo.locks c.in_ok-memo.callers.items c.pop-2.new.self.items (c.in-Some.other ∷ []) c.in-Some-pop.caller c.in_ok-memo.ensures.fresh is).0,
      ap (λ (v : LaneView). v.texts) c.new.ensures,
    )

pub returns-clause-other : goal.returns-clause-other
returns-clause-other g c =
    (newcomer-among c.in_ok-memo.memo.locks c.in_ok-memo.callers.items c.pop.new.self.items [] c.in-Some.other c.in_ok-memo.ensures.fresh (c.in-Some.ensures.items ∙ sym (append-nil (c.pop.new.self.items ++ c.in-Some.other ∷ [])))).0
