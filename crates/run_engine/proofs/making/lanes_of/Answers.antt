use Rattle.std.proofs.Common.{◌≡◌, ℕ, [], ◌∷◌, ◌++◌, List, map, sym, ap, ◌∙◌, append-nil, append_assoc}
use Rattle.std.proofs.lemmas.List.Elements.{All-nil, All-same, All-pop}
use Rattle.pin_table.specs.Views.{CallerView}
use Rattle.pin_table.specs.Known.{known_at}
use Rattle.run_engine.specs.declared.lane_seat.LaneSeat.{LaneSeat}
use Rattle.run_engine.proofs.MakeLoops.{lanes-more, empty-more}
use Rattle.run_engine.proofs.making.lanes_of.Goals as goal

pub callers-init : goal.callers-init
callers-init g c = record {
  rest = [];
  are = sym (append-nil c.args.callers.items);
  lanes = ap (λ (l : List (LaneSeat _ _ _)). map (λ (s : LaneSeat _ _ _). s.lane) l) c.new-lanes.ensures.items;
  empty = All-same (λ (s : LaneSeat _ _ _). (s.fresh.items ≡ []) × (s.gone.items ≡ [])) c.new-lanes.result.items [] c.new-lanes.ensures.items (All-nil (λ (s : LaneSeat _ _ _). (s.fresh.items ≡ []) × (s.gone.items ≡ [])));
  unused = c.requires.unused;
}

pub callers-preserved : goal.callers-preserved
callers-preserved g c =
    let i = c.callers.invariant in
    record {
      rest = c.in-Some.caller ∷ i.rest;
      are = i.are ∙ ap (λ (l : List CallerView). l ++ i.rest) c.in-Some.ensures.items ∙ append_assoc c.pop.new.self.items (c.in-Some.caller ∷ []) i.rest;
      lanes = lanes-more c.callers.lanes.items c.insert.new.self.items _ i.rest c.in-Some.caller c.in_ok-insert.ensures.items c.new.ensures i.lanes;
      empty = empty-more c.callers.lanes.items c.insert.new.self.items _ c.in_ok-insert.ensures.items c.new-in-Some.ensures.items c.new-in-Some-2.ensures.items i.empty;
      unused = (All-pop (λ (c : CallerView). (s : ℕ) → (known_at s c).mine ≡ []) c.callers.callers.items c.pop.new.self.items c.pop.result c.pop.ensures.items i.unused).0;
    }
