use Rattle.std.proofs.Common.{◌≡◌, ◌+◌, ◌++◌, ◌∷◌, [], ℕ, List, sym, ap, subst, ◌∙◌, arith, Some, true, false}
use Rattle.chunk_store.specs.Cutting.{Cutting, stops_at}
use Rattle.chunk_store.proofs.Cutting.{grown, ended, joined_closed}
use Rattle.chunk_store.proofs.Texts.{length_size}
use Rattle.chunk_store.proofs.cutter.Cutter.push.Goals as goal

pub push-requires-2-clause-room : goal.push-requires-2-clause-room
push-requires-2-clause-room c = let h = length_size c.self.inside.begun in let k = c.self.invariant.small in omega arith

pub invariant_of-result : goal.invariant_of-result
invariant_of-result c =
    let stops : stops_at c.self.inside.begun (Some c.args.r.now) ≡ true = subst (λ (s : Cutting). stops_at s.1 (Some c.args.r.now) ≡ true) (sym c.self.view_is) (sym c.stops_before-stops.ensures.stops ∙ c.if-stops.true) in
    let next : c.push.new.self ≡ c.args.r.now ∷ [] = c.in_ok-push.ensures.ok ∙ ap (λ (x : List (List ℕ)). x ++ c.args.r.now ∷ []) c.new-next.ensures in
    rw (c.in_ok-done.ensures, next, c.is_marker.ensures) (ended _ _ _ c.args.r.now c.requires c.self.invariant stops)

pub returns-then-stops : goal.returns-then-stops
returns-then-stops c =
    let next : c.push.new.self ≡ c.args.r.now ∷ [] = c.in_ok-push.ensures.ok ∙ ap (λ (x : List (List ℕ)). x ++ c.args.r.now ∷ []) c.new-next.ensures in
    rw (← c.self.view_is, c.in_ok-done.ensures, next) (ap (λ (x : List (List ℕ)). x ++ c.args.r.now ∷ []) (joined_closed c.self.inside.done.items c.self.inside.begun))

pub invariant_of-result-2 : goal.invariant_of-result-2
invariant_of-result-2 c =
    let stops : stops_at c.self.inside.begun (Some c.args.r.now) ≡ false = subst (λ (s : Cutting). stops_at s.1 (Some c.args.r.now) ≡ false) (sym c.self.view_is) (sym c.stops_before-stops.ensures.stops ∙ c.if-stops.false) in
    rw (c.in_ok-push-2.ensures.ok, c.is_marker-2.ensures) (grown _ _ _ c.args.r.now c.self.invariant stops)
