use Rattle.std.proofs.Common.{rules, ◌≡◌, ◌+◌, ◌<◌, ◌≤◌, List, [], ◌∷◌, ◌++◌, length, take, refl, sym, ap, ◌∙◌, append-nil, append_assoc}
use Rattle.std.proofs.lemmas.List.{take_all}
use Rattle.map_tasks.specs.Inputs.{InputView}
use Rattle.run_engine.specs.declared.lane_seat.LaneSeat.{LaneSeat}
use Rattle.run_engine.specs.Inputs.{goes_to}
use Rattle.run_engine.proofs.InPlaceSteps.{pairs-same, pairs-then, pairs-more}
use Rattle.run_engine.proofs.Dealt.{goes-more}
use Rattle.run_engine.proofs.dealing.deal_gone.Goals as goal

pub inputs-init : goal.inputs-init
inputs-init g c = pairs-same (λ k (s t : LaneSeat _ _ _). (t.lane ≡ s.lane) × (t.fresh.items ≡ s.fresh.items) × (t.gone.items ≡ s.gone.items ++ goes_to k (take 0 c.args.inputs.now.items))) c.args.lanes.now.items (λ k s. (refl, refl, sym (append-nil s.gone.items)))

pub inputs-preserved : goal.inputs-preserved
inputs-preserved g c =
    let xs = c.args.inputs.now.items in
    let x = c.index.result.now in
    let i = c.inputs.i in
    let lt : i < length xs = search rules in
    pairs-then
    (λ k (s t : LaneSeat _ _ _). (t.lane ≡ s.lane) × (t.fresh.items ≡ s.fresh.items) × (t.gone.items ≡ s.gone.items ++ goes_to k (take i xs)))
    (λ k (s t : LaneSeat _ _ _). (t.lane ≡ s.lane) × (t.fresh.items ≡ s.fresh.items) × (t.gone.items ≡ s.gone.items ++ goes_to k (x ∷ [])))
    (λ k (s t : LaneSeat _ _ _). (t.lane ≡ s.lane) × (t.fresh.items ≡ s.fresh.items) × (t.gone.items ≡ s.gone.items ++ goes_to k (take (i + 1) xs)))
    c.args.lanes.now.items c.inputs.lanes.items c.deal_one_gone.new.lanes.items
    (λ k a b d p q. (
      q.0 ∙ p.0,
      q.1 ∙ p.1,
      q.2 ∙ ap (λ (l : List InputView). l ++ goes_to k (x ∷ [])) p.2 ∙ append_assoc a.gone.items (goes_to k (take i xs)) (goes_to k (x ∷ [])) ∙ ap (λ (l : List InputView). a.gone.items ++ l) (sym (goes-more k xs i x lt c.index.ensures)),
    ))
    c.inputs.invariant c.in-Ok.ensures

pub returns-in-Err : goal.returns-in-Err
returns-in-Err g c =
    pairs-then
    (λ k (s t : LaneSeat _ _ _). (t.lane ≡ s.lane) × (t.fresh.items ≡ s.fresh.items) × (t.gone.items ≡ s.gone.items ++ goes_to k (take c.inputs.i c.args.inputs.now.items)))
    (λ k (s t : LaneSeat _ _ _). (t.lane ≡ s.lane) × (t.fresh.items ≡ s.fresh.items) × Unit {0})
    (λ k (s t : LaneSeat _ _ _). (t.lane ≡ s.lane) × (t.fresh.items ≡ s.fresh.items) × Unit {0})
    c.args.lanes.now.items c.inputs.lanes.items c.deal_one_gone.new.lanes.items
    (λ k a b d p q. (q.0 ∙ p.0, q.1 ∙ p.1, tt)) c.inputs.invariant c.in-Err.ensures

pub returns : goal.returns
returns g c =
    let xs = c.args.inputs.now.items in
    let ge : length xs ≤ c.inputs.i = search rules in
    pairs-more
    (λ k (s t : LaneSeat _ _ _). (t.lane ≡ s.lane) × (t.fresh.items ≡ s.fresh.items) × (t.gone.items ≡ s.gone.items ++ goes_to k (take c.inputs.i xs)))
    (λ k (s t : LaneSeat _ _ _). (t.lane ≡ s.lane) × (t.fresh.items ≡ s.fresh.items) × (t.gone.items ≡ s.gone.items ++ goes_to k xs))
    c.args.lanes.now.items c.inputs.lanes.items
    (λ k a b p. (p.0, p.1, p.2 ∙ ap (λ (l : List InputView). a.gone.items ++ goes_to k l) (take_all c.inputs.i xs ge))) c.inputs.invariant
