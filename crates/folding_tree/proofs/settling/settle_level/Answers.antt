use Rattle.std.proofs.Common.{◌≡◌, ◌-◌, ◌≤◌, ◌<◌, ℕ, ◌++◌, length, take, drop, map, append_assoc, length-take, length-drop, sym, ap, subst, ◌∙◌, arith}
use Rattle.std.specs.List.{All}
use Rattle.std.specs.VecDeque.{deque_capacity}
use Rattle.pin_table.specs.Covers.{Covered}
use Rattle.pin_table.proofs.Covering.{covered-left}
use Rattle.record_text.specs.Shifts.{put_at}
use Rattle.tree_laws.specs.Pairs.{pair_digest}
use Rattle.folding_tree.specs.Levels.{parts_pins}
use Rattle.tree_laws.specs.Trades.{Trades}
use Rattle.tree_laws.proofs.TradeLaws.{trades-then, trades-before, trades-covered}
use Rattle.folding_tree.proofs.ListLaws.{drop-clamped, length-put}
use Rattle.folding_tree.proofs.PartLaws.{pins-append}
use Rattle.folding_tree.proofs.SettleLaws.{level-trade}
use Rattle.folding_tree.proofs.settling.settle_level.Goals as goal

pub let_first_go-requires-clause-covered : goal.let_first_go-requires-clause-covered
let_first_go-requires-clause-covered g c =
    let d = pair_digest g.J.Job.encoded in
    covered-left c.args.caller.now (parts_pins d c.args.level.now.nodes.items) (parts_pins d c.args.draft.changed.items ++ parts_pins d c.args.draft.fresh.items) c.requires.covered

pub let_last_go-requires-clause-of : goal.let_last_go-requires-clause-of
let_last_go-requires-clause-of g c = c.let_first_go.ensures.trades.balanced.later.locks ∙ c.requires.of

pub let_last_go-requires-clause-covered : goal.let_last_go-requires-clause-covered
let_last_go-requires-clause-covered g c =
    let d = pair_digest g.J.Job.encoded in
    let t = c.args.caller.now in
    let ps = parts_pins d c.args.level.now.nodes.items in
    trades-covered t c.let_first_go.new.caller ps (parts_pins d c.let_first_go.new.parts.items) c.let_first_go.ensures.trades
    (covered-left t ps (parts_pins d c.args.draft.changed.items ++ parts_pins d c.args.draft.fresh.items) c.requires.covered)

pub overflow_sub-mid : goal.overflow_sub-mid
overflow_sub-mid g c = let kept = c.requires.fit.kept in omega (arith, kept)

pub exchange-requires-clause-of : goal.exchange-requires-clause-of
exchange-requires-clause-of g c = c.let_last_go.ensures.trades.balanced.later.locks ∙ c.let_first_go.ensures.trades.balanced.later.locks ∙ c.requires.of

pub exchange-requires-clause-covered : goal.exchange-requires-clause-covered
exchange-requires-clause-covered g c =
    let d = pair_digest g.J.Job.encoded in
    let t = c.args.caller.now in
    let u = c.let_first_go.new.caller in
    let v = c.let_last_go.new.caller in
    let ps = parts_pins d c.args.level.now.nodes.items in
    let qs = parts_pins d c.let_first_go.new.parts.items in
    let rs = parts_pins d c.let_last_go.new.parts.items in
    let cs = parts_pins d c.args.draft.changed.items in
    let fs = parts_pins d c.args.draft.fresh.items in
    let own : Covered t (ps ++ cs) = covered-left t (ps ++ cs) fs (subst (Covered t) (sym (append_assoc ps cs fs)) c.requires.covered) in
    trades-covered t v (ps ++ cs) (rs ++ cs)
    (trades-then t u v (ps ++ cs) (qs ++ cs) (rs ++ cs) (trades-before t u cs ps qs c.let_first_go.ensures.trades) (trades-before u v cs qs rs c.let_last_go.ensures.trades)) own

pub exchange-requires-clause-within : goal.exchange-requires-clause-within
exchange-requires-clause-within g c =
    let fit = c.requires.fit in
    let xs = c.args.level.now.nodes.items in
    let a = ap length c.let_first_go.ensures.rest in
    let b = ap length c.let_last_go.ensures.rest in
    let p = length-drop (length xs - c.saturating_sub-left.result) xs in
    let q = length-take (c.args.draft.mid - c.args.draft.low) c.let_first_go.new.parts.items in
    let left = c.saturating_sub-left.ensures in
    let gone = c.saturating_sub-gone.ensures in
    let len = c.len.ensures in
    let ok = c.args.level.now.nodes.ok.0 in
    let enough = fit.enough in
    subst (All (λ place. (c.args.draft.low ≤ place) × (place - c.args.draft.low < length c.let_last_go.new.parts.items))) (sym c.as_slice.ensures.value)
    (λ k x lt. let w = fit.within k x lt in let w0 = w.0 in let w1 = w.1 in (w0, omega (arith, w0, w1, a, b, p, q, left, gone, len, ok, enough)))

pub unreachable-requires : goal.unreachable-requires
unreachable-requires g c =
    let full = c.in-Err.ensures.full in
    let cap : deque_capacity c.exchange.new.nodes ≡ deque_capacity c.args.level.now.nodes = c.exchange.ensures.room ∙ c.let_last_go.ensures.room ∙ c.let_first_go.ensures.room in
    let n : length c.exchange.new.nodes.items ≡ length c.let_last_go.new.parts.items =
    ap length c.exchange.ensures.nodes ∙ length-put (map (λ (place : ℕ). place - c.args.draft.low) c.as_slice.result.now) c.args.draft.changed.items c.let_last_go.new.parts.items in
    let b = ap length c.let_last_go.ensures.rest in
    let q = length-take (c.args.draft.mid - c.args.draft.low) c.let_first_go.new.parts.items in
    let fresh = c.requires.fit.fresh in
    let kept = c.requires.fit.kept in
    let room = c.requires.room in
    let one = c.exchange.new.nodes.ok.0 in
    let two = c.args.draft.fresh.ok.0 in
    omega (arith, full, cap, n, b, q, fresh, kept, room, one, two)

pub returns-clause-row : goal.returns-clause-row
returns-clause-row g c =
    let xs = c.args.level.now.nodes.items in
    let left : c.saturating_sub-left.result ≡ length xs - (c.args.draft.from - c.args.level.now.low) =
    (let l = c.saturating_sub-left.ensures in let n = c.saturating_sub-gone.ensures in let len = c.len.ensures in let ok = c.args.level.now.nodes.ok.0 in omega (arith, l, n, len, ok)) in
    let first : c.let_first_go.new.parts.items ≡ drop (c.args.draft.from - c.args.level.now.low) xs = c.let_first_go.ensures.rest ∙ ap (λ n. drop (length xs - n) xs) left ∙ drop-clamped xs (c.args.draft.from - c.args.level.now.low) in
    let stay : c.let_last_go.new.parts.items ≡ take (c.args.draft.mid - c.args.draft.low) (drop (c.args.draft.from - c.args.level.now.low) xs) = c.let_last_go.ensures.rest ∙ ap (take (c.args.draft.mid - c.args.draft.low)) first in
    ap (λ ys. record { low = c.args.draft.low; parts = ys })
    (c.in-Ok.ensures.items
    ∙ ap (λ ys. ys ++ c.args.draft.fresh.items) (c.exchange.ensures.nodes
    ∙ ap (λ ps. put_at (map (λ place. place - c.args.draft.low) ps) c.args.draft.changed.items c.let_last_go.new.parts.items) c.as_slice.ensures.value
    ∙ ap (put_at (map (λ place. place - c.args.draft.low) c.args.draft.places.items) c.args.draft.changed.items) stay))

pub returns-clause-trades : goal.returns-clause-trades
returns-clause-trades g c =
    let d = pair_digest g.J.Job.encoded in
    let ss = c.exchange.new.nodes.items in
    subst (λ ps. Trades c.args.caller.now (parts_pins d c.args.level.now.nodes.items ++ (parts_pins d c.args.draft.changed.items ++ parts_pins d c.args.draft.fresh.items)) c.exchange.new.caller ps)
    (sym (ap (parts_pins d) c.in-Ok.ensures.items ∙ pins-append d ss c.args.draft.fresh.items))
    (level-trade c.args.caller.now c.let_first_go.new.caller c.let_last_go.new.caller c.exchange.new.caller
    (parts_pins d c.args.level.now.nodes.items) (parts_pins d c.let_first_go.new.parts.items) (parts_pins d c.let_last_go.new.parts.items) (parts_pins d ss) (parts_pins d c.args.draft.changed.items) (parts_pins d c.args.draft.fresh.items)
    c.let_first_go.ensures.trades c.let_last_go.ensures.trades c.exchange.ensures.trades)
