use Rattle.std.proofs.Common.{◌*◌, ◌+◌, ◌-◌, ◌/◌, ◌%◌, ℕ, [], refl, sym, subst, ◌∙◌, arith}
use Rattle.std.specs.List.{All}
use Rattle.job_laws.specs.Counted.{RoseBy}
use Rattle.tree_laws.specs.Pairs.{pair_digest}
use Rattle.tree_laws.specs.Trees.{distinct_keys}
use Rattle.tree_laws.proofs.LeafLaws.{merged-within, rose-still}
use Rattle.folding_tree.specs.Levels.{parts_pins, merges_over, row_after, places_from, beyond, AreMade, HasHalf}
use Rattle.folding_tree.specs.Folding.{row_of, ahead_of}
use Rattle.tree_laws.specs.Trades.{Trades}
use Rattle.tree_laws.proofs.TradeLaws.{trades-same, trades-then, got-covered_all}
use Rattle.folding_tree.proofs.RaiseLaws.{trades-add, trades-idle, met-either, end-within, parents-half, behind-half, level-merges, changed-merges, all-merges, rose-two, fit-high}
use Rattle.folding_tree.proofs.raising.raise.Goals as goal

pub places_between-requires : goal.places_between-requires
places_between-requires g c =
    let d = pair_digest g.J.Job.encoded in
    let row = row_of c.args.below.now in
    let ahead = ahead_of c.args.draft.now in
    let fit = c.requires.fits in
    let begins = c.requires.begins in
    let high : ℕ = c.args.draft.now.high / 2 + c.args.draft.now.high % 2 in
    let mid = c.end_of_kept-mid.result in
    let ends = end-within c.args.draft.now.low c.args.draft.now.mid c.args.draft.now.high mid high fit.kept (fit-high row ahead fit begins) refl c.end_of_kept-mid.ensures.some c.end_of_kept-mid.ensures.none in
    ends.1

pub make_all-requires-clause-halves : goal.make_all-requires-clause-halves
make_all-requires-clause-halves g c =
    let d = pair_digest g.J.Job.encoded in
    let row = row_of c.args.below.now in
    let ahead = ahead_of c.args.draft.now in
    let fit = c.requires.fits in
    let begins = c.requires.begins in
    let high : ℕ = c.args.draft.now.high / 2 + c.args.draft.now.high % 2 in
    let mid = c.end_of_kept-mid.result in
    let ends = end-within c.args.draft.now.low c.args.draft.now.mid c.args.draft.now.high mid high fit.kept (fit-high row ahead fit begins) refl c.end_of_kept-mid.ensures.some c.end_of_kept-mid.ensures.none in
    let places = c.in-Ok.places.items in
    let parents = c.in-Ok.ensures in
    subst (All (HasHalf ahead)) (sym c.as_slice.ensures.value) (parents-half row ahead fit begins mid places (let a = ends.1 in let b = ends.2 in omega (arith, a, b)) parents)

pub make_all-requires-2-clause-of : goal.make_all-requires-2-clause-of
make_all-requires-2-clause-of g c =
    c.in-Ok-make_all.ensures.trades.balanced.later.locks ∙ c.requires.of

pub make_all-requires-2-clause-halves : goal.make_all-requires-2-clause-halves
make_all-requires-2-clause-halves g c =
    let d = pair_digest g.J.Job.encoded in
    let row = row_of c.args.below.now in
    let ahead = ahead_of c.args.draft.now in
    let fit = c.requires.fits in
    let begins = c.requires.begins in
    let high : ℕ = c.args.draft.now.high / 2 + c.args.draft.now.high % 2 in
    let mid = c.end_of_kept-mid.result in
    let ends = end-within c.args.draft.now.low c.args.draft.now.mid c.args.draft.now.high mid high fit.kept (fit-high row ahead fit begins) refl c.end_of_kept-mid.ensures.some c.end_of_kept-mid.ensures.none in
    subst (All (HasHalf ahead)) (sym (c.as_slice-2.ensures.value ∙ c.in-Ok-places_between.ensures)) (behind-half row ahead fit begins mid high ends.0 ends.1 ends.2)

pub returns-in-Err-clause-err : goal.returns-in-Err-clause-err
returns-in-Err-clause-err g c =
    trades-same c.args.caller.now []

pub returns-in-Err-clause-counted : goal.returns-in-Err-clause-counted
returns-in-Err-clause-counted g c =
    let n : ℕ = 2 + beyond c.args.draft.now.low c.args.draft.now.places.items + (c.args.draft.now.high - c.args.draft.now.mid) in
    λ ts within. rose-still n (n * distinct_keys ts) (g.J.Meter.Meter.counts c.args.m.now)

pub returns-in-Err-places_between-clause-err : goal.returns-in-Err-places_between-clause-err
returns-in-Err-places_between-clause-err g c =
    trades-same c.args.caller.now []

pub returns-in-Err-places_between-clause-counted : goal.returns-in-Err-places_between-clause-counted
returns-in-Err-places_between-clause-counted g c =
    let n : ℕ = 2 + beyond c.args.draft.now.low c.args.draft.now.places.items + (c.args.draft.now.high - c.args.draft.now.mid) in
    λ ts within. rose-still n (n * distinct_keys ts) (g.J.Meter.Meter.counts c.args.m.now)

pub returns-in-Err-make_all-clause-counted : goal.returns-in-Err-make_all-clause-counted
returns-in-Err-make_all-clause-counted g c =
    let d = pair_digest g.J.Job.encoded in
    let row = row_of c.args.below.now in
    let ahead = ahead_of c.args.draft.now in
    let fit = c.requires.fits in
    let begins = c.requires.begins in
    let high : ℕ = c.args.draft.now.high / 2 + c.args.draft.now.high % 2 in
    let mid = c.end_of_kept-mid.result in
    let ends = end-within c.args.draft.now.low c.args.draft.now.mid c.args.draft.now.high mid high fit.kept (fit-high row ahead fit begins) refl c.end_of_kept-mid.ensures.some c.end_of_kept-mid.ensures.none in
    let places = c.in-Ok.places.items in
    let parents = c.in-Ok.ensures in
    let n : ℕ = 2 + beyond c.args.draft.now.low c.args.draft.now.places.items + (c.args.draft.now.high - c.args.draft.now.mid) in
    let R = row_after row ahead in
    let x = g.J.Meter.Meter.counts c.args.m.now in
    let y = g.J.Meter.Meter.counts c.make_all.new.m in
    λ ts within. merged-within (merges_over R places) n (distinct_keys ts) x y (changed-merges row ahead fit begins mid high places parents ends.2 ends.3) (subst (λ ps. RoseBy 0 (merges_over R ps) (merges_over R ps * distinct_keys ts) x y) c.as_slice.ensures.value (c.make_all.ensures.counted ts within))

pub returns-in-Ok-make_all-2-clause-counted : goal.returns-in-Ok-make_all-2-clause-counted
returns-in-Ok-make_all-2-clause-counted g c =
    let d = pair_digest g.J.Job.encoded in
    let row = row_of c.args.below.now in
    let ahead = ahead_of c.args.draft.now in
    let fit = c.requires.fits in
    let begins = c.requires.begins in
    let high : ℕ = c.args.draft.now.high / 2 + c.args.draft.now.high % 2 in
    let mid = c.end_of_kept-mid.result in
    let ends = end-within c.args.draft.now.low c.args.draft.now.mid c.args.draft.now.high mid high fit.kept (fit-high row ahead fit begins) refl c.end_of_kept-mid.ensures.some c.end_of_kept-mid.ensures.none in
    let places = c.in-Ok.places.items in
    let parents = c.in-Ok.ensures in
    let u = c.args.caller.now in
    let v = c.make_all.new.caller in
    let w = c.make_all-2.new.caller in
    let x = g.J.Meter.Meter.counts c.args.m.now in
    let y = g.J.Meter.Meter.counts c.make_all.new.m in
    let z = g.J.Meter.Meter.counts c.make_all-2.new.m in
    let R = row_after row ahead in
    let behind = places_from mid (high - mid) in
    let n : ℕ = 2 + beyond c.args.draft.now.low c.args.draft.now.places.items + (c.args.draft.now.high - c.args.draft.now.mid) in
    λ ts within. rose-two (merges_over R places) (merges_over R behind) n (distinct_keys ts) x y z (all-merges row ahead fit begins mid high places parents ends.2 ends.3) (subst (λ ps. RoseBy 0 (merges_over R ps) (merges_over R ps * distinct_keys ts) x y) c.as_slice.ensures.value (c.make_all.ensures.counted ts within)) (subst (λ ps. RoseBy 0 (merges_over R ps) (merges_over R ps * distinct_keys ts) y z) (c.as_slice-2.ensures.value ∙ c.in-Ok-places_between.ensures) (c.make_all-2.ensures.counted ts within))

pub returns-in-Ok-make_all-2-clause-spared : goal.returns-in-Ok-make_all-2-clause-spared
returns-in-Ok-make_all-2-clause-spared g c =
    let d = pair_digest g.J.Job.encoded in
    let row = row_of c.args.below.now in
    let ahead = ahead_of c.args.draft.now in
    let fit = c.requires.fits in
    let begins = c.requires.begins in
    let high : ℕ = c.args.draft.now.high / 2 + c.args.draft.now.high % 2 in
    let mid = c.end_of_kept-mid.result in
    let ends = end-within c.args.draft.now.low c.args.draft.now.mid c.args.draft.now.high mid high fit.kept (fit-high row ahead fit begins) refl c.end_of_kept-mid.ensures.some c.end_of_kept-mid.ensures.none in
    let places = c.in-Ok.places.items in
    let parents = c.in-Ok.ensures in
    let u = c.args.caller.now in
    let v = c.make_all.new.caller in
    let w = c.make_all-2.new.caller in
    let x = g.J.Meter.Meter.counts c.args.m.now in
    let y = g.J.Meter.Meter.counts c.make_all.new.m in
    let z = g.J.Meter.Meter.counts c.make_all-2.new.m in
    let R = row_after row ahead in
    let behind = places_from mid (high - mid) in
    let n : ℕ = 2 + beyond c.args.draft.now.low c.args.draft.now.places.items + (c.args.draft.now.high - c.args.draft.now.mid) in
    let most : ℕ = n - (high - mid) in
    λ ts within. rose-two (merges_over R places) (merges_over R behind) most (distinct_keys ts) x y z (level-merges row ahead fit begins mid high places parents ends.2 ends.3) (subst (λ ps. RoseBy 0 (merges_over R ps) (merges_over R ps * distinct_keys ts) x y) c.as_slice.ensures.value (c.make_all.ensures.counted ts within)) (subst (λ ps. RoseBy 0 (merges_over R ps) (merges_over R ps * distinct_keys ts) y z) (c.as_slice-2.ensures.value ∙ c.in-Ok-places_between.ensures) (c.make_all-2.ensures.counted ts within))

pub returns-in-Ok-make_all-2-clause-raised : goal.returns-in-Ok-make_all-2-clause-raised
returns-in-Ok-make_all-2-clause-raised g c =
    let d = pair_digest g.J.Job.encoded in
    let row = row_of c.args.below.now in
    let ahead = ahead_of c.args.draft.now in
    let fit = c.requires.fits in
    let begins = c.requires.begins in
    let high : ℕ = c.args.draft.now.high / 2 + c.args.draft.now.high % 2 in
    let mid = c.end_of_kept-mid.result in
    let ends = end-within c.args.draft.now.low c.args.draft.now.mid c.args.draft.now.high mid high fit.kept (fit-high row ahead fit begins) refl c.end_of_kept-mid.ensures.some c.end_of_kept-mid.ensures.none in
    let places = c.in-Ok.places.items in
    let parents = c.in-Ok.ensures in
    let R = row_after row ahead in
    record {
      from = refl;
      low = refl;
      high = ends.2;
      mid = ends.3;
      parents = parents;
      changed = subst (λ ps. AreMade g.J.Job.joined R ps c.in-Ok-make_all.changed.items) c.as_slice.ensures.value c.in-Ok-make_all.ensures.made;
      fresh = subst (λ ps. AreMade g.J.Job.joined R ps c.in-Ok-make_all-2.fresh.items) (c.as_slice-2.ensures.value ∙ c.in-Ok-places_between.ensures) c.in-Ok-make_all-2.ensures.made;
    }

pub returns-in-Ok-make_all-2-clause-trades : goal.returns-in-Ok-make_all-2-clause-trades
returns-in-Ok-make_all-2-clause-trades g c =
    let d = pair_digest g.J.Job.encoded in
    trades-add c.args.caller.now c.make_all.new.caller c.make_all-2.new.caller [] (parts_pins d c.in-Ok-make_all.changed.items) (parts_pins d c.in-Ok-make_all-2.fresh.items) c.in-Ok-make_all.ensures.trades c.in-Ok-make_all-2.ensures.trades

pub returns-in-Ok-make_all-2-clause-loose : goal.returns-in-Ok-make_all-2-clause-loose
returns-in-Ok-make_all-2-clause-loose g c =
    met-either c.in-Ok-make_all.changed.items c.in-Ok-make_all-2.fresh.items c.args.caller.now c.make_all.new.caller c.make_all-2.new.caller c.in-Ok-make_all.ensures.trades.balanced.later c.in-Ok-make_all-2.ensures.trades.balanced.later c.in-Ok-make_all.ensures.loose c.in-Ok-make_all-2.ensures.loose

pub let_last_go-requires-clause-of : goal.let_last_go-requires-clause-of
let_last_go-requires-clause-of g c =
    let d = pair_digest g.J.Job.encoded in
    let u = c.args.caller.now in
    let v = c.make_all.new.caller in
    let w = c.make_all-2.new.caller in
    let pins = parts_pins d c.in-Ok-make_all.changed.items in
    let got = trades-idle u v w [] pins c.in-Ok-make_all.ensures.trades c.in-Err-make_all-2.ensures.err in
    got.balanced.later.locks ∙ c.requires.of

pub let_last_go-requires-clause-covered : goal.let_last_go-requires-clause-covered
let_last_go-requires-clause-covered g c =
    let d = pair_digest g.J.Job.encoded in
    let u = c.args.caller.now in
    let v = c.make_all.new.caller in
    let w = c.make_all-2.new.caller in
    let pins = parts_pins d c.in-Ok-make_all.changed.items in
    let got = trades-idle u v w [] pins c.in-Ok-make_all.ensures.trades c.in-Err-make_all-2.ensures.err in
    got-covered_all u w pins got

pub returns-in-Err-make_all-2-clause-err : goal.returns-in-Err-make_all-2-clause-err
returns-in-Err-make_all-2-clause-err g c =
    let d = pair_digest g.J.Job.encoded in
    let u = c.args.caller.now in
    let v = c.make_all.new.caller in
    let w = c.make_all-2.new.caller in
    let pins = parts_pins d c.in-Ok-make_all.changed.items in
    let got = trades-idle u v w [] pins c.in-Ok-make_all.ensures.trades c.in-Err-make_all-2.ensures.err in
    let end = c.let_last_go.new.caller in
    let gone : Trades w pins end [] = subst (λ ps. Trades w pins end (parts_pins d ps)) c.let_last_go.ensures.rest c.let_last_go.ensures.trades in
    trades-then u w end [] pins [] got gone

pub returns-in-Err-make_all-2-clause-counted : goal.returns-in-Err-make_all-2-clause-counted
returns-in-Err-make_all-2-clause-counted g c =
    let d = pair_digest g.J.Job.encoded in
    let row = row_of c.args.below.now in
    let ahead = ahead_of c.args.draft.now in
    let fit = c.requires.fits in
    let begins = c.requires.begins in
    let high : ℕ = c.args.draft.now.high / 2 + c.args.draft.now.high % 2 in
    let mid = c.end_of_kept-mid.result in
    let ends = end-within c.args.draft.now.low c.args.draft.now.mid c.args.draft.now.high mid high fit.kept (fit-high row ahead fit begins) refl c.end_of_kept-mid.ensures.some c.end_of_kept-mid.ensures.none in
    let places = c.in-Ok.places.items in
    let parents = c.in-Ok.ensures in
    let u = c.args.caller.now in
    let v = c.make_all.new.caller in
    let w = c.make_all-2.new.caller in
    let x = g.J.Meter.Meter.counts c.args.m.now in
    let y = g.J.Meter.Meter.counts c.make_all.new.m in
    let z = g.J.Meter.Meter.counts c.make_all-2.new.m in
    let R = row_after row ahead in
    let behind = places_from mid (high - mid) in
    let n : ℕ = 2 + beyond c.args.draft.now.low c.args.draft.now.places.items + (c.args.draft.now.high - c.args.draft.now.mid) in
    λ ts within. rose-two (merges_over R places) (merges_over R behind) n (distinct_keys ts) x y z (all-merges row ahead fit begins mid high places parents ends.2 ends.3) (subst (λ ps. RoseBy 0 (merges_over R ps) (merges_over R ps * distinct_keys ts) x y) c.as_slice.ensures.value (c.make_all.ensures.counted ts within)) (subst (λ ps. RoseBy 0 (merges_over R ps) (merges_over R ps * distinct_keys ts) y z) (c.as_slice-2.ensures.value ∙ c.in-Ok-places_between.ensures) (c.make_all-2.ensures.counted ts within))
