use Rattle.std.proofs.Common.{◌≡◌, ◌⊎◌, ℕ, suc, ◌+◌, ◌-◌, ◌<◌, [], length, true, refl, sym, ap, subst, ◌∙◌, arith}
use Rattle.pin_table.specs.OwnEvents.{Met}
use Rattle.tree_laws.specs.Pairs.{pair_digest}
use Rattle.folding_tree.specs.Shapes.{without}
use Rattle.folding_tree.specs.Levels.{Row, rows_loose}
use Rattle.folding_tree.specs.Folding.{rows_of, aheads_of, drafts_pins}
use Rattle.tree_laws.specs.Trades.{Trades}
use Rattle.tree_laws.proofs.TradeLaws.{trades-same, trades-then, got-covered_all}
use Rattle.tree_laws.proofs.LeafLaws.{rose-still}
use Rattle.folding_tree.proofs.LevelLaws.{rows-read, rows-after_loose}
use Rattle.folding_tree.proofs.AdvanceLaws.{kept-stays, kept-starts, kept-places, kept-grows, advanced-counted, advanced-is}
use Rattle.folding_tree.proofs.tower.advance.Goals as goal

pub index-requires : goal.index-requires
index-requires g c =
    let deep = c.requires.deep in
    let ok = c.args.levels.now.ok.0 in
    omega (arith, deep, ok)

pub build-requires-clause-over : goal.build-requires-clause-over
build-requires-clause-over g c =
    let d = pair_digest g.J.Job.encoded in
    let olds = c.args.levels.now.items in
    let level = c.index.result.now in
    let some : 0 < length olds = (let deep = c.requires.deep in omega (arith, deep)) in
    let row = rows-read olds 0 level some c.index.ensures in
    let kept = c.span_of_kept-kept.result in
    let whole = c.in-Some.whole in
    let k = c.span_of_kept-kept.ensures in
    let w = c.in-Some.ensures in
    let n : c.len-count.result ≡ length (rows_of olds 0).parts = (let read = c.index-2.result.now in let same = ap (λ (r : Row _ _ _). length r.parts) (rows-read olds 0 read some c.index-2.ensures) in let l = c.len-count.ensures in let ok = read.nodes.ok.0 in omega (arith, same, l, ok)) in
    let from_is : level.low + c.args.gone ≡ (rows_of olds 0).low + c.args.gone = ap (λ (r : Row _ _ _). r.low + c.args.gone) (sym row) in
    let shape = k.shape ∙ (λ i. without c.args.gone (record { height = c.args.at.height; low = (sym row i).low; high = (sym row i).low + n i })) in
    let count : kept.high ≡ kept.low + (length (rows_of olds 0).parts - c.args.gone) = k.count ∙ ap (λ (m : ℕ). kept.low + (m - c.args.gone)) n in
    let within = c.requires.within in
    λ i lt. c.requires.tree.tower.over i (let le = k.lower in omega (arith, lt, le))

pub build-requires-clause-kept : goal.build-requires-clause-kept
build-requires-clause-kept g c =
    let d = pair_digest g.J.Job.encoded in
    let olds = c.args.levels.now.items in
    let level = c.index.result.now in
    let some : 0 < length olds = (let deep = c.requires.deep in omega (arith, deep)) in
    let row = rows-read olds 0 level some c.index.ensures in
    let kept = c.span_of_kept-kept.result in
    let whole = c.in-Some.whole in
    let k = c.span_of_kept-kept.ensures in
    let w = c.in-Some.ensures in
    let n : c.len-count.result ≡ length (rows_of olds 0).parts = (let read = c.index-2.result.now in let same = ap (λ (r : Row _ _ _). length r.parts) (rows-read olds 0 read some c.index-2.ensures) in let l = c.len-count.ensures in let ok = read.nodes.ok.0 in omega (arith, same, l, ok)) in
    let from_is : level.low + c.args.gone ≡ (rows_of olds 0).low + c.args.gone = ap (λ (r : Row _ _ _). r.low + c.args.gone) (sym row) in
    let shape = k.shape ∙ (λ i. without c.args.gone (record { height = c.args.at.height; low = (sym row i).low; high = (sym row i).low + n i })) in
    let count : kept.high ≡ kept.low + (length (rows_of olds 0).parts - c.args.gone) = k.count ∙ ap (λ (m : ℕ). kept.low + (m - c.args.gone)) n in
    let within = c.requires.within in
    let wide = k.wide in
    let fits = k.fits in
    (omega (arith, count), omega (arith, wide, fits))

pub build-requires-clause-whole : goal.build-requires-clause-whole
build-requires-clause-whole g c =
    let d = pair_digest g.J.Job.encoded in
    let olds = c.args.levels.now.items in
    let level = c.index.result.now in
    let some : 0 < length olds = (let deep = c.requires.deep in omega (arith, deep)) in
    let row = rows-read olds 0 level some c.index.ensures in
    let kept = c.span_of_kept-kept.result in
    let whole = c.in-Some.whole in
    let k = c.span_of_kept-kept.ensures in
    let w = c.in-Some.ensures in
    let n : c.len-count.result ≡ length (rows_of olds 0).parts = (let read = c.index-2.result.now in let same = ap (λ (r : Row _ _ _). length r.parts) (rows-read olds 0 read some c.index-2.ensures) in let l = c.len-count.ensures in let ok = read.nodes.ok.0 in omega (arith, same, l, ok)) in
    let from_is : level.low + c.args.gone ≡ (rows_of olds 0).low + c.args.gone = ap (λ (r : Row _ _ _). r.low + c.args.gone) (sym row) in
    let shape = k.shape ∙ (λ i. without c.args.gone (record { height = c.args.at.height; low = (sym row i).low; high = (sym row i).low + n i })) in
    let count : kept.high ≡ kept.low + (length (rows_of olds 0).parts - c.args.gone) = k.count ∙ ap (λ (m : ℕ). kept.low + (m - c.args.gone)) n in
    let within = c.requires.within in
    let wide = w.wide in
    let fits = w.fits in
    let high = w.low.1 in
    (w.low.0, omega (arith, high), omega (arith, wide, fits), w.higher)

pub build-requires-clause-starts : goal.build-requires-clause-starts
build-requires-clause-starts g c =
    let d = pair_digest g.J.Job.encoded in
    let olds = c.args.levels.now.items in
    let level = c.index.result.now in
    let some : 0 < length olds = (let deep = c.requires.deep in omega (arith, deep)) in
    let row = rows-read olds 0 level some c.index.ensures in
    let kept = c.span_of_kept-kept.result in
    let whole = c.in-Some.whole in
    let k = c.span_of_kept-kept.ensures in
    let w = c.in-Some.ensures in
    let n : c.len-count.result ≡ length (rows_of olds 0).parts = (let read = c.index-2.result.now in let same = ap (λ (r : Row _ _ _). length r.parts) (rows-read olds 0 read some c.index-2.ensures) in let l = c.len-count.ensures in let ok = read.nodes.ok.0 in omega (arith, same, l, ok)) in
    let from_is : level.low + c.args.gone ≡ (rows_of olds 0).low + c.args.gone = ap (λ (r : Row _ _ _). r.low + c.args.gone) (sym row) in
    let shape = k.shape ∙ (λ i. without c.args.gone (record { height = c.args.at.height; low = (sym row i).low; high = (sym row i).low + n i })) in
    let count : kept.high ≡ kept.low + (length (rows_of olds 0).parts - c.args.gone) = k.count ∙ ap (λ (m : ℕ). kept.low + (m - c.args.gone)) n in
    let within = c.requires.within in
    kept-starts c.args.at c.args.first c.args.gone c.args.came (level.low + c.args.gone) c.args.changed.now c.args.news.now olds kept whole from_is within shape count w.shape w.low.1 (λ none. k.none (omega (arith, none, n)))

pub build-requires-clause-grows : goal.build-requires-clause-grows
build-requires-clause-grows g c =
    let d = pair_digest g.J.Job.encoded in
    let olds = c.args.levels.now.items in
    let level = c.index.result.now in
    let some : 0 < length olds = (let deep = c.requires.deep in omega (arith, deep)) in
    let row = rows-read olds 0 level some c.index.ensures in
    let kept = c.span_of_kept-kept.result in
    let whole = c.in-Some.whole in
    let k = c.span_of_kept-kept.ensures in
    let w = c.in-Some.ensures in
    let n : c.len-count.result ≡ length (rows_of olds 0).parts = (let read = c.index-2.result.now in let same = ap (λ (r : Row _ _ _). length r.parts) (rows-read olds 0 read some c.index-2.ensures) in let l = c.len-count.ensures in let ok = read.nodes.ok.0 in omega (arith, same, l, ok)) in
    let from_is : level.low + c.args.gone ≡ (rows_of olds 0).low + c.args.gone = ap (λ (r : Row _ _ _). r.low + c.args.gone) (sym row) in
    let shape = k.shape ∙ (λ i. without c.args.gone (record { height = c.args.at.height; low = (sym row i).low; high = (sym row i).low + n i })) in
    let count : kept.high ≡ kept.low + (length (rows_of olds 0).parts - c.args.gone) = k.count ∙ ap (λ (m : ℕ). kept.low + (m - c.args.gone)) n in
    let within = c.requires.within in
    kept-grows c.args.at c.args.first c.args.gone c.args.came (level.low + c.args.gone) c.args.changed.now c.args.news.now olds kept whole from_is within shape count w.shape w.low.1 w.higher w.doubled

pub build-requires-clause-stays : goal.build-requires-clause-stays
build-requires-clause-stays g c =
    let d = pair_digest g.J.Job.encoded in
    let olds = c.args.levels.now.items in
    let level = c.index.result.now in
    let some : 0 < length olds = (let deep = c.requires.deep in omega (arith, deep)) in
    let row = rows-read olds 0 level some c.index.ensures in
    let kept = c.span_of_kept-kept.result in
    let whole = c.in-Some.whole in
    let k = c.span_of_kept-kept.ensures in
    let w = c.in-Some.ensures in
    let n : c.len-count.result ≡ length (rows_of olds 0).parts = (let read = c.index-2.result.now in let same = ap (λ (r : Row _ _ _). length r.parts) (rows-read olds 0 read some c.index-2.ensures) in let l = c.len-count.ensures in let ok = read.nodes.ok.0 in omega (arith, same, l, ok)) in
    let from_is : level.low + c.args.gone ≡ (rows_of olds 0).low + c.args.gone = ap (λ (r : Row _ _ _). r.low + c.args.gone) (sym row) in
    let shape = k.shape ∙ (λ i. without c.args.gone (record { height = c.args.at.height; low = (sym row i).low; high = (sym row i).low + n i })) in
    let count : kept.high ≡ kept.low + (length (rows_of olds 0).parts - c.args.gone) = k.count ∙ ap (λ (m : ℕ). kept.low + (m - c.args.gone)) n in
    let within = c.requires.within in
    kept-stays c.args.at c.args.first c.args.gone c.args.came (level.low + c.args.gone) c.args.changed.now c.args.news.now olds kept whole from_is within shape count w.shape w.low.1 (λ more. k.moved (omega (arith, more, n)))

pub build-requires-clause-changed : goal.build-requires-clause-changed
build-requires-clause-changed g c =
    let d = pair_digest g.J.Job.encoded in
    let olds = c.args.levels.now.items in
    let level = c.index.result.now in
    let some : 0 < length olds = (let deep = c.requires.deep in omega (arith, deep)) in
    let row = rows-read olds 0 level some c.index.ensures in
    let kept = c.span_of_kept-kept.result in
    let whole = c.in-Some.whole in
    let k = c.span_of_kept-kept.ensures in
    let w = c.in-Some.ensures in
    let n : c.len-count.result ≡ length (rows_of olds 0).parts = (let read = c.index-2.result.now in let same = ap (λ (r : Row _ _ _). length r.parts) (rows-read olds 0 read some c.index-2.ensures) in let l = c.len-count.ensures in let ok = read.nodes.ok.0 in omega (arith, same, l, ok)) in
    let from_is : level.low + c.args.gone ≡ (rows_of olds 0).low + c.args.gone = ap (λ (r : Row _ _ _). r.low + c.args.gone) (sym row) in
    let shape = k.shape ∙ (λ i. without c.args.gone (record { height = c.args.at.height; low = (sym row i).low; high = (sym row i).low + n i })) in
    let count : kept.high ≡ kept.low + (length (rows_of olds 0).parts - c.args.gone) = k.count ∙ ap (λ (m : ℕ). kept.low + (m - c.args.gone)) n in
    let within = c.requires.within in
    kept-places c.args.at c.args.first c.args.gone c.args.came (level.low + c.args.gone) c.args.changed.now c.args.news.now olds kept whole from_is within shape count w.shape w.low.1 c.requires.changed

pub build-requires-clause-news : goal.build-requires-clause-news
build-requires-clause-news g c =
    let d = pair_digest g.J.Job.encoded in
    let olds = c.args.levels.now.items in
    let level = c.index.result.now in
    let some : 0 < length olds = (let deep = c.requires.deep in omega (arith, deep)) in
    let row = rows-read olds 0 level some c.index.ensures in
    let kept = c.span_of_kept-kept.result in
    let whole = c.in-Some.whole in
    let k = c.span_of_kept-kept.ensures in
    let w = c.in-Some.ensures in
    let n : c.len-count.result ≡ length (rows_of olds 0).parts = (let read = c.index-2.result.now in let same = ap (λ (r : Row _ _ _). length r.parts) (rows-read olds 0 read some c.index-2.ensures) in let l = c.len-count.ensures in let ok = read.nodes.ok.0 in omega (arith, same, l, ok)) in
    let from_is : level.low + c.args.gone ≡ (rows_of olds 0).low + c.args.gone = ap (λ (r : Row _ _ _). r.low + c.args.gone) (sym row) in
    let shape = k.shape ∙ (λ i. without c.args.gone (record { height = c.args.at.height; low = (sym row i).low; high = (sym row i).low + n i })) in
    let count : kept.high ≡ kept.low + (length (rows_of olds 0).parts - c.args.gone) = k.count ∙ ap (λ (m : ℕ). kept.low + (m - c.args.gone)) n in
    let within = c.requires.within in
    let high = w.low.1 in
    let news = c.requires.news in
    omega (arith, high, news)

pub returns-in-Ok-clause-counted : goal.returns-in-Ok-clause-counted
returns-in-Ok-clause-counted g c =
    let d = pair_digest g.J.Job.encoded in
    let olds = c.args.levels.now.items in
    let level = c.index.result.now in
    let some : 0 < length olds = (let deep = c.requires.deep in omega (arith, deep)) in
    let row = rows-read olds 0 level some c.index.ensures in
    let kept = c.span_of_kept-kept.result in
    let whole = c.in-Some.whole in
    let k = c.span_of_kept-kept.ensures in
    let w = c.in-Some.ensures in
    let n : c.len-count.result ≡ length (rows_of olds 0).parts = (let read = c.index-2.result.now in let same = ap (λ (r : Row _ _ _). length r.parts) (rows-read olds 0 read some c.index-2.ensures) in let l = c.len-count.ensures in let ok = read.nodes.ok.0 in omega (arith, same, l, ok)) in
    let from_is : level.low + c.args.gone ≡ (rows_of olds 0).low + c.args.gone = ap (λ (r : Row _ _ _). r.low + c.args.gone) (sym row) in
    let shape = k.shape ∙ (λ i. without c.args.gone (record { height = c.args.at.height; low = (sym row i).low; high = (sym row i).low + n i })) in
    let count : kept.high ≡ kept.low + (length (rows_of olds 0).parts - c.args.gone) = k.count ∙ ap (λ (m : ℕ). kept.low + (m - c.args.gone)) n in
    let within = c.requires.within in
    advanced-counted c.args.at c.args.first c.args.gone c.args.came (level.low + c.args.gone) c.args.changed.now c.args.news.now olds kept whole from_is within shape count w.shape w.low.1 _ _ c.build.ensures.counted

pub returns-in-Err-clause-counted : goal.returns-in-Err-clause-counted
returns-in-Err-clause-counted g c =
    let d = pair_digest g.J.Job.encoded in
    let olds = c.args.levels.now.items in
    let level = c.index.result.now in
    let some : 0 < length olds = (let deep = c.requires.deep in omega (arith, deep)) in
    let row = rows-read olds 0 level some c.index.ensures in
    let kept = c.span_of_kept-kept.result in
    let whole = c.in-Some.whole in
    let k = c.span_of_kept-kept.ensures in
    let w = c.in-Some.ensures in
    let n : c.len-count.result ≡ length (rows_of olds 0).parts = (let read = c.index-2.result.now in let same = ap (λ (r : Row _ _ _). length r.parts) (rows-read olds 0 read some c.index-2.ensures) in let l = c.len-count.ensures in let ok = read.nodes.ok.0 in omega (arith, same, l, ok)) in
    let from_is : level.low + c.args.gone ≡ (rows_of olds 0).low + c.args.gone = ap (λ (r : Row _ _ _). r.low + c.args.gone) (sym row) in
    let shape = k.shape ∙ (λ i. without c.args.gone (record { height = c.args.at.height; low = (sym row i).low; high = (sym row i).low + n i })) in
    let count : kept.high ≡ kept.low + (length (rows_of olds 0).parts - c.args.gone) = k.count ∙ ap (λ (m : ℕ). kept.low + (m - c.args.gone)) n in
    let within = c.requires.within in
    advanced-counted c.args.at c.args.first c.args.gone c.args.came (level.low + c.args.gone) c.args.changed.now c.args.news.now olds kept whole from_is within shape count w.shape w.low.1 _ _ c.build.ensures.counted

pub returns-in-Ok-clause-ok : goal.returns-in-Ok-clause-ok
returns-in-Ok-clause-ok g c =
    let d = pair_digest g.J.Job.encoded in
    let olds = c.args.levels.now.items in
    let level = c.index.result.now in
    let some : 0 < length olds = (let deep = c.requires.deep in omega (arith, deep)) in
    let row = rows-read olds 0 level some c.index.ensures in
    let kept = c.span_of_kept-kept.result in
    let whole = c.in-Some.whole in
    let k = c.span_of_kept-kept.ensures in
    let w = c.in-Some.ensures in
    let n : c.len-count.result ≡ length (rows_of olds 0).parts = (let read = c.index-2.result.now in let same = ap (λ (r : Row _ _ _). length r.parts) (rows-read olds 0 read some c.index-2.ensures) in let l = c.len-count.ensures in let ok = read.nodes.ok.0 in omega (arith, same, l, ok)) in
    let from_is : level.low + c.args.gone ≡ (rows_of olds 0).low + c.args.gone = ap (λ (r : Row _ _ _). r.low + c.args.gone) (sym row) in
    let shape = k.shape ∙ (λ i. without c.args.gone (record { height = c.args.at.height; low = (sym row i).low; high = (sym row i).low + n i })) in
    let count : kept.high ≡ kept.low + (length (rows_of olds 0).parts - c.args.gone) = k.count ∙ ap (λ (m : ℕ). kept.low + (m - c.args.gone)) n in
    let within = c.requires.within in
    let b = c.in-Ok.ensures in
    advanced-is c.args.at c.args.first c.args.gone c.args.came (level.low + c.args.gone) c.args.changed.now c.args.news.now olds kept whole from_is within shape count w.shape w.low.1 g.J.Job.good g.J.Job.joined (g.J.Job.setting c.args.job.now) c.build.new.levels.items c.build.new.drafts.items (record { first = c.args.first; height = whole.height; width = whole.width }) refl refl refl w.wide
    b.count b.deep b.fit b.room b.tower b.leaves b.sound b.low b.high

pub returns-in-Ok-clause-loose : goal.returns-in-Ok-clause-loose
returns-in-Ok-clause-loose g c =
    let d = pair_digest g.J.Job.encoded in
    let olds = c.args.levels.now.items in
    let level = c.index.result.now in
    let some : 0 < length olds = (let deep = c.requires.deep in omega (arith, deep)) in
    let row = rows-read olds 0 level some c.index.ensures in
    let kept = c.span_of_kept-kept.result in
    let whole = c.in-Some.whole in
    let k = c.span_of_kept-kept.ensures in
    let w = c.in-Some.ensures in
    let n : c.len-count.result ≡ length (rows_of olds 0).parts = (let read = c.index-2.result.now in let same = ap (λ (r : Row _ _ _). length r.parts) (rows-read olds 0 read some c.index-2.ensures) in let l = c.len-count.ensures in let ok = read.nodes.ok.0 in omega (arith, same, l, ok)) in
    let from_is : level.low + c.args.gone ≡ (rows_of olds 0).low + c.args.gone = ap (λ (r : Row _ _ _). r.low + c.args.gone) (sym row) in
    let shape = k.shape ∙ (λ i. without c.args.gone (record { height = c.args.at.height; low = (sym row i).low; high = (sym row i).low + n i })) in
    let count : kept.high ≡ kept.low + (length (rows_of olds 0).parts - c.args.gone) = k.count ∙ ap (λ (m : ℕ). kept.low + (m - c.args.gone)) n in
    let within = c.requires.within in
    let tower = c.requires.tree.tower in
    let news = c.build.new.levels.items in
    let drafts = c.build.new.drafts.items in
    λ h. subst (λ rows. (rows_loose (suc c.args.at.height) rows ≡ true) ⊎ Met c.args.caller.now c.build.new.caller) (λ i j. c.build.ensures.rows j i)
    (rows-after_loose (Met c.args.caller.now c.build.new.caller) c.args.at.height whole.height (rows_of news) (aheads_of drafts) (λ j lt. ap (λ (r : Row _ _ _). r.parts) (c.build.ensures.rows j) ∙ tower.above j lt) c.build.ensures.loose h)

pub let_drafts_go-requires-clause-of : goal.let_drafts_go-requires-clause-of
let_drafts_go-requires-clause-of g c =
    c.build.ensures.trades.balanced.later.locks ∙ c.requires.of

pub let_drafts_go-requires-clause-covered : goal.let_drafts_go-requires-clause-covered
let_drafts_go-requires-clause-covered g c =
    got-covered_all c.args.caller.now c.build.new.caller (drafts_pins (pair_digest g.J.Job.encoded) c.build.new.drafts.items) c.build.ensures.trades

pub returns-in-Err-clause-trades : goal.returns-in-Err-clause-trades
returns-in-Err-clause-trades g c =
    let d = pair_digest g.J.Job.encoded in
    subst (λ ds. Trades c.args.caller.now [] c.let_drafts_go.new.caller (drafts_pins d ds)) (sym c.let_drafts_go.ensures.none)
    (trades-then c.args.caller.now c.build.new.caller c.let_drafts_go.new.caller [] (drafts_pins d c.build.new.drafts.items) [] c.build.ensures.trades c.let_drafts_go.ensures.trades)

pub returns-in_default-clause-trades : goal.returns-in_default-clause-trades
returns-in_default-clause-trades g c =
    subst (λ ds. Trades c.args.caller.now [] c.args.caller.now (drafts_pins (pair_digest g.J.Job.encoded) ds)) (sym c.requires.none) (trades-same c.args.caller.now [])

pub returns-in_default-clause-counted : goal.returns-in_default-clause-counted
returns-in_default-clause-counted g c =
    rose-still _ _ (g.J.Meter.Meter.counts c.args.m.now)
