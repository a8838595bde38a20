use Rattle.std.proofs.Common.{◌≡◌, ℕ, suc, ◌+◌, ◌-◌, ◌*◌, ◌<◌, [], ◌∷◌, ◌++◌, length, take, drop, sym, ap, subst, ◌∙◌, arith}
use Rattle.sheets.specs.Sheets.{SheetOf}
use Rattle.sheets.specs.United.{tables_of}
use Rattle.record_text.specs.Shifts.{put_at}
use Rattle.tree_laws.specs.Pairs.{pair_digest}
use Rattle.tree_laws.specs.Trees.{IsLeaf, IsWithin, distinct_keys}
use Rattle.folding_tree.specs.Levels.{IsFit, IsOver, IsBegun, EachSheet, row_after, sheets_of}
use Rattle.folding_tree.specs.Folding.{AreFit, HaveRoom, ahead_of, rows_of, aheads_of, rows_after, drafts_pins}
use Rattle.tree_laws.specs.Trades.{Trades}
use Rattle.tree_laws.proofs.TradeLaws.{trades-same}
use Rattle.tree_laws.proofs.LeafLaws.{rose-still}
use Rattle.folding_tree.proofs.LevelLaws.{none-tight, aheads-past}
use Rattle.folding_tree.proofs.BuildLaws.{begun-is, build-begun, build-each, build-within, build-tight, build-counted, build-leaves, build-sound, build-low, build-high, build-tower}
use Rattle.folding_tree.proofs.tower.build.Goals as goal

pub returns-in-Err-clause-trades : goal.returns-in-Err-clause-trades
returns-in-Err-clause-trades g c =
    subst (λ ds. Trades c.args.caller.now [] c.args.caller.now (drafts_pins (pair_digest g.J.Job.encoded) ds)) (sym c.requires.none) (trades-same c.args.caller.now [])

pub returns-in-Err-clause-loose : goal.returns-in-Err-clause-loose
returns-in-Err-clause-loose g c =
    λ k h. absurd (none-tight c.args.drafts.now.items c.requires.none k h)

pub returns-in-Err-clause-counted : goal.returns-in-Err-clause-counted
returns-in-Err-clause-counted g c =
    rose-still (c.args.whole.high - c.args.kept.high + (2 + length c.args.changed.now) * c.args.whole.height) _ (g.J.Meter.Meter.counts c.args.m.now)

pub returns-in-Err-begin-clause-trades : goal.returns-in-Err-begin-clause-trades
returns-in-Err-begin-clause-trades g c =
    subst (λ ds. Trades c.args.caller.now [] c.args.caller.now (drafts_pins (pair_digest g.J.Job.encoded) ds)) (sym c.requires.none) (trades-same c.args.caller.now [])

pub returns-in-Err-begin-clause-loose : goal.returns-in-Err-begin-clause-loose
returns-in-Err-begin-clause-loose g c =
    λ k h. absurd (none-tight c.args.drafts.now.items c.requires.none k h)

pub returns-in-Err-begin-clause-counted : goal.returns-in-Err-begin-clause-counted
returns-in-Err-begin-clause-counted g c =
    rose-still (c.args.whole.high - c.args.kept.high + (2 + length c.args.changed.now) * c.args.whole.height) _ (g.J.Meter.Meter.counts c.args.m.now)

pub returns-in-Err-reserve-clause-trades : goal.returns-in-Err-reserve-clause-trades
returns-in-Err-reserve-clause-trades g c =
    subst (λ ds. Trades c.args.caller.now [] c.args.caller.now (drafts_pins (pair_digest g.J.Job.encoded) ds)) (sym (c.reserve.ensures.items ∙ c.requires.none)) (trades-same c.args.caller.now [])

pub returns-in-Err-reserve-clause-loose : goal.returns-in-Err-reserve-clause-loose
returns-in-Err-reserve-clause-loose g c =
    λ k h. absurd (none-tight c.reserve.new.self.items (c.reserve.ensures.items ∙ c.requires.none) k h)

pub returns-in-Err-reserve-clause-counted : goal.returns-in-Err-reserve-clause-counted
returns-in-Err-reserve-clause-counted g c =
    rose-still (c.args.whole.high - c.args.kept.high + (2 + length c.args.changed.now) * c.args.whole.height) _ (g.J.Meter.Meter.counts c.args.m.now)

pub begin-requires-clause-enough : goal.begin-requires-clause-enough
begin-requires-clause-enough g c =
    let n = c.requires.news in
    let w = c.requires.whole.1 in
    omega (arith, n, w)

pub climb-requires-clause-one : goal.climb-requires-clause-one
climb-requires-clause-one g c =
    let d = pair_digest g.J.Job.encoded in
    let rows = rows_of c.args.levels.now.items in
    let deep = rows_of c.deepen.new.levels.items in
    let news = c.args.news.now in
    let changed = c.args.changed.now in
    let kept = c.args.kept in
    let whole = c.args.whole in
    let leaves = c.in-Ok-begin.leaves in
    let now = c.push_reserved.new.self.items in
    let now_is : now ≡ leaves ∷ [] = c.push_reserved.ensures.items ∙ ap (λ ds. ds ++ leaves ∷ []) (c.reserve.ensures.items ∙ c.requires.none) in
    let is = ap (λ ds. aheads_of ds 0) now_is ∙ begun-is (rows 0) c.args.from kept whole changed news (ahead_of leaves) c.in-Ok-begin.ensures.numbers c.in-Ok-begin.ensures.places c.in-Ok-begin.ensures.changed c.in-Ok-begin.ensures.fresh in
    let order = c.requires.kept.0 in
    let grown = c.requires.whole.1 in
    let rising = c.in-Ok-begin.ensures.rising in
    ap length now_is

pub climb-requires-clause-deep : goal.climb-requires-clause-deep
climb-requires-clause-deep g c =
    let e = ap length c.as_slice.ensures.value in
    let lt = c.in-Ok.ensures.deep in
    omega (arith, e, lt)

pub climb-requires-clause-begun : goal.climb-requires-clause-begun
climb-requires-clause-begun g c =
    let d = pair_digest g.J.Job.encoded in
    let rows = rows_of c.args.levels.now.items in
    let deep = rows_of c.deepen.new.levels.items in
    let news = c.args.news.now in
    let changed = c.args.changed.now in
    let kept = c.args.kept in
    let whole = c.args.whole in
    let leaves = c.in-Ok-begin.leaves in
    let now = c.push_reserved.new.self.items in
    let now_is : now ≡ leaves ∷ [] = c.push_reserved.ensures.items ∙ ap (λ ds. ds ++ leaves ∷ []) (c.reserve.ensures.items ∙ c.requires.none) in
    let is = ap (λ ds. aheads_of ds 0) now_is ∙ begun-is (rows 0) c.args.from kept whole changed news (ahead_of leaves) c.in-Ok-begin.ensures.numbers c.in-Ok-begin.ensures.places c.in-Ok-begin.ensures.changed c.in-Ok-begin.ensures.fresh in
    let order = c.requires.kept.0 in
    let grown = c.requires.whole.1 in
    let rising = c.in-Ok-begin.ensures.rising in
    subst (λ ls. IsBegun g.J.Job.joined whole.height (rows_of ls) (aheads_of now 0)) (sym c.as_slice.ensures.value)
    (build-begun g.J.Job.joined rows deep c.deepen.ensures.rows c.args.from kept whole changed news (aheads_of now 0) is order grown c.requires.stays c.requires.changed rising c.requires.news c.requires.kept.1 c.requires.starts c.requires.whole.3 c.requires.over c.requires.grows)

pub climb-requires-clause-leaves : goal.climb-requires-clause-leaves
climb-requires-clause-leaves g c =
    let d = pair_digest g.J.Job.encoded in
    let rows = rows_of c.args.levels.now.items in
    let deep = rows_of c.deepen.new.levels.items in
    let news = c.args.news.now in
    let changed = c.args.changed.now in
    let kept = c.args.kept in
    let whole = c.args.whole in
    let leaves = c.in-Ok-begin.leaves in
    let now = c.push_reserved.new.self.items in
    let now_is : now ≡ leaves ∷ [] = c.push_reserved.ensures.items ∙ ap (λ ds. ds ++ leaves ∷ []) (c.reserve.ensures.items ∙ c.requires.none) in
    let is = ap (λ ds. aheads_of ds 0) now_is ∙ begun-is (rows 0) c.args.from kept whole changed news (ahead_of leaves) c.in-Ok-begin.ensures.numbers c.in-Ok-begin.ensures.places c.in-Ok-begin.ensures.changed c.in-Ok-begin.ensures.fresh in
    let order = c.requires.kept.0 in
    let grown = c.requires.whole.1 in
    let rising = c.in-Ok-begin.ensures.rising in
    let setting = g.J.Job.setting c.args.job.now in
    subst (λ ls. EachSheet (IsLeaf g.J.Job.good setting) (rows_after ls now 0)) (sym c.as_slice.ensures.value)
    (build-each g.J.Job.joined rows deep c.deepen.ensures.rows c.args.from kept whole changed news (aheads_of now 0) is order grown c.requires.stays c.requires.changed rising c.requires.news (IsLeaf g.J.Job.good setting) (c.in-Ok-begin.ensures.leaves setting c.requires.settings) c.requires.leaves)

pub climb-requires-clause-plain : goal.climb-requires-clause-plain
climb-requires-clause-plain g c =
    let d = pair_digest g.J.Job.encoded in
    let rows = rows_of c.args.levels.now.items in
    let deep = rows_of c.deepen.new.levels.items in
    let news = c.args.news.now in
    let changed = c.args.changed.now in
    let kept = c.args.kept in
    let whole = c.args.whole in
    let leaves = c.in-Ok-begin.leaves in
    let now = c.push_reserved.new.self.items in
    let now_is : now ≡ leaves ∷ [] = c.push_reserved.ensures.items ∙ ap (λ ds. ds ++ leaves ∷ []) (c.reserve.ensures.items ∙ c.requires.none) in
    let is = ap (λ ds. aheads_of ds 0) now_is ∙ begun-is (rows 0) c.args.from kept whole changed news (ahead_of leaves) c.in-Ok-begin.ensures.numbers c.in-Ok-begin.ensures.places c.in-Ok-begin.ensures.changed c.in-Ok-begin.ensures.fresh in
    let order = c.requires.kept.0 in
    let grown = c.requires.whole.1 in
    let rising = c.in-Ok-begin.ensures.rising in
    build-tight g.J.Job.joined rows deep c.deepen.ensures.rows c.args.from kept whole changed news (aheads_of now 0) is order grown c.requires.stays c.requires.changed rising c.requires.news

pub returns-in-Err-climb-clause-trades : goal.returns-in-Err-climb-clause-trades
returns-in-Err-climb-clause-trades g c =
    let d = pair_digest g.J.Job.encoded in
    let rows = rows_of c.args.levels.now.items in
    let deep = rows_of c.deepen.new.levels.items in
    let news = c.args.news.now in
    let changed = c.args.changed.now in
    let kept = c.args.kept in
    let whole = c.args.whole in
    let leaves = c.in-Ok-begin.leaves in
    let now = c.push_reserved.new.self.items in
    let now_is : now ≡ leaves ∷ [] = c.push_reserved.ensures.items ∙ ap (λ ds. ds ++ leaves ∷ []) (c.reserve.ensures.items ∙ c.requires.none) in
    let is = ap (λ ds. aheads_of ds 0) now_is ∙ begun-is (rows 0) c.args.from kept whole changed news (ahead_of leaves) c.in-Ok-begin.ensures.numbers c.in-Ok-begin.ensures.places c.in-Ok-begin.ensures.changed c.in-Ok-begin.ensures.fresh in
    let order = c.requires.kept.0 in
    let grown = c.requires.whole.1 in
    let rising = c.in-Ok-begin.ensures.rising in
    let begun : Trades c.args.caller.now (drafts_pins d now) c.climb.new.caller (drafts_pins d c.climb.new.drafts.items) = c.climb.ensures.trades in
    let none : drafts_pins d now ≡ [] = ap (drafts_pins d) now_is ∙ ap (λ ps. ps ++ []) c.in-Ok-begin.ensures.pins in
    subst (λ ps. Trades c.args.caller.now ps c.climb.new.caller (drafts_pins d c.climb.new.drafts.items)) none begun

pub returns-in-Err-climb-clause-counted : goal.returns-in-Err-climb-clause-counted
returns-in-Err-climb-clause-counted g c =
    let d = pair_digest g.J.Job.encoded in
    let rows = rows_of c.args.levels.now.items in
    let deep = rows_of c.deepen.new.levels.items in
    let news = c.args.news.now in
    let changed = c.args.changed.now in
    let kept = c.args.kept in
    let whole = c.args.whole in
    let leaves = c.in-Ok-begin.leaves in
    let now = c.push_reserved.new.self.items in
    let now_is : now ≡ leaves ∷ [] = c.push_reserved.ensures.items ∙ ap (λ ds. ds ++ leaves ∷ []) (c.reserve.ensures.items ∙ c.requires.none) in
    let is = ap (λ ds. aheads_of ds 0) now_is ∙ begun-is (rows 0) c.args.from kept whole changed news (ahead_of leaves) c.in-Ok-begin.ensures.numbers c.in-Ok-begin.ensures.places c.in-Ok-begin.ensures.changed c.in-Ok-begin.ensures.fresh in
    let order = c.requires.kept.0 in
    let grown = c.requires.whole.1 in
    let rising = c.in-Ok-begin.ensures.rising in
    let ts = tables_of (put_at changed news (take (kept.high - kept.low) (drop (c.args.from - (rows 0).low) (sheets_of (rows 0).parts))) ++ drop (length changed) news) in
    let within = subst (λ ls. EachSheet (λ (s : SheetOf g.row.J-Val.Denot). IsWithin s.entries ts) (rows_after ls now 0)) (sym c.as_slice.ensures.value) (build-within g.J.Job.joined rows deep c.deepen.ensures.rows c.args.from kept whole changed news (aheads_of now 0) is order grown c.requires.stays c.requires.changed rising c.requires.news) in
    build-counted g.J.Job.joined rows deep c.deepen.ensures.rows c.args.from kept whole changed news (aheads_of now 0) is order grown c.requires.stays c.requires.changed rising c.requires.news (distinct_keys ts) _ _ (c.climb.ensures.counted ts within)

pub returns-in-Ok-make_room-clause-trades : goal.returns-in-Ok-make_room-clause-trades
returns-in-Ok-make_room-clause-trades g c =
    let d = pair_digest g.J.Job.encoded in
    let rows = rows_of c.args.levels.now.items in
    let deep = rows_of c.deepen.new.levels.items in
    let news = c.args.news.now in
    let changed = c.args.changed.now in
    let kept = c.args.kept in
    let whole = c.args.whole in
    let leaves = c.in-Ok-begin.leaves in
    let now = c.push_reserved.new.self.items in
    let now_is : now ≡ leaves ∷ [] = c.push_reserved.ensures.items ∙ ap (λ ds. ds ++ leaves ∷ []) (c.reserve.ensures.items ∙ c.requires.none) in
    let is = ap (λ ds. aheads_of ds 0) now_is ∙ begun-is (rows 0) c.args.from kept whole changed news (ahead_of leaves) c.in-Ok-begin.ensures.numbers c.in-Ok-begin.ensures.places c.in-Ok-begin.ensures.changed c.in-Ok-begin.ensures.fresh in
    let order = c.requires.kept.0 in
    let grown = c.requires.whole.1 in
    let rising = c.in-Ok-begin.ensures.rising in
    let begun : Trades c.args.caller.now (drafts_pins d now) c.climb.new.caller (drafts_pins d c.climb.new.drafts.items) = c.climb.ensures.trades in
    let none : drafts_pins d now ≡ [] = ap (drafts_pins d) now_is ∙ ap (λ ps. ps ++ []) c.in-Ok-begin.ensures.pins in
    subst (λ ps. Trades c.args.caller.now ps c.climb.new.caller (drafts_pins d c.climb.new.drafts.items)) none begun

pub returns-in-Ok-make_room-clause-counted : goal.returns-in-Ok-make_room-clause-counted
returns-in-Ok-make_room-clause-counted g c =
    let d = pair_digest g.J.Job.encoded in
    let rows = rows_of c.args.levels.now.items in
    let deep = rows_of c.deepen.new.levels.items in
    let news = c.args.news.now in
    let changed = c.args.changed.now in
    let kept = c.args.kept in
    let whole = c.args.whole in
    let leaves = c.in-Ok-begin.leaves in
    let now = c.push_reserved.new.self.items in
    let now_is : now ≡ leaves ∷ [] = c.push_reserved.ensures.items ∙ ap (λ ds. ds ++ leaves ∷ []) (c.reserve.ensures.items ∙ c.requires.none) in
    let is = ap (λ ds. aheads_of ds 0) now_is ∙ begun-is (rows 0) c.args.from kept whole changed news (ahead_of leaves) c.in-Ok-begin.ensures.numbers c.in-Ok-begin.ensures.places c.in-Ok-begin.ensures.changed c.in-Ok-begin.ensures.fresh in
    let order = c.requires.kept.0 in
    let grown = c.requires.whole.1 in
    let rising = c.in-Ok-begin.ensures.rising in
    let ts = tables_of (put_at changed news (take (kept.high - kept.low) (drop (c.args.from - (rows 0).low) (sheets_of (rows 0).parts))) ++ drop (length changed) news) in
    let within = subst (λ ls. EachSheet (λ (s : SheetOf g.row.J-Val.Denot). IsWithin s.entries ts) (rows_after ls now 0)) (sym c.as_slice.ensures.value) (build-within g.J.Job.joined rows deep c.deepen.ensures.rows c.args.from kept whole changed news (aheads_of now 0) is order grown c.requires.stays c.requires.changed rising c.requires.news) in
    build-counted g.J.Job.joined rows deep c.deepen.ensures.rows c.args.from kept whole changed news (aheads_of now 0) is order grown c.requires.stays c.requires.changed rising c.requires.news (distinct_keys ts) _ _ (c.climb.ensures.counted ts within)

pub returns-in-Err-make_room-clause-trades : goal.returns-in-Err-make_room-clause-trades
returns-in-Err-make_room-clause-trades g c =
    let d = pair_digest g.J.Job.encoded in
    let rows = rows_of c.args.levels.now.items in
    let deep = rows_of c.deepen.new.levels.items in
    let news = c.args.news.now in
    let changed = c.args.changed.now in
    let kept = c.args.kept in
    let whole = c.args.whole in
    let leaves = c.in-Ok-begin.leaves in
    let now = c.push_reserved.new.self.items in
    let now_is : now ≡ leaves ∷ [] = c.push_reserved.ensures.items ∙ ap (λ ds. ds ++ leaves ∷ []) (c.reserve.ensures.items ∙ c.requires.none) in
    let is = ap (λ ds. aheads_of ds 0) now_is ∙ begun-is (rows 0) c.args.from kept whole changed news (ahead_of leaves) c.in-Ok-begin.ensures.numbers c.in-Ok-begin.ensures.places c.in-Ok-begin.ensures.changed c.in-Ok-begin.ensures.fresh in
    let order = c.requires.kept.0 in
    let grown = c.requires.whole.1 in
    let rising = c.in-Ok-begin.ensures.rising in
    let begun : Trades c.args.caller.now (drafts_pins d now) c.climb.new.caller (drafts_pins d c.climb.new.drafts.items) = c.climb.ensures.trades in
    let none : drafts_pins d now ≡ [] = ap (drafts_pins d) now_is ∙ ap (λ ps. ps ++ []) c.in-Ok-begin.ensures.pins in
    subst (λ ps. Trades c.args.caller.now ps c.climb.new.caller (drafts_pins d c.climb.new.drafts.items)) none begun

pub returns-in-Err-make_room-clause-counted : goal.returns-in-Err-make_room-clause-counted
returns-in-Err-make_room-clause-counted g c =
    let d = pair_digest g.J.Job.encoded in
    let rows = rows_of c.args.levels.now.items in
    let deep = rows_of c.deepen.new.levels.items in
    let news = c.args.news.now in
    let changed = c.args.changed.now in
    let kept = c.args.kept in
    let whole = c.args.whole in
    let leaves = c.in-Ok-begin.leaves in
    let now = c.push_reserved.new.self.items in
    let now_is : now ≡ leaves ∷ [] = c.push_reserved.ensures.items ∙ ap (λ ds. ds ++ leaves ∷ []) (c.reserve.ensures.items ∙ c.requires.none) in
    let is = ap (λ ds. aheads_of ds 0) now_is ∙ begun-is (rows 0) c.args.from kept whole changed news (ahead_of leaves) c.in-Ok-begin.ensures.numbers c.in-Ok-begin.ensures.places c.in-Ok-begin.ensures.changed c.in-Ok-begin.ensures.fresh in
    let order = c.requires.kept.0 in
    let grown = c.requires.whole.1 in
    let rising = c.in-Ok-begin.ensures.rising in
    let ts = tables_of (put_at changed news (take (kept.high - kept.low) (drop (c.args.from - (rows 0).low) (sheets_of (rows 0).parts))) ++ drop (length changed) news) in
    let within = subst (λ ls. EachSheet (λ (s : SheetOf g.row.J-Val.Denot). IsWithin s.entries ts) (rows_after ls now 0)) (sym c.as_slice.ensures.value) (build-within g.J.Job.joined rows deep c.deepen.ensures.rows c.args.from kept whole changed news (aheads_of now 0) is order grown c.requires.stays c.requires.changed rising c.requires.news) in
    build-counted g.J.Job.joined rows deep c.deepen.ensures.rows c.args.from kept whole changed news (aheads_of now 0) is order grown c.requires.stays c.requires.changed rising c.requires.news (distinct_keys ts) _ _ (c.climb.ensures.counted ts within)

pub returns-in-Ok-make_room-clause-rows : goal.returns-in-Ok-make_room-clause-rows
returns-in-Ok-make_room-clause-rows g c =
    λ k. c.make_room.ensures.rows k ∙ c.deepen.ensures.rows k

pub returns-in-Ok-make_room-clause-pins : goal.returns-in-Ok-make_room-clause-pins
returns-in-Ok-make_room-clause-pins g c =
    c.make_room.ensures.pins ∙ c.deepen.ensures.pins

pub returns-in-Ok-make_room-clause-more : goal.returns-in-Ok-make_room-clause-more
returns-in-Ok-make_room-clause-more g c =
    let a = c.make_room.ensures.count in
    let b = c.deepen.ensures.more in
    omega (arith, a, b)

pub returns-in-Err-make_room-clause-rows : goal.returns-in-Err-make_room-clause-rows
returns-in-Err-make_room-clause-rows g c =
    λ k. c.make_room.ensures.rows k ∙ c.deepen.ensures.rows k

pub returns-in-Err-make_room-clause-pins : goal.returns-in-Err-make_room-clause-pins
returns-in-Err-make_room-clause-pins g c =
    c.make_room.ensures.pins ∙ c.deepen.ensures.pins

pub returns-in-Err-make_room-clause-more : goal.returns-in-Err-make_room-clause-more
returns-in-Err-make_room-clause-more g c =
    let a = c.make_room.ensures.count in
    let b = c.deepen.ensures.more in
    omega (arith, a, b)

pub make_room-requires : goal.make_room-requires
make_room-requires g c =
    let e = ap length c.as_slice-2.ensures.value in
    let n = c.in-Ok-climb.ensures.count in
    let lt = c.in-Ok.ensures.deep in
    omega (arith, e, n, lt)

pub returns-in-Ok-make_room-clause-deep : goal.returns-in-Ok-make_room-clause-deep
returns-in-Ok-make_room-clause-deep g c =
    let a = c.make_room.ensures.count in
    let n = c.in-Ok-climb.ensures.count in
    let lt = c.in-Ok.ensures.deep in
    omega (arith, a, n, lt)

pub returns-in-Ok-make_room-clause-fit : goal.returns-in-Ok-make_room-clause-fit
returns-in-Ok-make_room-clause-fit g c =
    let drafts = c.climb.new.drafts.items in
    let fit : AreFit c.deepen.new.levels.items drafts = subst (λ ls. AreFit ls drafts) c.as_slice.ensures.value c.climb.ensures.fit in
    λ k. subst (λ r. IsFit r (aheads_of drafts k)) (sym (c.make_room.ensures.rows k)) (fit k)

pub returns-in-Ok-make_room-clause-room : goal.returns-in-Ok-make_room-clause-room
returns-in-Ok-make_room-clause-room g c =
    subst (HaveRoom c.make_room.new.levels.items) c.as_slice-2.ensures.value c.in-Ok-make_room.ensures.room

pub returns-in-Ok-make_room-clause-tower : goal.returns-in-Ok-make_room-clause-tower
returns-in-Ok-make_room-clause-tower g c =
    let d = pair_digest g.J.Job.encoded in
    let rows = rows_of c.args.levels.now.items in
    let deep = rows_of c.deepen.new.levels.items in
    let news = c.args.news.now in
    let changed = c.args.changed.now in
    let kept = c.args.kept in
    let whole = c.args.whole in
    let leaves = c.in-Ok-begin.leaves in
    let now = c.push_reserved.new.self.items in
    let now_is : now ≡ leaves ∷ [] = c.push_reserved.ensures.items ∙ ap (λ ds. ds ++ leaves ∷ []) (c.reserve.ensures.items ∙ c.requires.none) in
    let is = ap (λ ds. aheads_of ds 0) now_is ∙ begun-is (rows 0) c.args.from kept whole changed news (ahead_of leaves) c.in-Ok-begin.ensures.numbers c.in-Ok-begin.ensures.places c.in-Ok-begin.ensures.changed c.in-Ok-begin.ensures.fresh in
    let order = c.requires.kept.0 in
    let grown = c.requires.whole.1 in
    let rising = c.in-Ok-begin.ensures.rising in
    let last = rows_of c.make_room.new.levels.items in
    let like : (k : ℕ) → last k ≡ rows k = λ k. c.make_room.ensures.rows k ∙ c.deepen.ensures.rows k in
    let aheads = aheads_of c.climb.new.drafts.items in
    let drafts = c.climb.new.drafts.items in
    let over : (k : ℕ) → k < whole.height → IsOver g.J.Job.joined (row_after (deep k) (aheads k)) (row_after (deep (suc k)) (aheads (suc k))) = subst (λ ls. (k : ℕ) → k < whole.height → IsOver g.J.Job.joined (rows_after ls drafts k) (rows_after ls drafts (suc k))) c.as_slice.ensures.value c.in-Ok-climb.ensures.over in
    let moved : (k : ℕ) → k < whole.height → IsOver g.J.Job.joined (row_after (last k) (aheads k)) (row_after (last (suc k)) (aheads (suc k))) = λ k lt.
    subst (λ r. IsOver g.J.Job.joined (row_after r (aheads k)) (row_after (last (suc k)) (aheads (suc k)))) (sym (c.make_room.ensures.rows k))
    (subst (λ r. IsOver g.J.Job.joined (row_after (deep k) (aheads k)) (row_after r (aheads (suc k)))) (sym (c.make_room.ensures.rows (suc k))) (over k lt)) in
    let count = c.in-Ok-climb.ensures.count in
    build-tower g.J.Job.joined rows deep c.deepen.ensures.rows c.args.from kept whole changed news (aheads_of now 0) is order grown c.requires.stays c.requires.changed rising c.requires.news last like aheads c.climb.ensures.first c.requires.plain c.requires.whole.2 moved (λ k lt. aheads-past drafts k (omega (arith, count, lt)))

pub returns-in-Ok-make_room-clause-leaves : goal.returns-in-Ok-make_room-clause-leaves
returns-in-Ok-make_room-clause-leaves g c =
    let d = pair_digest g.J.Job.encoded in
    let rows = rows_of c.args.levels.now.items in
    let deep = rows_of c.deepen.new.levels.items in
    let news = c.args.news.now in
    let changed = c.args.changed.now in
    let kept = c.args.kept in
    let whole = c.args.whole in
    let leaves = c.in-Ok-begin.leaves in
    let now = c.push_reserved.new.self.items in
    let now_is : now ≡ leaves ∷ [] = c.push_reserved.ensures.items ∙ ap (λ ds. ds ++ leaves ∷ []) (c.reserve.ensures.items ∙ c.requires.none) in
    let is = ap (λ ds. aheads_of ds 0) now_is ∙ begun-is (rows 0) c.args.from kept whole changed news (ahead_of leaves) c.in-Ok-begin.ensures.numbers c.in-Ok-begin.ensures.places c.in-Ok-begin.ensures.changed c.in-Ok-begin.ensures.fresh in
    let order = c.requires.kept.0 in
    let grown = c.requires.whole.1 in
    let rising = c.in-Ok-begin.ensures.rising in
    let last = rows_of c.make_room.new.levels.items in
    let like : (k : ℕ) → last k ≡ rows k = λ k. c.make_room.ensures.rows k ∙ c.deepen.ensures.rows k in
    let aheads = aheads_of c.climb.new.drafts.items in
    build-leaves g.J.Job.joined rows deep c.deepen.ensures.rows c.args.from kept whole changed news (aheads_of now 0) is order grown c.requires.stays c.requires.changed rising c.requires.news last like aheads c.climb.ensures.first

pub returns-in-Ok-make_room-clause-sound : goal.returns-in-Ok-make_room-clause-sound
returns-in-Ok-make_room-clause-sound g c =
    let d = pair_digest g.J.Job.encoded in
    let rows = rows_of c.args.levels.now.items in
    let deep = rows_of c.deepen.new.levels.items in
    let news = c.args.news.now in
    let changed = c.args.changed.now in
    let kept = c.args.kept in
    let whole = c.args.whole in
    let leaves = c.in-Ok-begin.leaves in
    let now = c.push_reserved.new.self.items in
    let now_is : now ≡ leaves ∷ [] = c.push_reserved.ensures.items ∙ ap (λ ds. ds ++ leaves ∷ []) (c.reserve.ensures.items ∙ c.requires.none) in
    let is = ap (λ ds. aheads_of ds 0) now_is ∙ begun-is (rows 0) c.args.from kept whole changed news (ahead_of leaves) c.in-Ok-begin.ensures.numbers c.in-Ok-begin.ensures.places c.in-Ok-begin.ensures.changed c.in-Ok-begin.ensures.fresh in
    let order = c.requires.kept.0 in
    let grown = c.requires.whole.1 in
    let rising = c.in-Ok-begin.ensures.rising in
    let last = rows_of c.make_room.new.levels.items in
    let like : (k : ℕ) → last k ≡ rows k = λ k. c.make_room.ensures.rows k ∙ c.deepen.ensures.rows k in
    let aheads = aheads_of c.climb.new.drafts.items in
    let setting = g.J.Job.setting c.args.job.now in
    build-sound g.J.Job.joined rows deep c.deepen.ensures.rows c.args.from kept whole changed news (aheads_of now 0) is order grown c.requires.stays c.requires.changed rising c.requires.news last like aheads c.climb.ensures.first (IsLeaf g.J.Job.good setting) (c.in-Ok-begin.ensures.leaves setting c.requires.settings) c.requires.leaves

pub returns-in-Ok-make_room-clause-low : goal.returns-in-Ok-make_room-clause-low
returns-in-Ok-make_room-clause-low g c =
    let d = pair_digest g.J.Job.encoded in
    let rows = rows_of c.args.levels.now.items in
    let deep = rows_of c.deepen.new.levels.items in
    let news = c.args.news.now in
    let changed = c.args.changed.now in
    let kept = c.args.kept in
    let whole = c.args.whole in
    let leaves = c.in-Ok-begin.leaves in
    let now = c.push_reserved.new.self.items in
    let now_is : now ≡ leaves ∷ [] = c.push_reserved.ensures.items ∙ ap (λ ds. ds ++ leaves ∷ []) (c.reserve.ensures.items ∙ c.requires.none) in
    let is = ap (λ ds. aheads_of ds 0) now_is ∙ begun-is (rows 0) c.args.from kept whole changed news (ahead_of leaves) c.in-Ok-begin.ensures.numbers c.in-Ok-begin.ensures.places c.in-Ok-begin.ensures.changed c.in-Ok-begin.ensures.fresh in
    let order = c.requires.kept.0 in
    let grown = c.requires.whole.1 in
    let rising = c.in-Ok-begin.ensures.rising in
    let last = rows_of c.make_room.new.levels.items in
    let like : (k : ℕ) → last k ≡ rows k = λ k. c.make_room.ensures.rows k ∙ c.deepen.ensures.rows k in
    let aheads = aheads_of c.climb.new.drafts.items in
    build-low g.J.Job.joined rows deep c.deepen.ensures.rows c.args.from kept whole changed news (aheads_of now 0) is order grown c.requires.stays c.requires.changed rising c.requires.news last like aheads c.climb.ensures.first ∙ sym c.requires.whole.0

pub returns-in-Ok-make_room-clause-high : goal.returns-in-Ok-make_room-clause-high
returns-in-Ok-make_room-clause-high g c =
    let d = pair_digest g.J.Job.encoded in
    let rows = rows_of c.args.levels.now.items in
    let deep = rows_of c.deepen.new.levels.items in
    let news = c.args.news.now in
    let changed = c.args.changed.now in
    let kept = c.args.kept in
    let whole = c.args.whole in
    let leaves = c.in-Ok-begin.leaves in
    let now = c.push_reserved.new.self.items in
    let now_is : now ≡ leaves ∷ [] = c.push_reserved.ensures.items ∙ ap (λ ds. ds ++ leaves ∷ []) (c.reserve.ensures.items ∙ c.requires.none) in
    let is = ap (λ ds. aheads_of ds 0) now_is ∙ begun-is (rows 0) c.args.from kept whole changed news (ahead_of leaves) c.in-Ok-begin.ensures.numbers c.in-Ok-begin.ensures.places c.in-Ok-begin.ensures.changed c.in-Ok-begin.ensures.fresh in
    let order = c.requires.kept.0 in
    let grown = c.requires.whole.1 in
    let rising = c.in-Ok-begin.ensures.rising in
    let last = rows_of c.make_room.new.levels.items in
    let like : (k : ℕ) → last k ≡ rows k = λ k. c.make_room.ensures.rows k ∙ c.deepen.ensures.rows k in
    let aheads = aheads_of c.climb.new.drafts.items in
    build-high g.J.Job.joined rows deep c.deepen.ensures.rows c.args.from kept whole changed news (aheads_of now 0) is order grown c.requires.stays c.requires.changed rising c.requires.news last like aheads c.climb.ensures.first
