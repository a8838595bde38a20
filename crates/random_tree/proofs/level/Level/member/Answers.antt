use Rattle.std.proofs.Common.{◌≡◌, ◌+◌, ◌-◌, ◌++◌, length, take, drop, Some, sym, ap, ◌∙◌, arith, length-take, length-drop, length-append}
use Rattle.std.specs.List.{slice_get}
use Rattle.sheets.specs.Sheets.{SheetOf}
use Rattle.random_tree.specs.Levels.{group_sheet, taken}
use Rattle.random_tree.proofs.ReadLaws.{get-read, get-before, get-after, get-behind, get-map}
use Rattle.random_tree.proofs.level.Level.member.Goals as goal

pub returns-then-behind-len : goal.returns-then-behind-len
returns-then-behind-len g c =
    let l = c.args.self.now in
    let k = c.args.i - l.draft.first in
    let x = c.index-then-behind-len.result.now in
    let kept = length-take l.draft.first l.groups.items in
    let at : slice_get (taken l) c.args.i ≡ Some x =
    get-after (take l.draft.first l.groups.items) _ k c.args.i x (let no = c.if-i-self.false in let f = c.requires.fits in omega (arith, kept, no, f))
    (get-before l.draft.fresh.items _ k x (get-read l.draft.fresh.items k x (let lt = c.if-behind-len.true in let n = c.len.ensures in let m = l.draft.fresh.ok.0 in omega (arith, lt, n, m)) c.index-then-behind-len.ensures)) in
    get-map group_sheet (taken l) c.args.i x at ∙ ap (λ (s : SheetOf g.row.J-Val.Denot). Some s) (sym c.sheet-then-behind-len.ensures)

pub returns : goal.returns
returns g c =
    let l = c.args.self.now in
    let n = c.len-2.result in
    let k = c.args.i - l.draft.first - length l.draft.fresh.items in
    let x = c.index-2.result.now in
    let kept = length-take l.draft.first l.groups.items in
    let f = c.requires.fits in
    let no = c.if-i-self.false in
    let nor = c.if-behind-len.false in
    let a = c.len.ensures in
    let b = c.len-2.ensures in
    let m = l.draft.fresh.ok.0 in
    let o = l.groups.ok.0 in
    let w = c.requires.within in
    let at : slice_get (taken l) c.args.i ≡ Some x =
    get-after (take l.draft.first l.groups.items) _ (c.args.i - l.draft.first) c.args.i x (omega (arith, kept, no, f))
    (get-after l.draft.fresh.items _ k (c.args.i - l.draft.first) x (omega (arith, no, nor, a, m))
    (get-behind (l.draft.first + l.draft.gone) l.groups.items k (c.args.i - n + l.draft.gone) x (omega (arith, no, nor, a, b, m))
    (get-read l.groups.items (c.args.i - n + l.draft.gone) x (let rest = length-drop (l.draft.first + l.draft.gone) l.groups.items in let behind = length-append l.draft.fresh.items (drop (l.draft.first + l.draft.gone) l.groups.items) in let all = length-append (take l.draft.first l.groups.items) (l.draft.fresh.items ++ drop (l.draft.first + l.draft.gone) l.groups.items) in omega (arith, no, nor, a, b, m, f, w, rest, behind, all, kept)) c.index-2.ensures))) in
    get-map group_sheet (taken l) c.args.i x at ∙ ap (λ (s : SheetOf g.row.J-Val.Denot). Some s) (sym c.sheet-2.ensures)
