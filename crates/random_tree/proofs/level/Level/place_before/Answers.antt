use Rattle.std.proofs.Common.{◌≡◌, ℕ, ◌+◌, ◌-◌, ◌++◌, length, take, drop, ap, ◌∙◌, arith, length-take, length-drop, length-append}
use Rattle.std.proofs.lemmas.List.{drop-drop}
use Rattle.random_tree.proofs.ReadLaws.{drop-after}
use Rattle.random_tree.proofs.level.Level.place_before.Goals as goal

pub returns : goal.returns
returns g c =
    let l = c.args.self.now in
    let n = c.len-2.result in
    let k = c.args.i - l.draft.first - length l.draft.fresh.items in
    let kept = length-take l.draft.first l.groups.items in
    let f = c.requires.fits in
    let no = c.if-i-self.false in
    let a = c.len.ensures in
    let b = c.len-2.ensures in
    let m = l.draft.fresh.ok.0 in
    let w = c.requires.within in
    let rest = length-drop (l.draft.first + l.draft.gone) l.groups.items in
    let behind = length-append l.draft.fresh.items (drop (l.draft.first + l.draft.gone) l.groups.items) in
    let all = length-append (take l.draft.first l.groups.items) (l.draft.fresh.items ++ drop (l.draft.first + l.draft.gone) l.groups.items) in
    let place : (l.draft.first + l.draft.gone) + k ≡ c.args.i - n + l.draft.gone = omega (arith, no, a, b, m) in (
      drop-after (take l.draft.first l.groups.items) (l.draft.fresh.items ++ drop (l.draft.first + l.draft.gone) l.groups.items) (c.args.i - l.draft.first) c.args.i (omega (arith, kept, no, f))
          ∙ (drop-after l.draft.fresh.items (drop (l.draft.first + l.draft.gone) l.groups.items) k (c.args.i - l.draft.first) (omega (arith, no, a, m))
          ∙ (drop-drop k (l.draft.first + l.draft.gone) l.groups.items
          ∙ ap (λ (j : ℕ). drop j l.groups.items) place)),
      omega (arith, no, a, b, m, f, w, rest, behind, all, kept),
    )
