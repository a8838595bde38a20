use Rattle.std.proofs.Common.{◌≡◌, ◌<◌, ◌++◌, length, sym, ap, ◌∙◌, subst}
use Rattle.std.specs.Prelude.{slice_set}
use Rattle.window_manager.specs.Windows.{Leaf, WindowState, with_late}
use Rattle.window_manager.proofs.TextLaws.{late_set}
use Rattle.plain_program.proofs.window.PlainWindow.add_late.Goals as goal

pub returns : goal.returns
returns c =
    let b = c.self.inside in let more = c.args.more.now in let place = c.args.place in let leaves = b.leaves.items in
    let within : place < length leaves = subst (λ (w : WindowState). place < length w.leaves) (sym c.self.view_is) c.requires in
    let leaf : c.append_records.new.into ≡ c.index.result.now ++ more = c.in_ok-append_records.ensures ∙ ap (λ (l : Leaf). l ++ more) c.in_ok-leaf.ensures in
    let items : slice_set leaves place c.append_records.new.into ≡ with_late place more leaves = ap (λ (l : Leaf). slice_set leaves place l) leaf ∙ sym (late_set place more leaves c.index.result.now within c.index.ensures) in
    (λ i. record { kind = b.kind; places = b.places; leaves = items i; files = b.files.items; current = b.current })
    ∙ ap (λ (w : WindowState). record w { leaves = with_late place more w.leaves }) c.self.view_is
