use Rattle.std.proofs.Common.{◌≡◌, ◌++◌, List, ℕ, length, sym, ap, ◌∙◌, subst, append_assoc}
use Rattle.definitions.specs.Tables.{HasGoodValues, keys_of, reduced, tabulate}
use Rattle.definitions.specs.Answer.{pairs_of, lines_of, answer_of}
use Rattle.job_laws.specs.Meanings.{meaning_of}
use Rattle.marker_chunker.specs.Cuts.{joined}
use Rattle.window_manager.specs.Windows.{WindowState, present}
use Rattle.slider_session.specs.Output.{header}
use Rattle.plain_program.proofs.KeyLaws.{table-tabulated}
use Rattle.plain_program.proofs.WindowLaws.{window_good}
use Rattle.plain_program.proofs.answering.plain_piece.Goals as goal

pub write_keys-requires : goal.write_keys-requires
write_keys-requires g c =
    let laws = g.met.J.Job in
    let s = g.J.Job.setting c.args.job.now in
    subst (HasGoodValues (g.J.Job.good s)) (sym (c.in_ok-pairs.ensures ∙ ap (λ (l : List (List (List ℕ))). pairs_of (g.J.Job.emits s) (joined l)) (c.as_slice.ensures.value ∙ ap (λ (w : WindowState). w.leaves) c.window.view_is))) (window_good (meaning_of g.J.Job c.args.job.now) (g.J.Job.good s) (laws.emits_good s) c.args.window.now.leaves c.requires.leaves)

pub returns : goal.returns
returns g c =
    let s = g.J.Job.setting c.args.job.now in
    let join = g.J.Job.joined s in
    let all = pairs_of (g.J.Job.emits s) (present c.args.window.now) in
    let whole = ap (λ (l : List (List (List ℕ))). pairs_of (g.J.Job.emits s) (joined l)) (c.as_slice.ensures.value ∙ ap (λ (w : WindowState). w.leaves) c.window.view_is) in
    let pairs = c.in_ok-pairs.ensures ∙ whole in
    let keys = c.in_ok-keys.ensures ∙ ap keys_of pairs in
    let count : c.len-count.result ≡ length (keys_of all) = c.len-count.ensures ∙ c.in_ok-keys.keys.ok.0 ∙ ap length keys in
    let listed = c.deref.ensures.value ∙ keys in
    let lines : lines_of (g.J.Job.text s) (tabulate (reduced join c.in_ok-pairs.pairs) c.deref.result.now) ≡ answer_of (g.J.Job.emits s) join (g.J.Job.text s) (present c.args.window.now)
    = (λ i. lines_of (g.J.Job.text s) (tabulate (reduced join (pairs i)) (listed i))) ∙ ap (lines_of (g.J.Job.text s)) (sym (table-tabulated join all)) in
    let head : c.as_bytes.result.now ≡ header c.args.run (length (keys_of all)) = c.as_bytes.ensures.value ∙ c.in_ok-header.ensures.ok ∙ ap (header c.args.run) count in
    c.in_ok-write_keys.ensures
    ∙ (λ i. c.in_ok-extend_from_slice.ensures.items i ++ lines i)
    ∙ (λ i. (c.args.out.now.items ++ head i) ++ answer_of (g.J.Job.emits s) join (g.J.Job.text s) (present c.args.window.now))
    ∙ append_assoc c.args.out.now.items (header c.args.run (length (keys_of all))) (answer_of (g.J.Job.emits s) join (g.J.Job.text s) (present c.args.window.now))
