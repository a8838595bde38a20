use Rattle.std.proofs.Common.{◌≡◌, ◌<◌, ◌++◌, ◌∙◌, ap, sym, get_or, length, subst, arith}
use Rattle.std.proofs.lemmas.Result.{err_from_is_err_and}
use Rattle.definitions.specs.Outside.{GainsPrefix}
use Rattle.job_laws.specs.Encoding.{be32}
use Rattle.job_laws.proofs.Gains.{gains_nothing, piece_more, gains_next}
use Rattle.jobs_basic.proofs.index.IndexJob.encode.Goals as goal

pub returns-in_err-extend_from_slice-clause-err : goal.returns-in_err-extend_from_slice-clause-err
returns-in_err-extend_from_slice-clause-err g c =
    let p = err_from_is_err_and c.from_residual.result c.from_residual.ensures.1 in
    let v = c.args.v.now in
    let i = c.docs.doc-index in
    let within : i < length v = grind arith in
    let stays : c.extend_from_slice.new.self.items ≡ c.docs.out.items = grind arith in
    rw p.1 (gains_next be32 v i 0 within c.args.out.now.items c.docs.out.items c.extend_from_slice.new.self.items c.docs.invariant
    (subst (GainsPrefix (be32 (get_or v i 0)) c.docs.out.items) (sym stays) (gains_nothing (be32 (get_or v i 0)) c.docs.out.items)))

pub docs-preserved : goal.docs-preserved
docs-preserved g c =
    let v = c.args.v.now in
    let i = c.docs.doc-index in
    let within : i < length v = grind arith in
    let number : c.be32_bytes.result ≡ be32 (get_or v i 0) = grind arith in
    let added : c.extend_from_slice.new.self.items ≡ c.docs.out.items ++ c.be32_bytes.result = c.in_ok-extend_from_slice.ensures.items in
    added
    ∙ ap (λ l. c.docs.out.items ++ l) number
    ∙ ap (λ l. l ++ be32 (get_or v i 0)) c.docs.invariant
    ∙ piece_more be32 v i 0 within c.args.out.now.items
