use Rattle.std.proofs.Common.{◌≤◌, ◌++◌, length, sym, ap, ◌∙◌, append-nil, append_assoc, rules}
use Rattle.sha2.specs.Sha256.{sha256}
use Rattle.sheets.specs.Digests.{entry_bytes, table_bytes, table_digest}
use Rattle.sheets.proofs.MergeSteps.{rest_of}
use Rattle.sheets.proofs.DigestSteps.{holds_more, empty_is, first_entry}
use Rattle.sheets.proofs.digest.digest_of.Goals as goal

pub entries-preserved : goal.entries-preserved
entries-preserved g c =
    let encoded = g.J.Job.encoded in
    let inv = c.entries.invariant in
    let t = c.entries.rest.now in
    let e = c.e-item.result in
    let more = entry_bytes encoded e in
    let some : 1 ≤ length t = search rules in (
      inv.0 ++ more,
      c.hash_full.ensures (inv.0 ++ more) (holds_more c.entries.hasher c.entries.bytes.items c.encode_entry.new.out.items inv.0 more inv.1 c.in_ok-encode_entry.ensures),
      append_assoc inv.0 more (table_bytes encoded (rest_of t)) ∙ ap (λ l. inv.0 ++ l) (first_entry encoded t e some c.e-item.is) ∙ inv.2,
    )

pub returns : goal.returns
unfolding table_digest
returns g c =
    let inv = c.entries.invariant in
    let held = inv.1.0 in
    let all = inv.1.2 ∙ sym (append-nil inv.0) ∙ ap (λ t. inv.0 ++ table_bytes g.J.Job.encoded t) (empty_is c.entries.rest.now c.in_default.len_below) ∙ inv.2 in
    c.finalize.ensures (held ++ c.as_slice.result.now) (c.update.ensures held inv.1.1) ∙ ap sha256 (ap (λ l. held ++ l) c.as_slice.ensures.value ∙ all)
