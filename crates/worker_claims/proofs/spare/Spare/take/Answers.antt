use Rattle.std.proofs.Common.{sym, ap, ◌∙◌, subst, ◌≡◌, ◌≤◌, ℕ, [], vec_capacity}
use mathlib.Core.Option.{some-injective}
use lib.ListN.{get_elem?}
use Rattle.worker_claims.proofs.spare.Spare.take.Goals as goal

pub returns : goal.returns
returns g c = let f = c.close-closed.ensures.values.2 in let r = f.1 in
    let same = some-injective _ _ (sym (f.4 0 r.0 (ap (λ l. get_elem? l 0) r.1)) ∙ c.take-row.ensures.value) in
    subst (λ v. (v.items ≡ []) × (c.args.self ≤ vec_capacity v)) same (r.2, subst (λ (n : ℕ). n ≤ vec_capacity r.0) c.self.view_is r.3)
