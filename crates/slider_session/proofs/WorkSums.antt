-- Work of one run after another.
use Rattle.std.proofs.Common.{◌≡◌, List, [], ◌∷◌, ◌++◌, ap, ◌∙◌, arith}
use Rattle.slider_session.specs.WorkLines.{work_between, no_work, with_work, all_work, IsMoreWork}
use Rattle.slider_session.specs.declared.work.Work.{Work}

-- work is the same if each count is
same_work : (a b : Work) → a.maps ≡ b.maps → a.merges ≡ b.merges → a.joins ≡ b.joins → a ≡ b
same_work a b maps merges joins = λ i. record { maps = maps i; merges = merges i; joins = joins i }

-- nothing increased
pub none_between : (a : Work) → no_work ≡ work_between a a
none_between a = same_work no_work (work_between a a) (omega arith) (omega arith) (omega arith)

pub no_less : (a : Work) → IsMoreWork a a
no_less a = record { maps = omega arith; merges = omega arith; joins = omega arith }

-- more, and then more
pub more_then : (a b c : Work) → IsMoreWork a b → IsMoreWork b c → IsMoreWork a c
more_then a b c p q =
    let p0 = p.maps in let p1 = p.merges in let p2 = p.joins in
    let q0 = q.maps in let q1 = q.merges in let q2 = q.joins in
    record { maps = omega (arith, p0, q0); merges = omega (arith, p1, q1); joins = omega (arith, p2, q2) }

-- what increased, and then increased more
pub between_then : (a b c : Work) → IsMoreWork a b → IsMoreWork b c → with_work (work_between a b) (work_between b c) ≡ work_between a c
between_then a b c p q =
    let p0 = p.maps in let p1 = p.merges in let p2 = p.joins in
    let q0 = q.maps in let q1 = q.merges in let q2 = q.joins in
    same_work (with_work (work_between a b) (work_between b c)) (work_between a c) (omega (arith, p0, q0)) (omega (arith, p1, q1)) (omega (arith, p2, q2))

-- an increase is at most the total increase
pub between_within : (a b c : Work) → IsMoreWork b c → IsMoreWork (work_between a b) (work_between a c)
between_within a b c q =
    let q0 = q.maps in let q1 = q.merges in let q2 = q.joins in
    record { maps = omega (arith, q0); merges = omega (arith, q1); joins = omega (arith, q2) }

-- the work of a run more
pub all_more : (ws : List Work) (w : Work) → all_work (ws ++ w ∷ []) ≡ with_work (all_work ws) w
all_more [] w = same_work (with_work w no_work) (with_work no_work w) (omega arith) (omega arith) (omega arith)
all_more (v ∷ ws) w =
    ap (with_work v) (all_more ws w)
    ∙ same_work (with_work v (with_work (all_work ws) w)) (with_work (with_work v (all_work ws)) w) (omega arith) (omega arith) (omega arith)
