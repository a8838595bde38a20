use Rattle.std.proofs.Common.{◌≡◌, ◌++◌, ◌+◌, take, drop, arith, ◌∙◌, length, ◌-◌, length-take}
use Rattle.definitions.proofs.ToldBytes.{told_then}
use Rattle.slider_io.proofs.Bytes.{prefix_of, next_piece}
use Rattle.slider_io.proofs.whole_puts.put_all.Goals as goal

pub returns-in-Err-clause-bytes : goal.returns-in-Err-clause-bytes
returns-in-Err-clause-bytes g c =
    told_then _ _ _ (λ old new. new ≡ old ++ take c.puts.at c.args.bytes.now) (λ old new. new ≡ old) _
    (λ x y z p q. prefix_of c.args.bytes.now x z c.puts.at (q ∙ p)) c.puts.invariant.bytes c.in-Err.ensures.bytes

pub returns-then-n-eq0-clause-bytes : goal.returns-then-n-eq0-clause-bytes
returns-then-n-eq0-clause-bytes g c =
    told_then _ _ _ (λ old new. new ≡ old ++ take c.puts.at c.args.bytes.now) _ _
    (λ x y z p q. prefix_of c.args.bytes.now x z (c.puts.at + c.in-Ok.n) (next_piece c.args.bytes.now x y z c.puts.at c.in-Ok.n c.puts.invariant.within p q)) c.puts.invariant.bytes c.in-Ok.ensures.bytes

pub puts-preserved : goal.puts-preserved
puts-preserved g c = record {
  within = let h = c.in-Ok.ensures.most in omega (arith, h, length-take (length c.args.bytes.now - c.puts.at) (drop c.puts.at c.args.bytes.now));
  bytes = told_then _ _ _ (λ old new. new ≡ old ++ take c.puts.at c.args.bytes.now) _ _
      (λ x y z p q. next_piece c.args.bytes.now x y z c.puts.at c.in-Ok.n c.puts.invariant.within p q) c.puts.invariant.bytes c.in-Ok.ensures.bytes;
  later = omega arith;
}
