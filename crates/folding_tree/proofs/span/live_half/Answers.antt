use Rattle.folding_tree.proofs.SpanLaws.{half-left, half-right, half-none}
use Rattle.folding_tree.proofs.span.live_half.Goals as goal

pub returns-then-span-half-clause-half : goal.returns-then-span-half-clause-half
returns-then-span-half-clause-half c = half-left c.args.span c.requires.wide c.requires.some c.requires.fits c.requires.high c.if-span-half.true

pub returns-then-half-span-clause-half : goal.returns-then-half-span-clause-half
returns-then-half-span-clause-half c = half-right c.args.span c.requires.wide c.requires.some c.requires.fits c.requires.high c.if-span-half.false c.if-half-span.true

pub returns-clause-none : goal.returns-clause-none
returns-clause-none c = half-none c.args.span c.requires.wide c.requires.some c.requires.fits c.requires.high c.if-span-half.false c.if-half-span.false
