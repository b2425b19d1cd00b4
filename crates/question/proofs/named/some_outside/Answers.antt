-- `question::named::some_outside` meets its contract. Assumes nothing.
use native.Mathlib.Omega.{arith}
use mathlib.Core.Path.{sym}
use Rattle.stored.specs.Opening.{graph}
use Rattle.question.specs.Named.{below_none, below_more, some_outside, none-outside}
use Rattle.question.proofs.named.some_outside.Goals as goal

pub loop-j-init : goal.loop-j-init
loop-j-init c = below_none c.args.named.now

pub field_at-requires : goal.field_at-requires
field_at-requires c = omega (arith, c.loop-j-test.true, c.requires.named_len)

pub returns-then-index-field_at : goal.returns-then-index-field_at
returns-then-index-field_at c = sym (some_outside (graph c.args.index) c.args.index.shape.accounts c.args.named.now c.args.k c.requires.named_len c.loop-j-test.true c.field_at.ensures.0 c.if-index-field_at.true)

pub loop-j-preserved : goal.loop-j-preserved
loop-j-preserved c = below_more c.args.named.now c.loop-j.invariant c.field_at.ensures.0 c.if-index-field_at.false

pub returns : goal.returns
returns c = sym (none-outside (graph c.args.index) c.args.index.shape.accounts c.args.named.now c.args.k c.requires.named_len (omega arith) c.loop-j.invariant)
