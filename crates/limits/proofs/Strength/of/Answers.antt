-- `limits::Strength::of` meets its contract. Assumes nothing.
use Rattle.limits.specs.Range.{strength_of}
use borrow.Author.Tests.{lt-leb, le-leb}
use Rattle.limits.proofs.Strength.of.Goals as goal

pub returns-then-x : goal.returns-then-x
unfolding strength_of
returns-then-x c = rw (lt-leb _ _ c.if-x.true)

pub returns-then-x-2 : goal.returns-then-x-2
unfolding strength_of
returns-then-x-2 c = rw (le-leb _ _ c.if-x.false, lt-leb _ _ c.if-x-2.true)

pub returns : goal.returns
unfolding strength_of
returns c = rw (le-leb _ _ c.if-x.false, le-leb _ _ c.if-x-2.false)
