-- `groups::level::adopt_one` meets its contract. Assumes nothing.
use Rattle.groups.specs.Naming.{adopt_known, adopt_least, adopt_passed, adopt_done}
use Rattle.groups.specs.Marking.{at_find}
use native.Mathlib.Omega.{arith}
use Rattle.groups.proofs.level.adopt_one.Goals as goal

pub returns-then-get-ne-NO_GROUP : goal.returns-then-get-ne-NO_GROUP
returns-then-get-ne-NO_GROUP c = adopt_known c.get.ensures.0 c.if-get-ne-NO_GROUP.true

pub find-r-requires : goal.find-r-requires
find-r-requires c = at_find c.requires.5.ready.at (adopt_least c.requires.5 c.get-l.ensures.0)

pub returns-then-get-k : goal.returns-then-get-k
returns-then-get-k c = adopt_passed c.get.ensures.0 c.if-get-ne-NO_GROUP.false c.get-l.ensures.0 c.find-r.ensures c.get-2.ensures.0 c.if-get-k.true (omega (arith, c.requires.5.g_in, c.requires.5.c_in))

pub returns : goal.returns
returns c = adopt_done c.get.ensures.0 c.if-get-ne-NO_GROUP.false c.get-l.ensures.0 c.find-r.ensures c.get-2.ensures.0 c.if-get-k.false c.get-h.ensures.0 (omega (arith, c.requires.5.g_in, c.requires.5.c_in)) c.requires.5.ready.at.given.size_is c.put.ensures
