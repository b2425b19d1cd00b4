-- `question::checks::number` meets its contract. Assumes nothing.
use Rattle.stored.specs.Opening.{graph}
use Rattle.question.specs.Checks.{looked_up}
use Rattle.question.proofs.checks.number.Goals as goal

pub find_link-requires : goal.find_link-requires
find_link-requires c = let S = c.args.index.shape in record { index = S.groups_at_lem.is_index; s_value = S.links }

pub returns : goal.returns
returns c = looked_up (graph c.args.index) c.args.a c.args.b c.find_link.ensures c.ok_or.ensures.value
