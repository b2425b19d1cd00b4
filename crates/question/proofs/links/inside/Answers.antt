-- `question::links::inside` meets its contract. Assumes nothing.
use Rattle.wire.specs.Writing.{tells_no}
use Rattle.question.specs.Links.{same_tells}
use Rattle.question.proofs.links.inside.Goals as goal

pub returns-then-g-eq-NO_GROUP : goal.returns-then-g-eq-NO_GROUP
returns-then-g-eq-NO_GROUP c = tells_no (λ p. p.0 c.if-g-eq-NO_GROUP.true)

pub group_at-requires : goal.group_at-requires
group_at-requires c = let S = c.args.index.shape in record { groups_at = S.groups_at_lem; s_value = S.groups; min_level_le_k = c.requires.level; i_bound = c.requires.i_bound }

pub returns : goal.returns
returns c = same_tells c.if-g-eq-NO_GROUP.false c.group_at.ensures
