-- `question::lists::give_count` meets its contract. Assumes nothing.
use mathlib.Core.Path.{ap, ◌∙◌}
use Rattle.wire.specs.Writing.{written}
use Rattle.question.specs.Lists.{count_no_room, count_wrote}
use Rattle.question.proofs.lists.give_count.Goals as goal

pub returns-then-out-len : goal.returns-then-out-len
returns-then-out-len c = count_no_room c.if-out-len.true

pub returns : goal.returns
returns c = count_wrote c.if-out-len.false c.from.ensures (c.paste.ensures ∙ ap (written c.args.out.now 0) c.field_record.ensures)
