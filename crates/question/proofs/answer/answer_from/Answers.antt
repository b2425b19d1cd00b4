-- `question::answer::answer_from` meets its contract. Assumes nothing.
use Rattle.question.specs.Asked.{question_of}
use Rattle.question.specs.Answer.{no_window, from_window}
use Rattle.question.proofs.answer.answer_from.Goals as goal

pub returns-then-window-ge-WINDOWS : goal.returns-then-window-ge-WINDOWS
returns-then-window-ge-WINDOWS c = no_window c.args.bytes.now (question_of c.args.q c.args.named.now) c.args.out.now c.if-window-ge-WINDOWS.true

pub returns : goal.returns
returns c = from_window c.args.bytes.now (question_of c.args.q c.args.named.now) c.args.out.now _ c.if-window-ge-WINDOWS.false c.answer.ensures
