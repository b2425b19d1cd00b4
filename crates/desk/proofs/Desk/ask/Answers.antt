-- `desk::Desk::ask` meets its contract. Assumes nothing.
use Rattle.question.specs.Asked.{question_of}
use Rattle.desk.specs.Desk.{window_below, ask_answered, ask_refused}
use Rattle.desk.proofs.Desk.ask.Goals as goal

pub returns-in_err-answered : goal.returns-in_err-answered
returns-in_err-answered c = ask_refused c.args.index.now (question_of c.args.q c.args.named.now) c.args.out.now c.args.window c.from_residual.result _ _ c.from_residual.ensures.1 c.in_err-answered.ensures

pub count-requires : goal.count-requires
count-requires c = window_below c.args.index.now (question_of c.args.q c.args.named.now) c.args.out.now c.args.window _ c.in_ok-answered.ensures

pub returns : goal.returns
returns c = ask_answered c.args.index.now (question_of c.args.q c.args.named.now) c.args.out.now c.args.window _ _ _ c.in_ok-answered.ensures c.count.ensures
