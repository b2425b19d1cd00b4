-- `desk::ask_bytes` meets its contract. Assumes nothing.
use Rattle.question.specs.Asked.{question_of}
use Rattle.desk.specs.DeskBytes.{desk_stays, asked_below, desk_moves}
use Rattle.desk.proofs.ask_bytes.Goals as goal

pub returns-in_err-answered : goal.returns-in_err-answered
returns-in_err-answered c = desk_stays c.args.index.now (question_of c.args.q c.args.named.now) c.args.out.now c.args.window c.args.desk.now c.if-desk-lt-DESK_BYTES.false c.from_residual.result _ c.read-asked.result _ c.from_residual.ensures.1 c.in_err-answered.ensures

pub bounds-asked-i : goal.bounds-asked-i
bounds-asked-i c = asked_below c.args.index.now (question_of c.args.q c.args.named.now) c.args.out.now c.args.window c.args.desk.now c.if-desk-lt-DESK_BYTES.false c.read-asked.ensures _ c.in_ok-answered.ensures

pub put_tally-requires-clause-i_lt_windows : goal.put_tally-requires-clause-i_lt_windows
put_tally-requires-clause-i_lt_windows c = asked_below c.args.index.now (question_of c.args.q c.args.named.now) c.args.out.now c.args.window c.args.desk.now c.if-desk-lt-DESK_BYTES.false c.read-asked.ensures _ c.in_ok-answered.ensures

pub returns : goal.returns
returns c = desk_moves c.args.index.now (question_of c.args.q c.args.named.now) c.args.out.now c.args.window c.args.desk.now c.if-desk-lt-DESK_BYTES.false c.read-asked.ensures _ c.in_ok-answered.ensures c.put_tally.ensures
