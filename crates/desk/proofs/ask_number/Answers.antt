-- `desk::ask_number` meets its contract. Assumes nothing.
use mathlib.Core.List.{[]}
use native.Mathlib.Omega.{arith}
use Rattle.question.specs.Asked.{question_of}
use Rattle.desk.specs.DeskBytes.{nothing_back}
use Rattle.desk.proofs.ask_number.Goals as goal

pub returns : goal.returns
returns c = nothing_back c.args.index.now (question_of c.args.q []) c.args.window c.args.desk.now c.ask_bytes.result c.ask_bytes.new.out (omega arith) c.ask_bytes.ensures
