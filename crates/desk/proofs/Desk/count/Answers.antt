-- `desk::Desk::count` meets its contract. Assumes nothing.
use Rattle.std.specs.Prelude.{ℕ, set}
use Rattle.std.proofs.Math.Path.{ap}
use Rattle.desk.specs.declared.Desk.{Desk}
use Rattle.desk.proofs.Desk.count.Goals as goal

pub returns : goal.returns
returns c = ap {B = Desk} (λ (t : ℕ). record { tallies = set c.args.self.now.tallies c.args.window t }) c.next_tally.ensures
