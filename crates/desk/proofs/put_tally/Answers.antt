-- `desk::put_tally` meets its contract. Assumes nothing.
use native.Mathlib.Omega.{arith}
use Rattle.desk.specs.DeskBytes.{tally_put}
use Rattle.desk.proofs.put_tally.Goals as goal

pub returns : goal.returns
returns c = tally_put c.args.desk.now c.args.i c.args.t (omega (arith, c.requires)) c.to_be_bytes.ensures c.paste.ensures
