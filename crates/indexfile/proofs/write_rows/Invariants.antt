-- `indexfile::write_rows` meets its contract. Assumes nothing.
use Rattle.std.proofs.Common.{◌≡◌}
use Rattle.wire.specs.Writing.{written, up_to}
use Rattle.indexfile.proofs.write_rows.Given as goal

abbrev pub invariant-loop-i : goal.invariant-loop-i
invariant-loop-i g l = l.out ≡ written l.initial.out 0 (up_to (g.R.Rows.rows l.rows) l.i)
