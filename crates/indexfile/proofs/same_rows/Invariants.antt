-- `indexfile::same_rows` meets its contract. Assumes nothing.
use Rattle.std.proofs.Common.{◌≡◌, ◌*◌, take}
use Rattle.wire.specs.Writing.{up_to}
use Rattle.indexfile.proofs.same_rows.Given as goal

abbrev pub invariant-loop-i : goal.invariant-loop-i
invariant-loop-i g l = take (l.i * g.row.N) l.s ≡ up_to (g.R.Rows.rows l.rows) l.i
