-- `index::read::write_pairs` meets its contract. Assumes nothing.
use mathlib.Core.Path.{◌≡◌}
use Rattle.wire.specs.Writing.{written, up_to}
use Rattle.index.specs.Read.{back_bytes}
use Rattle.index.proofs.read.write_pairs.Given as goal

abbrev pub invariant-loop-i : goal.invariant-loop-i
invariant-loop-i l = l.out ≡ written l.initial.out 0 (up_to (back_bytes l.s) l.i)
