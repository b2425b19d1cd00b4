-- `listing::rows::put_rows` meets its contract. Assumes nothing.
use mathlib.Core.Path.{◌≡◌}
use Rattle.wire.specs.Writing.{written, up_to}
use Rattle.stored.specs.Opening.{graph}
use Rattle.listing.specs.Rows.{row_of}
use Rattle.listing.proofs.rows.put_rows.Given as goal

abbrev pub invariant-loop-g : goal.invariant-loop-g
invariant-loop-g l = l.out ≡ written l.initial.out 0 (up_to (row_of (graph l.index)) l.g)
