-- `margins::write_bytes` meets its contract. Assumes nothing.
use mathlib.Core.Path.{◌≡◌}
use Rattle.wire.specs.Writing.{written}
use Rattle.margins.specs.Margins.{bytes_in}
use Rattle.margins.proofs.write_bytes.Given as goal

abbrev pub invariant-loop-j : goal.invariant-loop-j
invariant-loop-j l = l.out ≡ written l.initial.out 0 (bytes_in l.w l.m l.limit l.j)
