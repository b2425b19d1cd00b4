-- `desk::Desk::read` meets its contract. Assumes nothing.
use mathlib.Core.Path.{◌≡◌, refl, subst}
use Prim.Native.Nat.{ℕ}
use native.Mathlib.Omega.{arith}
use Rattle.truss.specs.Limits.{windows}
use Rattle.desk.specs.DeskBytes.{TalliesTo, no_tallies, tallies_next}
use Rattle.desk.proofs.Desk.read.Goals as goal

pub loop-i-init : goal.loop-i-init
loop-i-init c = no_tallies c.args.bytes.now _ refl

pub loop-i-preserved : goal.loop-i-preserved
loop-i-preserved c = tallies_next c.args.bytes.now c.tally_of.result c.loop-i.invariant c.loop-i-test.true (omega (arith, c.loop-i-test.true, c.requires)) c.tally_of.ensures

pub returns : goal.returns
returns c = let e : c.loop-i.i ≡ windows = omega arith in subst (λ (x : ℕ). TalliesTo c.args.bytes.now x c.loop-i.tallies) e c.loop-i.invariant
