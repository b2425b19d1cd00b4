-- `unions::roots::halve` meets its contract. Assumes nothing.
use native.Mathlib.Omega.{arith}
use Rattle.unions.specs.Find.{halve_near, halve_done}
use Rattle.unions.proofs.roots.halve.Goals as goal

pub get-q-requires : goal.get-q-requires
get-q-requires c = record { c_bound = omega arith; i_lt_m = halve_near (c.requires); w_len = c.requires.find.size }

pub returns : goal.returns
returns c = halve_done (c.requires) c.get-q.ensures.0 c.put.ensures
