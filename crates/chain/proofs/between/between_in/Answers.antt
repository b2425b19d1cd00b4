-- `chain::between::between_in` meets its contract. Assumes nothing.
use native.Mathlib.Omega.{arith}
use Rattle.stored.specs.Rows.{graph_in}
use Rattle.chain.specs.Write.{write_few}
use Rattle.chain.specs.Between.{in_way, in_short, in_fits}
use Rattle.chain.proofs.between.between_in.Goals as goal

pub load_strong-requires : goal.load_strong-requires
load_strong-requires c = let P = c.requires in record { index = P.is_index; s_value = P.links; h_value = P.strong; w_len = P.room }

pub way_between-way-requires : goal.way_between-way-requires
way_between-way-requires c = (graph_in c.args.s.now, c.args.k, in_way c.requires c.load_strong.ensures)

pub overflow_mul-len : goal.overflow_mul-len
overflow_mul-len c = omega (arith, c.triangles.ensures, write_few (c.way_between-way.ensures _ _ (in_way c.requires c.load_strong.ensures)).asks)

pub overflow_add-len : goal.overflow_add-len
overflow_add-len c = omega (arith, c.triangles.ensures, write_few (c.way_between-way.ensures _ _ (in_way c.requires c.load_strong.ensures)).asks)

pub returns-then-out-len : goal.returns-then-out-len
returns-then-out-len c = rw c.triangles.ensures (in_short c.requires (c.way_between-way.ensures _ _ (in_way c.requires c.load_strong.ensures)) _ (rw c.triangles.ensures at c.if-out-len.true))

pub write_chain-requires : goal.write_chain-requires
write_chain-requires c = record { write_asks = (c.way_between-way.ensures _ _ (in_way c.requires c.load_strong.ensures)).asks; count_in_bounds = omega (arith, c.triangles.ensures, c.if-out-len.false) }

pub returns : goal.returns
returns c = rw c.triangles.ensures (in_fits c.requires (c.way_between-way.ensures _ _ (in_way c.requires c.load_strong.ensures)) _ _ (omega (arith, c.triangles.ensures, c.if-out-len.false)) c.write_chain.ensures)
