-- `index::build::finish` meets its contract. Assumes nothing.
use Rattle.limits.specs.Refusals.{checked, number_of}
use Rattle.index.specs.Build.{no_room, wrote}
use native.Mathlib.Omega.{arith}
use Rattle.index.proofs.build.finish.Goals as goal

pub index_length-len-requires : goal.index_length-len-requires
index_length-len-requires c = let W = (c.solve-z.ensures _ c.requires.1).writes in record { m_bound = W.few; joins_bound = omega (arith, W.few, W.few_joins); groups_bound = omega (arith, W.few, W.few_groups) }

pub returns-then-out-len : goal.returns-then-out-len
unfolding checked number_of
returns-then-out-len c = record { finish_gives = λ ps P. no_room c.args.out.now (c.solve-z.ensures ps P) c.index_length-len.ensures c.if-out-len.true; finish_leaves = (_, _, c.solve-z.ensures) }

pub write_index-requires : goal.write_index-requires
write_index-requires c = let W = (c.solve-z.ensures _ c.requires.1).writes in record { writes = W; groups_in_bounds = omega (arith, c.if-out-len.false, c.index_length-len.ensures) }

pub overflow_cast-result : goal.overflow_cast-result
overflow_cast-result c = let W = (c.solve-z.ensures _ c.requires.1).writes in omega (arith, W.few, W.few_joins, W.few_groups, c.index_length-len.ensures)

pub returns : goal.returns
unfolding checked
returns c = record { finish_gives = λ ps P. wrote c.args.out.now (c.solve-z.ensures ps P) c.index_length-len.ensures c.if-out-len.false c.write_index.ensures; finish_leaves = (_, _, c.solve-z.ensures) }
