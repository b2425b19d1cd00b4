-- `stored::rows::link_key` meets its contract. Assumes nothing.
use native.Mathlib.Omega.{arith}
use Rattle.stored.specs.Rows.{ends_small}
use Rattle.stored.proofs.rows.link_key.Goals as goal

pub overflow_mul-result : goal.overflow_mul-result
overflow_mul-result c = omega (arith, c.link_lower-a.ensures, c.link_higher-b.ensures, (ends_small c.requires.index _ c.requires.i_bound).0, (ends_small c.requires.index _ c.requires.i_bound).1)

pub overflow_add-result : goal.overflow_add-result
overflow_add-result c = omega (arith, c.link_lower-a.ensures, c.link_higher-b.ensures, (ends_small c.requires.index _ c.requires.i_bound).0, (ends_small c.requires.index _ c.requires.i_bound).1)

pub returns : goal.returns
returns c = (omega (arith, c.link_lower-a.ensures, c.link_higher-b.ensures), omega (arith, c.link_lower-a.ensures, c.link_higher-b.ensures, (ends_small c.requires.index _ c.requires.i_bound).0, (ends_small c.requires.index _ c.requires.i_bound).1))
