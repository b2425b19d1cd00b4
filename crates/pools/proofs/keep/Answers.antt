-- `pools::keep` meets its contract. Assumes nothing.
use mathlib.Core.Path.{◌∙◌}
use native.Mathlib.Omega.{arith}
use Rattle.pools.specs.Packing.{keep_name, keep-none, keep_in, keep_again, keep-first}
use Rattle.pools.proofs.keep.Goals as goal

pub near-e-requires : goal.near-e-requires
near-e-requires c = record { i_bound = c.requires.within; w_len = c.requires.size_is }

pub get-g-requires : goal.get-g-requires
get-g-requires c = record { c_bound = omega arith; i_lt_m = keep_name c.requires c.near-e.ensures.0; w_len = c.requires.size_is }

pub returns-then-g-eq-NO_GROUP : goal.returns-then-g-eq-NO_GROUP
returns-then-g-eq-NO_GROUP c = keep-none c.requires c.near-e.ensures.0 c.get-g.ensures.0 c.if-g-eq-NO_GROUP.true

pub get-requires : goal.get-requires
get-requires c = record { c_bound = omega arith; i_lt_m = keep_in c.requires c.near-e.ensures.0 c.get-g.ensures.0 c.if-g-eq-NO_GROUP.false; w_len = c.requires.size_is }

pub overflow_add-a : goal.overflow_add-a
overflow_add-a c = omega (arith, c.requires.small)

pub returns-then-get-a : goal.returns-then-get-a
returns-then-get-a c = keep_again c.requires c.near-e.ensures.0 c.get-g.ensures.0 c.if-g-eq-NO_GROUP.false c.get.ensures.0 c.if-get-a.true

pub overflow_add-a-2 : goal.overflow_add-a-2
overflow_add-a-2 c = omega (arith, c.requires.small)

pub put-requires : goal.put-requires
put-requires c = record { c_bound = omega arith; i_lt_m = keep_in c.requires c.near-e.ensures.0 c.get-g.ensures.0 c.if-g-eq-NO_GROUP.false; x_lt_entry_bound = omega (arith, c.requires.small); w_len = c.requires.size_is }

pub put_near-requires : goal.put_near-requires
put_near-requires c = record { i_bound = omega (arith, c.requires.behind, c.requires.within); x_lt_entry_bound = c.get-g.ensures.1; w_len = c.put.auto.w ∙ c.requires.size_is }

pub overflow_add-result : goal.overflow_add-result
overflow_add-result c = omega (arith, c.requires.behind, c.requires.within, c.requires.few)

pub returns : goal.returns
returns c = keep-first c.requires c.near-e.ensures.0 c.get-g.ensures.0 c.if-g-eq-NO_GROUP.false c.get.ensures.0 c.if-get-a.false c.put.ensures c.put_near.ensures
