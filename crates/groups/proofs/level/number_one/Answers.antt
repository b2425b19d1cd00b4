-- `groups::level::number_one` meets its contract. Assumes nothing.
use Rattle.groups.specs.Numbering.{number_passed, number_room, number_done, put-size}
use native.Mathlib.Omega.{arith}
use mathlib.Core.Path.{refl, ◌∙◌}
use Rattle.groups.proofs.level.number_one.Goals as goal

pub returns-then-get-k : goal.returns-then-get-k
returns-then-get-k c = number_passed c.get.ensures.0 c.if-get-k.true

pub put-requires : goal.put-requires
put-requires c = record { c_bound = omega arith; i_lt_m = c.requires.4.r_in; x_lt_entry_bound = omega (arith, number_room c.requires.4 c.get.ensures.0 c.if-get-k.false, c.requires.4.at.given.few); w_len = c.requires.4.at.given.size_is }

pub put-requires-2 : goal.put-requires-2
put-requires-2 c = record { c_bound = omega arith; i_lt_m = number_room c.requires.4 c.get.ensures.0 c.if-get-k.false; x_lt_entry_bound = omega (arith, c.requires.4.at.light); w_len = put-size _ _ _ _ _ c.put.ensures c.requires.4.at.given.size_is }

pub put-requires-3 : goal.put-requires-3
put-requires-3 c = record { c_bound = omega arith; i_lt_m = number_room c.requires.4 c.get.ensures.0 c.if-get-k.false; x_lt_entry_bound = omega arith; w_len = put-size _ _ _ _ _ c.put-2.ensures (put-size _ _ _ _ _ c.put.ensures c.requires.4.at.given.size_is) }

pub put-requires-4 : goal.put-requires-4
put-requires-4 c = record { c_bound = omega arith; i_lt_m = number_room c.requires.4 c.get.ensures.0 c.if-get-k.false; x_lt_entry_bound = omega (arith, c.requires.4.r_in, c.requires.4.at.given.few); w_len = put-size _ _ _ _ _ c.put-3.ensures (put-size _ _ _ _ _ c.put-2.ensures (put-size _ _ _ _ _ c.put.ensures c.requires.4.at.given.size_is)) }

pub overflow_add-result : goal.overflow_add-result
overflow_add-result c = omega (arith, number_room c.requires.4 c.get.ensures.0 c.if-get-k.false, c.requires.4.at.given.few)

pub returns : goal.returns
returns c = number_done (c.requires) c.get.ensures.0 c.if-get-k.false (c.put-4.ensures ∙ (rw (c.put-3.ensures, c.put-2.ensures, c.put.ensures) refl))
