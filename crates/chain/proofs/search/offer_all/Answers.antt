-- `chain::search::offer_all` meets its contract. Assumes nothing.
use native.Mathlib.Omega.{arith}
use Rattle.chain.specs.Search.{all_a, all_b, all_c, all_d, all_numbers, all_first, all_second, all_third, all_done}
use Rattle.chain.proofs.search.offer_all.Goals as goal

pub overflow_mul-d : goal.overflow_mul-d
overflow_mul-d c = omega (arith, all_d c.requires.3)

pub overflow_add-d : goal.overflow_add-d
overflow_add-d c = omega (arith, all_d c.requires.3, all_c c.requires.3)

pub overflow_mul-g : goal.overflow_mul-g
overflow_mul-g c = omega (arith, (all_numbers c.requires.3).1)

pub overflow_add-g : goal.overflow_add-g
overflow_add-g c = omega (arith, (all_numbers c.requires.3).1, (all_numbers c.requires.3).2)

pub offer-t-requires : goal.offer-t-requires
offer-t-requires c = all_first c.requires.3

pub overflow_mul-d-2 : goal.overflow_mul-d-2
overflow_mul-d-2 c = omega (arith, all_d c.requires.3)

pub overflow_add-d-2 : goal.overflow_add-d-2
overflow_add-d-2 c = omega (arith, all_d c.requires.3, all_b c.requires.3)

pub overflow_mul-p : goal.overflow_mul-p
overflow_mul-p c = omega (arith, (all_numbers c.requires.3).0)

pub overflow_add-p : goal.overflow_add-p
overflow_add-p c = omega (arith, (all_numbers c.requires.3).0, (all_numbers c.requires.3).2)

pub offer-u-requires : goal.offer-u-requires
offer-u-requires c = all_second c.requires.3 c.offer-t.ensures

pub overflow_mul-d-3 : goal.overflow_mul-d-3
overflow_mul-d-3 c = omega (arith, all_d c.requires.3)

pub overflow_add-d-3 : goal.overflow_add-d-3
overflow_add-d-3 c = omega (arith, all_d c.requires.3, all_a c.requires.3)

pub overflow_mul-p-2 : goal.overflow_mul-p-2
overflow_mul-p-2 c = omega (arith, (all_numbers c.requires.3).0)

pub overflow_add-p-2 : goal.overflow_add-p-2
overflow_add-p-2 c = omega (arith, (all_numbers c.requires.3).0, (all_numbers c.requires.3).1)

pub offer-requires : goal.offer-requires
offer-requires c = all_third c.requires.3 c.offer-t.ensures c.offer-u.ensures

pub returns : goal.returns
returns c = λ G f n P. all_done P c.offer-t.ensures c.offer-u.ensures c.offer.ensures
