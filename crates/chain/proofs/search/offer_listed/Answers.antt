-- `chain::search::offer_listed` meets its contract. Assumes nothing.
use mathlib.Core.Path.{◌≡◌}
use native.Mathlib.Omega.{arith}
use Rattle.chain.specs.Search.{over_in, over_size, over_some, over_all, over_turn}
use Rattle.chain.proofs.search.offer_listed.Goals as goal

pub get-g-requires : goal.get-g-requires
get-g-requires c = let P = c.requires.3 in let O = c.loop-j.invariant _ _ _ P in record { c_bound = omega arith; i_lt_m = over_in P O c.loop-j-test.true; w_len = over_size P O c.loop-j-test.true }

pub get-x-requires : goal.get-x-requires
get-x-requires c = let P = c.requires.3 in let O = c.loop-j.invariant _ _ _ P in record { c_bound = omega arith; i_lt_m = over_in P O c.loop-j-test.true; w_len = over_size P O c.loop-j-test.true }

pub overflow_sub-g : goal.overflow_sub-g
overflow_sub-g c = let P = c.requires.3 in
    omega (arith, over_some P (c.loop-j.invariant _ _ _ P) c.loop-j-test.true c.get-g.ensures.0 c.get-x.ensures.0)

pub offer_all-tail-requires : goal.offer_all-tail-requires
offer_all-tail-requires c = let P = c.requires.3 in
    (c.requires.0, c.requires.1, c.requires.2, over_all P (c.loop-j.invariant _ _ _ P) c.loop-j-test.true c.get-g.ensures.0 c.get-x.ensures.0)

pub loop-j-preserved : goal.loop-j-preserved
loop-j-preserved c = λ G f n P.
    let O = c.loop-j.invariant G f n P in
    over_turn P O c.loop-j-test.true c.get-g.ensures.0 c.get-x.ensures.0
    (c.offer_all-tail.ensures G f n (over_all P O c.loop-j-test.true c.get-g.ensures.0 c.get-x.ensures.0))

pub returns : goal.returns
returns c = let q : c.loop-j.j ≡ c.args.count = omega (arith, c.loop-j-test.false, c.loop-j.auto.j-end) in
    λ G f n P. rw q at (c.loop-j.invariant G f n P)
