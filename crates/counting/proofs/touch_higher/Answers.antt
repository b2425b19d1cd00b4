-- `counting::touch_higher` meets its contract. Assumes nothing.
use native.Mathlib.Omega.{arith}
use mathlib.Core.Path.{◌∙◌}
use Rattle.counting.specs.Ends.{pointed, walked_none, walked_in, walked_less, walked_more}
use Rattle.stored.specs.Rows.{shape_sized}
use Rattle.counting.specs.Gives.{asked_small, asked_closed}
use Rattle.counting.proofs.touch_higher.Goals as goal

pub loop-next-init : goal.loop-next-init
loop-next-init c = walked_none c.requires.chain_at

pub touch_link-requires : goal.touch_link-requires
touch_link-requires c = let A = c.requires.round_asks in let S = rw c.in-Some.is at c.loop-next.invariant in let R = S.round in record { i_lt_m = walked_in c.requires.chain_at S; lt_c = omega arith; c_bound = omega arith; w_len = R.both.length_is ∙ A.size_is; small = asked_small A R; closed = asked_closed A R (shape_sized c.args.index.shape); r_bound = omega (arith, A.few_v) }

pub get-requires : goal.get-requires
get-requires c = let S = rw c.in-Some.is at c.loop-next.invariant in record { c_bound = omega arith; i_lt_m = walked_in c.requires.chain_at S; w_len = c.touch_link.ensures.both.length_is ∙ S.round.both.length_is ∙ c.requires.round_asks.size_is }

pub loop-next-preserved : goal.loop-next-preserved
loop-next-preserved c = let S = rw c.in-Some.is at c.loop-next.invariant in rw (pointed c.checked_sub-next.result c.checked_sub-next.ensures) (walked_more c.requires.chain_at S c.touch_link.ensures c.get.ensures.0)

pub loop-next-smaller : goal.loop-next-smaller
loop-next-smaller c = let S = rw c.in-Some.is at c.loop-next.invariant in rw (c.in-Some.is, pointed c.checked_sub-next.result c.checked_sub-next.ensures) (walked_less c.requires.chain_at S c.touch_link.ensures c.get.ensures.0)

pub returns : goal.returns
returns c = rw c.in_default.is at c.loop-next.invariant.round
