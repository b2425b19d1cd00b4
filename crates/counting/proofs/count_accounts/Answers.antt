-- `counting::count_accounts` meets its contract. Assumes nothing.
use native.Mathlib.Omega.{arith}
use Rattle.counting.specs.Ends.{pointed}
use Rattle.counting.specs.Gives.{lower_asks, higher_asks, chain_asks, account_more}
use Rattle.counting.proofs.count_accounts.Goals as goal

pub touch_lower-i-requires : goal.touch_lower-i-requires
touch_lower-i-requires c = record { round_asks = lower_asks c.args.index.shape c.requires c.loop-v.invariant c.loop-v-test.true; p_le_m = c.loop-v.invariant.first.within }

pub of-requires : goal.of-requires
of-requires c = omega (arith, c.loop-v-test.true, c.requires.wide)

pub touch_higher-requires : goal.touch_higher-requires
touch_higher-requires c = let L = c.touch_lower-i.ensures in record { round_asks = higher_asks c.args.index.shape c.requires c.loop-v.invariant c.loop-v-test.true L; chain_at = rw (pointed c.checked_sub-last.result c.checked_sub-last.ensures) (chain_asks c.args.index.shape c.requires c.loop-v.invariant c.loop-v-test.true L c.of.ensures.0) }

pub loop-v-preserved : goal.loop-v-preserved
loop-v-preserved c = account_more c.args.index.shape c.requires c.loop-v.invariant c.loop-v-test.true c.touch_lower-i.ensures c.touch_higher.ensures
