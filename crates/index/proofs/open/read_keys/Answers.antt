-- `index::open::read_keys` meets its contract. Assumes nothing.
use native.Mathlib.Omega.{arith}
use Rattle.index.specs.Open.{keys_more, keys_not, keys_all, keys_failed, next-none, next_is, follows_small}
use Rattle.index.proofs.open.read_keys.Goals as goal

pub returns-in-None : goal.returns-in-None
returns-in-None c = keys_failed c.loop-i.invariant (keys_not c.loop-i.invariant c.loop-i-test.true (next-none c.next_key.ensures c.in-None.is))

pub put-requires-clause-x_lt_entry_bound : goal.put-requires-clause-x_lt_entry_bound
put-requires-clause-x_lt_entry_bound c = omega (arith, follows_small c.requires.small (next_is c.next_key.ensures c.in-Some.is))

pub loop-i-preserved : goal.loop-i-preserved
loop-i-preserved c = keys_more c.loop-i.invariant c.loop-i-test.true (next_is c.next_key.ensures c.in-Some.is) c.put.ensures

pub returns : goal.returns
returns c = keys_all c.loop-i.invariant (omega arith)
