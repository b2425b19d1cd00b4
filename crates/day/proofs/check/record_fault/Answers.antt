-- `day::check::record_fault` meets its contract. Assumes nothing.
use native.Mathlib.Omega.{arith}
use mathlib.Core.Path.{refl}
use borrow.Author.Tests.{lt-ltb, le-ltb, le-leb, lt-leb}
use Rattle.truss.specs.Limits.{min_stake, max_stake, max_limit}
use Rattle.limits.specs.Refusals.{number_of}
use Rattle.day.specs.Records.{day_record}
use Rattle.day.specs.Checks.{fault_number, record_fault, stake_out}
use Rattle.day.proofs.check.record_fault.Goals as goal

pub returns-then-n-account : goal.returns-then-n-account
unfolding fault_number number_of record_fault day_record
returns-then-n-account c = rw (c.in-Bet.is, le-leb c.args.n c.in-Bet.account c.if-n-account.true) refl

pub returns-then-stake-lt-LEAST_STAKE : goal.returns-then-stake-lt-LEAST_STAKE
unfolding fault_number number_of record_fault day_record
returns-then-stake-lt-LEAST_STAKE c = rw (c.in-Bet.is, lt-leb c.args.n c.in-Bet.account c.if-n-account.false, stake_out c.in-Bet.stake (λ l h. omega (arith, l, h, c.then-stake-lt-LEAST_STAKE.either))) refl

pub returns-else-stake-gt-MOST_STAKE : goal.returns-else-stake-gt-MOST_STAKE
unfolding fault_number number_of record_fault day_record
returns-else-stake-gt-MOST_STAKE c = rw (c.in-Bet.is, lt-leb c.args.n c.in-Bet.account c.if-n-account.false, le-ltb c.in-Bet.stake min_stake c.if-stake-lt-LEAST_STAKE.false, le-ltb max_stake c.in-Bet.stake c.if-stake-gt-MOST_STAKE.false) refl

pub returns-then-limit-gt-MOST_LIMIT : goal.returns-then-limit-gt-MOST_LIMIT
unfolding fault_number number_of record_fault day_record
returns-then-limit-gt-MOST_LIMIT c = rw (c.in-Limit.is, lt-ltb max_limit c.in-Limit.limit c.if-limit-gt-MOST_LIMIT.true) refl

pub returns-else-limit-gt-MOST_LIMIT : goal.returns-else-limit-gt-MOST_LIMIT
unfolding fault_number number_of record_fault day_record
returns-else-limit-gt-MOST_LIMIT c = rw (c.in-Limit.is, le-ltb max_limit c.in-Limit.limit c.if-limit-gt-MOST_LIMIT.false) refl
