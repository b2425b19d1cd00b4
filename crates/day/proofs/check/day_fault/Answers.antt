-- `day::check::day_fault` meets its contract. Assumes nothing.
use Rattle.limits.specs.Refusals.{number_of}
use Rattle.day.specs.Checks.{fault_number, fault_level, fault_many, fault_opening, fault_records}
use Rattle.day.proofs.check.day_fault.Goals as goal

pub returns-then-bad_level : goal.returns-then-bad_level
unfolding fault_number number_of
returns-then-bad_level c = fault_level c.args.n c.args.k c.args.limit c.args.s.now c.bad_level.ensures c.if-bad_level.true

pub returns-then-count-gt-MOST_RECORDS : goal.returns-then-count-gt-MOST_RECORDS
unfolding fault_number number_of
returns-then-count-gt-MOST_RECORDS c = fault_many c.args.n c.args.k c.args.limit c.args.s.now c.bad_level.ensures c.if-bad_level.false c.if-count-gt-MOST_RECORDS.true

pub returns-then-limit-gt-MOST_LIMIT : goal.returns-then-limit-gt-MOST_LIMIT
unfolding fault_number number_of
returns-then-limit-gt-MOST_LIMIT c = fault_opening c.args.n c.args.k c.args.limit c.args.s.now c.bad_level.ensures c.if-bad_level.false c.if-count-gt-MOST_RECORDS.false c.if-limit-gt-MOST_LIMIT.true

pub returns : goal.returns
returns c = fault_records c.args.n c.args.k c.args.limit c.args.s.now c.bad_level.ensures c.if-bad_level.false c.if-count-gt-MOST_RECORDS.false c.if-limit-gt-MOST_LIMIT.false c.records_fault.ensures
