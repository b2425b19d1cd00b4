-- `trial::try_in` meets its contract. Assumes nothing.
use native.Mathlib.Omega.{arith}
use Rattle.day.specs.Records.{records-length}
use Rattle.truss.specs.Bets.{records_in}
use Rattle.stored.specs.Opening.{graph}
use Rattle.trial.specs.Trial.{in_refused, in_short, in_closed, close_asks}
use Rattle.trial.proofs.try_in.Goals as goal

pub returns-in_err-day_fault : goal.returns-in_err-day_fault
returns-in_err-day_fault c = in_refused (graph c.args.index) _ (records_in c.args.records.now) _ _ _ c.args.taken.now c.args.index.shape.accounts c.day_fault.result c.day_fault.ensures _ c.from_residual.result _ c.in_err-day_fault.was c.from_residual.ensures.1

pub returns-then-taken-count : goal.returns-then-taken-count
returns-then-taken-count c = in_short (graph c.args.index) _ (records_in c.args.records.now) _ _ _ c.args.taken.now c.args.index.shape.accounts c.day_fault.result c.day_fault.ensures c.in_ok-day_fault.was _ (omega (arith, c.if-taken-count.true, records-length c.args.records.now))

pub close-requires : goal.close-requires
close-requires c = close_asks c.args.index c.requires.w_value c.requires.opening_lt_entry_bound c.day_fault.ensures c.in_ok-day_fault.was c.if-taken-count.false

pub returns : goal.returns
returns c = in_closed (graph c.args.index) _ (records_in c.args.records.now) _ _ _ c.args.taken.now c.args.index.shape.accounts c.day_fault.result c.day_fault.ensures c.in_ok-day_fault.was (omega (arith, c.if-taken-count.false, records-length c.args.records.now)) c.close.ensures
