-- `day::check::records_fault` meets its contract. Assumes nothing.
use native.Mathlib.Omega.{arith}
use mathlib.Core.Path.{ap, ◌∙◌}
use Rattle.day.specs.Checks.{fault_number, record_fault, fault_ok, fault_err, fault_handed, fault_next, fault_found, fault_none}
use Rattle.day.proofs.check.records_fault.Goals as goal

pub returns-in_err-record_fault : goal.returns-in_err-record_fault
returns-in_err-record_fault c =
    fault_handed c.from_residual.result _ c.from_residual.ensures.1
    ∙ fault_found c.args.n c.args.s.now _ (omega arith) _ (fault_err (c.record_fault.ensures ∙ ap (record_fault c.args.n) c.record_at.ensures) c.in_err-record_fault.was) ∙ c.loop-i.invariant

pub loop-i-preserved : goal.loop-i-preserved
loop-i-preserved c = fault_next c.args.n c.args.s.now _ (omega arith) (fault_ok (c.record_fault.ensures ∙ ap (record_fault c.args.n) c.record_at.ensures) c.in_ok-record_fault.was) ∙ c.loop-i.invariant

pub returns : goal.returns
unfolding fault_number
returns c = fault_none c.args.n c.args.s.now (omega arith) ∙ c.loop-i.invariant
