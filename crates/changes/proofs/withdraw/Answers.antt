-- `changes::withdraw` meets its contract. Assumes nothing.
use Rattle.truss.specs.Change.{withdraw}
use Rattle.stored.specs.Opening.{opens_ok, opens_err, handed_no_index}
use Rattle.changes.specs.Calls.{changes_7, changes_of}
use Rattle.changes.proofs.withdraw.Goals as goal

pub returns-in_err-opened : goal.returns-in_err-opened
returns-in_err-opened c =
    let O = c.«open».ensures.opens in
    changes_7 (withdraw c.args.a c.args.b) c.args.index.now c.args.out.now c.from_residual.result (opens_err _ _ O c.in_err-opened.was).1 (handed_no_index _ _ c.from_residual.result O c.in_err-opened.was c.from_residual.ensures.1)

pub returns : goal.returns
returns c = changes_of (withdraw c.args.a c.args.b) c.args.index.now c.args.out.now c.withdraw_of.result (opens_ok _ _ c.«open».ensures.opens c.in_ok-opened.was).0 c.withdraw_of.ensures
