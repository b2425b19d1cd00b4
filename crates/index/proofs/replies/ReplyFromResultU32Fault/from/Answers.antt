-- `index::replies::ReplyFromResultU32Fault::from` meets its contract. Assumes nothing.
use mathlib.Core.Path.{sym, ap, ◌∙◌}
use Rattle.truss.specs.Call.{Reply, not_done}
use Rattle.limits.specs.Refusals.{checked_in}
use Rattle.index.specs.Build.{reply_of, reply_same}
use Rattle.index.proofs.replies.ReplyFromResultU32Fault.from.Goals as goal

pub returns-in-Ok : goal.returns-in-Ok
unfolding reply_of checked_in
returns-in-Ok c = reply_same c.answered.ensures ∙ sym (ap (λ r. reply_of (checked_in r)) c.in-Ok.is)

pub returns-in-Err : goal.returns-in-Err
unfolding reply_of checked_in
returns-in-Err c =
    reply_same c.answered-in-Err.ensures ∙ ap {B = Reply} (λ k. not_done (record { number = k; place = c.in-Err.fault.place })) c.number.ensures
    ∙ sym (ap (λ r. reply_of (checked_in r)) c.in-Err.is)
