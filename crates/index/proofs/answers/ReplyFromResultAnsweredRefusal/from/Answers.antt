-- A reply of what an answered question gives meets its contract. Assumes nothing.
use mathlib.Core.Path.{refl}
use Rattle.limits.specs.Refusals.{number_of}
use Rattle.index.specs.Answered.{reply_of}
use Rattle.index.proofs.answers.ReplyFromResultAnsweredRefusal.from.Goals as goal

pub returns-in-Ok : goal.returns-in-Ok
unfolding reply_of
returns-in-Ok c = rw c.in-Ok.is refl

pub returns-in-Err : goal.returns-in-Err
unfolding reply_of
returns-in-Err c = rw (c.in-Err.is, c.number.ensures) refl
