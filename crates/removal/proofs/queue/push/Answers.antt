-- `removal::queue::push` meets its contract. Assumes nothing.
use mathlib.Core.Path.{refl}
use Rattle.removal.proofs.queue.push.Goals as goal

pub returns : goal.returns
returns c = (refl, rw (c.put-2.ensures, c.put.ensures))
