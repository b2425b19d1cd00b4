-- `stored::opened::Index::open` meets its contract. Assumes nothing.
use Rattle.std.proofs.Math.Path.{refl}
use Rattle.index.specs.Open.{opened_is, not_opened, opened_blank}
use Rattle.stored.specs.Rows.{opened_graph, opened_shape}
use Rattle.stored.specs.Opening.{Opens}
use Rattle.stored.proofs.opened.Index.open.Goals as goal

pub invariant_of-result : goal.invariant_of-result
invariant_of-result c = record { shape = opened_shape (opened_is _ c.«open».ensures.open_says c.in-Some.is) }

pub returns-in-None-clause-opens : goal.returns-in-None-clause-opens
unfolding Opens
returns-in-None-clause-opens c = (refl, not_opened _ c.«open».ensures.open_says c.in-None.is)

pub returns-in-Some-clause-opens : goal.returns-in-Some-clause-opens
unfolding Opens
returns-in-Some-clause-opens c = let O = opened_is _ c.«open».ensures.open_says c.in-Some.is in (refl, opened_graph O, opened_blank _ _ O c.«open».ensures.work_after)
