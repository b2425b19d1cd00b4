-- A chain, or none, as the count of its triangles and the link with which it begins. Assumes nothing.
use Rattle.std.specs.Prelude.{ℕ, Option, Some, None}
use Rattle.chain.specs.declared.write.Way.{Way}

-- no chain has no triangles
abbrev pub count_of : Option Way → ℕ
count_of None = 0
count_of (Some y) = y.count

-- where there is none, no link counts
abbrev pub from_of : Option Way → ℕ
from_of None = 0
from_of (Some y) = y.from
