-- The answers of the readers of a links file, in the definitions' words. Assumes nothing.
use Rattle.std.specs.Prelude.{Result, Ok, Err, ℕ}
use Rattle.truss.specs.Refusal.{Checked, passed, refuse}
use Rattle.truss.specs.LinksFile.{Head}
use Rattle.limits.specs.declared.refusal.Refusal.{Refusal}
use Rattle.limits.specs.Refusals.{number_of}
use Rattle.linksfile.specs.declared.Head.{Head as CHead}

unfoldable pub head_of : Result CHead Refusal → Checked Head
head_of (Ok h) = passed (record { n = h.n; m = h.m })
head_of (Err r) = refuse (number_of r) 0

-- a record's refusal has the record's place
unfoldable pub plain_of : Result ℕ Refusal → ℕ → Checked ℕ
plain_of (Ok k) at = passed k
plain_of (Err r) at = refuse (number_of r) at
