-- What an answered question gives, in the definitions' words.
use Rattle.std.specs.Prelude.{Result, Ok, Err, ◌≢◌, ℕ}
use Rattle.std.proofs.Common.{arith}
use Rattle.truss.specs.Call.{Reply, done_with, not_done}
use Rattle.limits.specs.declared.refusal.Refusal.{Refusal}
use Rattle.limits.specs.declared.refusal.Refusal.TheVariants.{Record, Accounts, Links, Beyond, EqualEnds, Repeated, NoIndex, Named, NoAccount, NoLevel, NoLink, NoRoom, NoWindow, LinkThere, Amount, Records}
use Rattle.limits.specs.Refusals.{number_of, refusal_in, at_no_place}
use Rattle.index.specs.declared.answers.Answered.{Answered}

-- an answer of one number
abbrev pub only : ℕ → Answered
only x = record { value = x; second = 0 }

unfoldable pub reply_of : Result Answered Refusal → Reply
reply_of (Ok a) = done_with a.value a.second
reply_of (Err r) = not_done (refusal_in (at_no_place r))

-- no refusal has the number 0
pub number_not_0 : (e : Refusal) → number_of e ≢ 0
unfolding number_of
number_not_0 Record z = absurd (omega (arith, z))
number_not_0 Accounts z = absurd (omega (arith, z))
number_not_0 Links z = absurd (omega (arith, z))
number_not_0 Beyond z = absurd (omega (arith, z))
number_not_0 EqualEnds z = absurd (omega (arith, z))
number_not_0 Repeated z = absurd (omega (arith, z))
number_not_0 NoIndex z = absurd (omega (arith, z))
number_not_0 Named z = absurd (omega (arith, z))
number_not_0 NoAccount z = absurd (omega (arith, z))
number_not_0 NoLevel z = absurd (omega (arith, z))
number_not_0 NoLink z = absurd (omega (arith, z))
number_not_0 NoRoom z = absurd (omega (arith, z))
number_not_0 NoWindow z = absurd (omega (arith, z))
number_not_0 LinkThere z = absurd (omega (arith, z))
number_not_0 Amount z = absurd (omega (arith, z))
number_not_0 Records z = absurd (omega (arith, z))
