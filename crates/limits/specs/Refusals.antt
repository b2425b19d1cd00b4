-- The refusals in the definitions' words: the numbers that the host gets, and what a call's result says.
use Rattle.std.specs.Prelude.{◌≡◌, Result, Ok, Err, IsErrAnd, ℕ}
use Rattle.std.proofs.Common.{ap, ◌∙◌}
use Rattle.std.proofs.lemmas.Result.{err_from_is_err_and}
use Rattle.truss.specs.Refusal.{Refusal as Refused, Checked, passed, refused}
use Rattle.limits.specs.declared.refusal.Fault.{Fault}
use Rattle.limits.specs.declared.refusal.Refusal.{Refusal}
use Rattle.limits.specs.declared.refusal.Refusal.TheVariants.{Record, Accounts, Links, Beyond, EqualEnds, Repeated, NoIndex, Named, NoAccount, NoLevel, NoLink, NoRoom, NoWindow, LinkThere, Amount, Records}

unfoldable pub number_of : Refusal → ℕ
number_of Record = 1
number_of Accounts = 2
number_of Links = 3
number_of Beyond = 4
number_of EqualEnds = 5
number_of Repeated = 6
number_of NoIndex = 7
number_of Named = 8
number_of NoAccount = 9
number_of NoLevel = 10
number_of NoLink = 11
number_of NoRoom = 12
number_of NoWindow = 13
number_of LinkThere = 14
number_of Amount = 15
number_of Records = 16

-- a refusal with place 0
abbrev pub at_no_place : Refusal → Fault
at_no_place r = record { refusal = r; place = 0 }

-- a refusal and its place
abbrev pub refusal_in : Fault → Refused
refusal_in f = record { number = number_of f.refusal; place = f.place }

-- what checks give: what they let pass, or the refusal and its place
unfoldable pub checked_in : {A : Type 0} → Result A Fault → Checked A
checked_in (Ok x) = passed x
checked_in (Err f) = refused (refusal_in f)

-- the same where each refusal has place 0
unfoldable pub checked : {A : Type 0} → Result A Refusal → Checked A
checked (Ok x) = passed x
checked (Err r) = refused (refusal_in (at_no_place r))

-- what `?` hands on is the same fault, or the refusal with place 0
pub handed_on : {A : Type 0} (r : Result A Fault) (f : Fault) → IsErrAnd r (λ e. e ≡ f) → checked_in r ≡ refused (refusal_in f)
unfolding checked_in
handed_on {A} r f h =
    let p = err_from_is_err_and r h in
    ap checked_in p.1 ∙ ap {B = Checked A} (λ e. refused (refusal_in e)) p.2
