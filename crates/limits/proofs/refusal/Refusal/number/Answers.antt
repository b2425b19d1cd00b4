-- `limits::refusal::Refusal::number` meets its contract. Assumes nothing.
use Rattle.std.specs.Prelude.{◌≡◌, ◌+◌}
use Rattle.std.proofs.Math.Path.{refl}
use Rattle.limits.specs.declared.refusal.Refusal.{Refusal}
use Rattle.limits.specs.declared.refusal.Refusal.TheVariants.{Record, Accounts, Links, Beyond, EqualEnds, Repeated, NoIndex, Named, NoAccount, NoLevel, NoLink, NoRoom, NoWindow, LinkThere, Amount, Records}
use Rattle.limits.specs.Refusals.{number_of}
use Rattle.limits.proofs.refusal.Refusal.number.Goals as goal

by_variant : (r : Refusal) → denote.Enum.Declared.tag_of Rattle.limits.specs.contracts.refusal.Refusal.the_type r + 1 ≡ number_of r
unfolding number_of
by_variant Record = refl
by_variant Accounts = refl
by_variant Links = refl
by_variant Beyond = refl
by_variant EqualEnds = refl
by_variant Repeated = refl
by_variant NoIndex = refl
by_variant Named = refl
by_variant NoAccount = refl
by_variant NoLevel = refl
by_variant NoLink = refl
by_variant NoRoom = refl
by_variant NoWindow = refl
by_variant LinkThere = refl
by_variant Amount = refl
by_variant Records = refl

pub returns : goal.returns
returns c = by_variant c.args.self
