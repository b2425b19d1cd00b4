-- `question::named::hold_named` meets its contract. Assumes nothing.
use mathlib.Core.Path.{ap, ◌∙◌}
use lib.ListN.{length}
use Rattle.columns.specs.Wiping.{zeros-length}
use Rattle.stored.specs.Opening.{graph}
use Rattle.question.specs.Named.{good_names, held_not}
use Rattle.question.proofs.named.hold_named.Goals as goal

pub returns-in_err-names : goal.returns-in_err-names
returns-in_err-names c = held_not c.args.index.bytes.now c.args.named.now c.from_residual.result _ c.from_residual.ensures.1 c.in_err-names.ensures (ap length c.requires ∙ zeros-length _)

pub hold-requires : goal.hold-requires
hold-requires c = let S = c.args.index.shape in let N = good_names (graph c.args.index) c.args.named.now S.accounts c.in_ok-names.ensures in record { names = N.0; some = N.1; blank = c.requires }

pub returns : goal.returns
returns c = let H = c.hold.ensures in record { checks = c.in_ok-names.ensures; size_is = H.size_is; held = λ _. H }
