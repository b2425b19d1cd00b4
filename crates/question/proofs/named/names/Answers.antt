-- `question::named::names` meets its contract. Assumes nothing.
use mathlib.Core.Path.{sym, ◌∙◌}
use Rattle.stored.specs.Opening.{graph}
use Rattle.question.specs.Named.{fault_8, fault_9, fault_none, well_named}
use Rattle.question.proofs.named.names.Goals as goal

pub returns-then-bad_count : goal.returns-then-bad_count
returns-then-bad_count c = fault_8 c.args.named.now (graph c.args.index) (sym c.bad_count.ensures ∙ c.if-bad_count.true)

pub some_outside-requires : goal.some_outside-requires
some_outside-requires c = let w = well_named c.args.named.now (sym c.bad_count.ensures ∙ c.if-bad_count.false) in record { named_len = w.0; k_le_max_named = w.2 }

pub returns-then-some_outside : goal.returns-then-some_outside
returns-then-some_outside c = fault_9 c.args.named.now (graph c.args.index) (sym c.bad_count.ensures ∙ c.if-bad_count.false) (sym c.some_outside.ensures ∙ c.if-some_outside.true)

pub returns : goal.returns
returns c = fault_none c.args.named.now (graph c.args.index) (sym c.bad_count.ensures ∙ c.if-bad_count.false) (sym c.some_outside.ensures ∙ c.if-some_outside.false)
