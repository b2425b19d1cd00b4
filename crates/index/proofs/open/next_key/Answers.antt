-- `index::open::next_key` meets its contract. Assumes nothing.
use mathlib.Core.Path.{sym, ◌∙◌}
use native.Mathlib.Omega.{arith}
use Rattle.index.specs.Open.{whole_strong, next_not, next_turned, next_above, next_before, next_found}
use Rattle.wire.specs.Writing.{turned_true, turned_false}
use Rattle.index.proofs.open.next_key.Goals as goal

pub returns-then-not-whole_record : goal.returns-then-not-whole_record
returns-then-not-whole_record c = next_not c.args.s.now c.args.n c.args.at c.args.last (sym c.whole_record.ensures ∙ turned_true c.whole_record.result c.if-not-whole_record.true-raw)

pub field_at-a-requires : goal.field_at-a-requires
field_at-a-requires c = omega (arith, whole_strong c.args.s.now c.args.at (sym c.whole_record.ensures ∙ turned_false c.whole_record.result c.if-not-whole_record.false-raw))

pub field_at-b-requires : goal.field_at-b-requires
field_at-b-requires c = omega (arith, whole_strong c.args.s.now c.args.at (sym c.whole_record.ensures ∙ turned_false c.whole_record.result c.if-not-whole_record.false-raw))

pub returns-then-b-a : goal.returns-then-b-a
returns-then-b-a c = next_turned c.args.s.now c.args.n c.args.at c.args.last c.field_at-a.ensures.0 c.field_at-b.ensures.0 c.if-b-a.true

pub returns-then-n-b : goal.returns-then-n-b
returns-then-n-b c = next_above c.args.s.now c.args.n c.args.at c.args.last c.field_at-a.ensures.0 c.field_at-b.ensures.0 c.if-n-b.true

pub returns-then-k-last : goal.returns-then-k-last
returns-then-k-last c = next_before c.args.s.now c.args.n c.args.at c.args.last c.field_at-a.ensures.0 c.field_at-b.ensures.0 c.if-k-last.true

pub returns : goal.returns
returns c = next_found c.args.s.now c.args.n c.args.at c.args.last c.field_at-a.ensures.0 c.field_at-b.ensures.0 (sym c.whole_record.ensures ∙ turned_false c.whole_record.result c.if-not-whole_record.false-raw) c.if-b-a.false c.if-n-b.false c.if-k-last.false
