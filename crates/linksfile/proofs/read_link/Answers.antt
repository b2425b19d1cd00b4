-- `linksfile::read_link` meets its contract. Assumes nothing.
use Rattle.linksfile.specs.Checks.{whole-link, record_1, record_4_first, record_4_second, record_5, record_key}
use Rattle.limits.specs.Refusals.{number_of}
use Rattle.linksfile.specs.Answers.{plain_of}
use native.Mathlib.Omega.{arith}
use mathlib.Core.Path.{sym, ◌∙◌}
use Rattle.linksfile.proofs.read_link.Goals as goal

pub returns-then-not-whole_record : goal.returns-then-not-whole_record
unfolding plain_of number_of
returns-then-not-whole_record c = record_1 c.args.s.now c.args.n c.args.at (sym c.whole_record.ensures ∙ c.if-not-whole_record.true)

pub field_at-a-requires : goal.field_at-a-requires
field_at-a-requires c = omega (arith, whole-link c.args.s.now c.args.at (sym c.whole_record.ensures ∙ c.if-not-whole_record.false))

pub field_at-b-requires : goal.field_at-b-requires
field_at-b-requires c = omega (arith, whole-link c.args.s.now c.args.at (sym c.whole_record.ensures ∙ c.if-not-whole_record.false))

pub returns-then-n-a : goal.returns-then-n-a
unfolding plain_of number_of
returns-then-n-a c = record_4_first c.args.s.now c.args.n c.args.at _ _ (sym c.whole_record.ensures ∙ c.if-not-whole_record.false) c.field_at-a.ensures.0 c.field_at-b.ensures.0 c.if-n-a.true

pub returns-then-n-b : goal.returns-then-n-b
unfolding plain_of number_of
returns-then-n-b c = record_4_second c.args.s.now c.args.n c.args.at _ _ (sym c.whole_record.ensures ∙ c.if-not-whole_record.false) c.field_at-a.ensures.0 c.field_at-b.ensures.0 c.if-n-a.false c.if-n-b.true

pub returns-then-a-b : goal.returns-then-a-b
unfolding plain_of number_of
returns-then-a-b c = record_5 c.args.s.now c.args.n c.args.at _ _ (sym c.whole_record.ensures ∙ c.if-not-whole_record.false) c.field_at-a.ensures.0 c.field_at-b.ensures.0 c.if-n-a.false c.if-n-b.false c.if-a-b.true

pub returns : goal.returns
unfolding plain_of number_of
returns c = record_key c.args.s.now c.args.n c.args.at _ _ (sym c.whole_record.ensures ∙ c.if-not-whole_record.false) c.field_at-a.ensures.0 c.field_at-b.ensures.0 c.if-n-a.false c.if-n-b.false c.if-a-b.false _ c.key_of.ensures
