-- `linksfile::read_head` meets its contract. Assumes nothing.
use Rattle.linksfile.specs.Checks.{whole_head, head_1, head_2_none, head_2_many, head_3, head_passes}
use Rattle.limits.specs.Refusals.{number_of}
use Rattle.linksfile.specs.Answers.{head_of}
use native.Mathlib.Omega.{arith}
use mathlib.Core.Path.{sym, ◌∙◌}
use Rattle.linksfile.proofs.read_head.Goals as goal

pub returns-then-not-whole_record : goal.returns-then-not-whole_record
unfolding head_of number_of
returns-then-not-whole_record c = head_1 _ _ (sym c.whole_record.ensures ∙ c.if-not-whole_record.true)

pub field_at-n-requires : goal.field_at-n-requires
field_at-n-requires c = omega (arith, whole_head c.args.kind c.args.s.now c.requires (sym c.whole_record.ensures ∙ c.if-not-whole_record.false))

pub returns-then-n-eq0 : goal.returns-then-n-eq0
unfolding head_of number_of
returns-then-n-eq0 c = head_2_none c.args.kind c.args.s.now _ (sym c.whole_record.ensures ∙ c.if-not-whole_record.false) c.field_at-n.ensures.0 c.if-n-eq0.true

pub returns-then-n-gt-MOST_ACCOUNTS : goal.returns-then-n-gt-MOST_ACCOUNTS
unfolding head_of number_of
returns-then-n-gt-MOST_ACCOUNTS c = head_2_many c.args.kind c.args.s.now _ (sym c.whole_record.ensures ∙ c.if-not-whole_record.false) c.field_at-n.ensures.0 c.if-n-eq0.false c.if-n-gt-MOST_ACCOUNTS.true

pub field_at-m-requires : goal.field_at-m-requires
field_at-m-requires c = omega (arith, whole_head c.args.kind c.args.s.now c.requires (sym c.whole_record.ensures ∙ c.if-not-whole_record.false))

pub returns-then-m-gt-MOST_LINKS : goal.returns-then-m-gt-MOST_LINKS
unfolding head_of number_of
returns-then-m-gt-MOST_LINKS c = head_3 c.args.kind c.args.s.now _ (sym c.whole_record.ensures ∙ c.if-not-whole_record.false) c.field_at-n.ensures.0 _ c.if-n-eq0.false c.if-n-gt-MOST_ACCOUNTS.false c.field_at-m.ensures.0 c.if-m-gt-MOST_LINKS.true

pub returns : goal.returns
unfolding head_of number_of
returns c = head_passes c.args.kind c.args.s.now _ (sym c.whole_record.ensures ∙ c.if-not-whole_record.false) c.field_at-n.ensures.0 _ c.if-n-eq0.false c.if-n-gt-MOST_ACCOUNTS.false c.field_at-m.ensures.0 c.if-m-gt-MOST_LINKS.false
