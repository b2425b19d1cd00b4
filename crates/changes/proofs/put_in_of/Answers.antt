-- `changes::put_in_of` meets its contract. Assumes nothing.
use mathlib.Core.Path.{sym, ◌∙◌}
use native.Mathlib.Omega.{arith}
use lib.Seq.{length-take-le}
use Rattle.limits.specs.Refusals.{number_of}
use Rattle.truss.specs.Changes.{put_outside}
use Rattle.stored.specs.Find.{there, not_there}
use Rattle.changes.specs.Calls.{alters_not, first_outside, second_outside, faulty_5, faulty_14, faulty_3, put_asks}
use Rattle.changes.proofs.put_in_of.Goals as goal

pub returns-then-index-a : goal.returns-then-index-a
unfolding number_of
returns-then-index-a c = alters_not c.args.out.now _ (put_outside (first_outside c.args.index.shape c.args.a c.args.b c.if-index-a.true))

pub returns-then-index-b : goal.returns-then-index-b
unfolding number_of
returns-then-index-b c = alters_not c.args.out.now _ (put_outside (second_outside c.args.index.shape c.args.a c.args.b c.if-index-b.true))

pub returns-then-a-b : goal.returns-then-a-b
unfolding number_of
returns-then-a-b c = alters_not c.args.out.now _ (faulty_5 c.args.index.shape c.args.a c.args.b c.if-index-a.false c.if-index-b.false c.if-a-b.true)

pub returns-then-is_some : goal.returns-then-is_some
unfolding number_of
returns-then-is_some c = alters_not c.args.out.now _ (faulty_14 c.args.index.shape c.args.a c.args.b c.if-index-a.false c.if-index-b.false c.find_link-found.ensures c.if-a-b.false (there _ (sym c.is_some.ensures ∙ c.if-is_some.true)).1)

pub returns-then-index-ge-MOST_LINKS : goal.returns-then-index-ge-MOST_LINKS
unfolding number_of
returns-then-index-ge-MOST_LINKS c = alters_not c.args.out.now _ (faulty_3 c.args.index.shape c.args.a c.args.b c.if-index-a.false c.if-index-b.false c.find_link-found.ensures c.if-a-b.false (not_there _ (sym c.is_some.ensures ∙ c.if-is_some.false)) c.if-index-ge-MOST_LINKS.true)

pub build_with-requires : goal.build_with-requires
build_with-requires c = put_asks c.args.index.shape c.args.a c.args.b c.if-index-a.false c.if-index-b.false c.find_link-found.ensures c.if-a-b.false (not_there _ (sym c.is_some.ensures ∙ c.if-is_some.false)) c.if-index-ge-MOST_LINKS.false (length-take-le _ _ (omega (arith, c.requires, c.if-index-ge-MOST_LINKS.false)))
