-- `question::lists::count_marks` meets its contract. Assumes nothing.
use native.Mathlib.Omega.{arith}
use mathlib.Core.Path.{◌≡◌, sym, ap, ◌∙◌}
use Prim.Native.Nat.{ℕ, ◌+◌}
use lib.ListN.{length}
use Rattle.ordering.specs.Rows.{marked, marked-none}
use Rattle.question.specs.Lists.{marked_few, counted_more}
use Rattle.question.proofs.lists.count_marks.Goals as goal

pub loop-i-init : goal.loop-i-init
loop-i-init c = sym (ap length (marked-none c.args.w.now c.args.m))

pub get-requires : goal.get-requires
get-requires c = record { c_bound = omega arith; i_lt_m = omega (arith, c.loop-i-test.true, c.requires.part); w_len = c.requires.size_is }

pub overflow_add-count : goal.overflow_add-count
overflow_add-count c = omega (arith, counted_more c.args.w.now c.args.m c.loop-i.i c.loop-i.invariant c.get.ensures.0 c.from-count.ensures, marked_few c.args.w.now c.args.m (c.loop-i.i + 1), c.requires.part, c.requires.few)

pub loop-i-preserved : goal.loop-i-preserved
loop-i-preserved c = counted_more c.args.w.now c.args.m c.loop-i.i c.loop-i.invariant c.get.ensures.0 c.from-count.ensures

pub returns : goal.returns
returns c = let e : c.loop-i.i ≡ c.args.size = omega arith in c.loop-i.invariant ∙ ap (λ (x : ℕ). length (marked c.args.w.now c.args.m x)) e
