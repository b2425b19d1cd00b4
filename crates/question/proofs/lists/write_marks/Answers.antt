-- `question::lists::write_marks` meets its contract. Assumes nothing.
use native.Mathlib.Omega.{arith}
use Rattle.question.specs.Lists.{write-none, write_more, put_room, write_done, marked_few}
use Rattle.question.proofs.lists.write_marks.Goals as goal

pub loop-i-init : goal.loop-i-init
loop-i-init c = write-none c.args.w.now c.args.m c.args.out.now

pub get-x-requires : goal.get-x-requires
get-x-requires c = record { c_bound = omega arith; i_lt_m = omega (arith, c.loop-i-test.true, c.requires.column_given.part); w_len = c.requires.column_given.size_is }

pub put_number-at-requires : goal.put_number-at-requires
put_number-at-requires c = record { at_lt_place_bound = omega (arith, c.loop-i.invariant.place, marked_few c.args.w.now c.args.m c.loop-i.i, c.loop-i-test.true, c.requires.column_given.part, c.requires.column_given.few); at_in_bounds = λ n. put_room c.requires.size_in_bounds c.loop-i.invariant c.loop-i-test.true c.get-x.ensures.0 n }

pub loop-i-preserved : goal.loop-i-preserved
loop-i-preserved c = write_more c.requires.size_in_bounds c.loop-i.invariant c.loop-i-test.true c.get-x.ensures.0 c.put_number-at.ensures

pub returns : goal.returns
returns c = write_done (omega arith) c.loop-i.invariant
