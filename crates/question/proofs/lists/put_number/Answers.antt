-- `question::lists::put_number` meets its contract. Assumes nothing.
use Prim.Native.Nat.{◌-◌}
use lib.ListN.{length, drop, length-drop}
use lib.Seq.{length-take-le}
use Rattle.wire.specs.Writing.{written-part}
use native.Mathlib.Omega.{arith}
use mathlib.Core.Path.{refl, ap}
use Rattle.question.proofs.lists.put_number.Goals as goal

pub returns-then-x-eq0 : goal.returns-then-x-eq0
returns-then-x-eq0 c = record { none = λ _. (refl, refl); some = λ n. absurd (n c.if-x-eq0.true) }

pub slice_bounds-paste-count : goal.slice_bounds-paste-count
slice_bounds-paste-count c = omega (arith, c.requires.at_in_bounds c.if-x-eq0.false)

pub paste-requires : goal.paste-requires
paste-requires c = let r = c.requires.at_in_bounds c.if-x-eq0.false in omega (arith, r, ap length c.field_record-rec.ensures, length-take-le (length c.args.out.now - c.args.at) (drop c.args.at c.args.out.now) (simp length-drop (omega arith)), length-drop c.args.at c.args.out.now)

pub returns : goal.returns
returns c = record { none = λ z. absurd (c.if-x-eq0.false z); some = λ n. (refl, rw (c.paste.ensures, c.field_record-rec.ensures) (written-part c.args.out.now c.args.at (length c.args.out.now - c.args.at) _ (omega arith))) }
