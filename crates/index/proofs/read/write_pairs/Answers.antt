-- `index::read::write_pairs` meets its contract. Assumes nothing.
use mathlib.Core.Path.{◌≡◌, refl, ap, ◌∙◌}
use Prim.Native.Nat.{◌*◌}
use native.Mathlib.Omega.{arith}
use Rattle.truss.specs.LinksFile.{pair_bytes}
use Rattle.wire.specs.Writing.{written, written_none, written_next, up_to, up_to_more, up_to_length}
use Rattle.index.specs.Read.{back_bytes}
use Rattle.index.proofs.read.write_pairs.Goals as goal

pub loop-i-init : goal.loop-i-init
unfolding up_to
loop-i-init c = written_none _ _

pub overflow_mul-p : goal.overflow_mul-p
overflow_mul-p c = omega (arith, c.requires.strong_fit.few, c.loop-i-test.true)

pub overflow_add-p : goal.overflow_add-p
overflow_add-p c = omega (arith, c.requires.strong_fit.few, c.loop-i-test.true)

pub overflow_add-p-in-loop-i : goal.overflow_add-p-in-loop-i
overflow_add-p-in-loop-i c = omega (arith, c.requires.strong_fit.few, c.loop-i-test.true)

pub field_at-a-requires : goal.field_at-a-requires
field_at-a-requires c = omega (arith, c.requires.strong_fit.each _ c.loop-i-test.true)

pub overflow_add-p-in-loop-i-2 : goal.overflow_add-p-in-loop-i-2
overflow_add-p-in-loop-i-2 c = omega (arith, c.requires.strong_fit.few, c.loop-i-test.true)

pub field_at-b-requires : goal.field_at-b-requires
field_at-b-requires c = omega (arith, c.requires.strong_fit.each _ c.loop-i-test.true)

pub loop-i-preserved : goal.loop-i-preserved
loop-i-preserved c = let s = c.args.s.now in
    let i = c.loop-i.i in
    let a = c.field_at-a.ensures.0 in
    let b = c.field_at-b.ensures.0 in
    let same : _ ≡ back_bytes s i = c.pair_record-rec.ensures ∙ (λ j. pair_bytes (record { first = a j; second = b j })) in
    rw up_to_more (written_next _ _ _ _ {at = 5 * i} c.loop-i.invariant (omega (arith, up_to_length (back_bytes s) 5 (λ j. refl) i)) (omega (arith, c.requires.m_in_bounds, c.loop-i-test.true)) (c.paste.ensures ∙ ap (written _ 0) same))
