-- `chain::between::chain_between` meets its contract. Assumes nothing.
use mathlib.Core.Path.{sym, ◌∙◌}
use native.Mathlib.Omega.{arith}
use Rattle.chain.specs.Between.{between_few, between_m, between_long, between_part, between_in, between_beyond}
use Rattle.chain.proofs.between.chain_between.Goals as goal

pub count_strong-h-requires : goal.count_strong-h-requires
count_strong-h-requires c = record { index = c.requires.is_index; s_value = c.requires.links }

pub overflow_mul-size : goal.overflow_mul-size
overflow_mul-size c = omega (arith, between_few c.requires c.args.k c.count_strong-h.ensures, between_m c.requires c.args.k c.count_strong-h.ensures)

pub slice_bounds-between_in-end : goal.slice_bounds-between_in-end
slice_bounds-between_in-end c = omega (arith, between_few c.requires c.args.k c.count_strong-h.ensures, between_long c.requires c.args.k c.count_strong-h.ensures)

pub slice_bounds-between_in-end-2 : goal.slice_bounds-between_in-end-2
slice_bounds-between_in-end-2 c = sym (between_part c.requires c.args.k c.count_strong-h.ensures)

pub between_in-requires : goal.between_in-requires
between_in-requires c = between_in c.requires c.args.k c.count_strong-h.ensures

pub returns : goal.returns
returns c = let P = c.requires in
    let k = c.args.k in
    let h = c.count_strong-h.ensures in (
      c.between_in.ensures,
      between_beyond k c.args.w.now c.between_in.new.w h (omega (arith, between_few P k h, between_long P k h))
          (c.between_in.auto.w ∙ between_part P k h),
    )
