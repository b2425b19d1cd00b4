-- `counting::touch_up` meets its contract. Assumes nothing.
use native.Mathlib.Omega.{arith}
use mathlib.Core.Path.{refl, ◌∙◌}
use Rattle.std.specs.Prelude.{Option, Some, ◌≡◌, ℕ}
use Rattle.counting.specs.Touching.{up_there, up_none, up_next, up_count, up_rises, up_more, up_stop, up_done}
use Rattle.stored.specs.Opening.{graph}
use Rattle.stored.specs.Rows.{shape_sized, sized_few, parent_found, parent_number}
use Rattle.counting.proofs.touch_up.Goals as goal

pub loop-next-init : goal.loop-next-init
loop-next-init c = (up_none (shape_sized c.args.index.shape) c.requires.g_lt_count, λ x q. let z : ◌≡◌ {A = Option ℕ} (Some c.args.g) (Some x) = q in let e : c.args.g ≡ x = cc in omega (arith, e, c.requires.g_lt_count))

pub get-requires : goal.get-requires
get-requires c = record { c_bound = omega arith; i_lt_m = omega (arith, c.loop-next.invariant.1 _ c.in-Some.is, (sized_few (shape_sized c.args.index.shape)).0); w_len = c.loop-next.invariant.0.both.length_is ∙ c.requires.w_len }

pub returns-then-get-r : goal.returns-then-get-r
returns-then-get-r c = let A = shape_sized c.args.index.shape in
    let S = rw c.in-Some.is at c.loop-next.invariant.0 in
    up_stop A S (up_there A (c.loop-next.invariant.1 _ c.in-Some.is)) c.requires.closed c.get.ensures.0 c.if-get-r.true

pub touch-requires : goal.touch-requires
touch-requires c = let A = shape_sized c.args.index.shape in
    let S = rw c.in-Some.is at c.loop-next.invariant.0 in
    let l = c.loop-next.invariant.1 _ c.in-Some.is in
    record { w_len = S.both.length_is ∙ c.requires.w_len; x_lt_m = omega (arith, l, (sized_few A).0); lt_c = c.requires.lt_c; c_bound = c.requires.c_bound; r_bound = c.requires.r_bound; x_bound = omega (arith, up_count A S (up_there A l), c.requires.small _ l) }

pub group_parent-next-requires : goal.group_parent-next-requires
group_parent-next-requires c = record { groups_at = c.args.index.shape.groups_at_lem; g_bound = omega (arith, c.loop-next.invariant.1 _ c.in-Some.is, c.args.index.shape.groups) }

pub loop-next-smaller : goal.loop-next-smaller
loop-next-smaller c = let A = shape_sized c.args.index.shape in
    let S = rw c.in-Some.is at c.loop-next.invariant.0 in
    let l = c.loop-next.invariant.1 _ c.in-Some.is in
    rw c.in-Some.is (omega (arith, l, (sized_few A).0, (sized_few A).1, up_rises A S (up_there A l) (parent_number (graph c.args.index) _ c.group_parent-next.ensures)))

pub loop-next-preserved : goal.loop-next-preserved
loop-next-preserved c = let A = shape_sized c.args.index.shape in
    let S = rw c.in-Some.is at c.loop-next.invariant.0 in
    let n = up_there A (c.loop-next.invariant.1 _ c.in-Some.is) in (
      up_more A S n c.get.ensures.0 c.if-get-r.false (parent_number (graph c.args.index) _ c.group_parent-next.ensures) c.touch.ensures,
      λ x q. let P = parent_found (graph c.args.index) _ c.group_parent-next.ensures q in up_next A S n P.0 P.1,
    )

pub returns : goal.returns
returns c = up_done (shape_sized c.args.index.shape) (rw c.in_default.is at c.loop-next.invariant.0) refl
