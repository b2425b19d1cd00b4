-- `index::build::build` meets its contract. Assumes nothing.
use Rattle.limits.specs.Refusals.{handed_on}
use Rattle.index.specs.Build.{given_back, head_refused, few_of}
use Rattle.truss.specs.Record.{body_length}
use Rattle.linksfile.specs.Answers.{head_of}
use lib.Seq.{length-take-le}
use native.Mathlib.Omega.{arith}
use mathlib.Core.Path.{refl, sym, ap, ◌∙◌}
use Rattle.index.proofs.build.build.Goals as goal

pub read_head-requires : goal.read_head-requires
unfolding body_length
read_head-requires c = refl

pub returns-in_err-head : goal.returns-in_err-head
unfolding head_of
returns-in_err-head c =
    ap (λ x. given_back x c.args.out.now) (handed_on c.from_residual.result _ c.from_residual.ensures.1)
    ∙ head_refused c.args.links.now c.args.out.now (sym (ap head_of c.in_err-head.was) ∙ c.read_head.ensures)

pub overflow_mul-work : goal.overflow_mul-work
unfolding head_of
overflow_mul-work c = omega (arith, few_of _ _ _ (sym c.read_head.ensures ∙ ap head_of c.in_ok-head.was))

pub slice_bounds-work-end : goal.slice_bounds-work-end
unfolding head_of
slice_bounds-work-end c = omega (arith, few_of _ _ _ (sym c.read_head.ensures ∙ ap head_of c.in_ok-head.was))

pub slice_bounds-build_in-end : goal.slice_bounds-build_in-end
unfolding head_of
slice_bounds-build_in-end c = sym (length-take-le _ _ (omega (arith, few_of _ _ _ (sym c.read_head.ensures ∙ ap head_of c.in_ok-head.was))))

pub build_in-requires : goal.build_in-requires
unfolding head_of
build_in-requires c = let h = sym c.read_head.ensures ∙ ap head_of c.in_ok-head.was in
    record { head = h; size = length-take-le _ _ (omega (arith, few_of _ _ _ h)) }
