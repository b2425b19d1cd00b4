-- `index::open::open` meets its contract. Assumes nothing.
use mathlib.Core.Path.{refl, sym, ap, ◌∙◌}
use native.Mathlib.Omega.{arith}
use lib.Seq.{length-take-le}
use Rattle.truss.specs.Record.{body_length}
use Rattle.linksfile.specs.Answers.{head_of}
use Rattle.index.specs.Open.{index_links, head_fail_says, cleared_refused, cleared_good}
use Rattle.index.proofs.open.open.Goals as goal

pub read_head-requires : goal.read_head-requires
unfolding body_length
read_head-requires c = refl

pub overflow_mul-size : goal.overflow_mul-size
unfolding head_of
overflow_mul-size c = omega (arith, index_links _ _ _ (sym c.read_head.ensures ∙ ap head_of c.in-Ok.is))

pub slice_bounds-open_in-end : goal.slice_bounds-open_in-end
unfolding head_of
slice_bounds-open_in-end c = omega (arith, index_links _ _ _ (sym c.read_head.ensures ∙ ap head_of c.in-Ok.is), c.requires)

pub slice_bounds-open_in-end-in-Ok : goal.slice_bounds-open_in-end-in-Ok
unfolding head_of
slice_bounds-open_in-end-in-Ok c = sym (length-take-le _ _ (omega (arith, index_links _ _ _ (sym c.read_head.ensures ∙ ap head_of c.in-Ok.is), c.requires)))

pub open_in-requires : goal.open_in-requires
unfolding head_of
open_in-requires c = let h = (sym c.read_head.ensures ∙ ap head_of c.in-Ok.is) in
    record { head = h; size = length-take-le _ _ (omega (arith, index_links _ _ _ h, c.requires)) }

pub returns-in-Err : goal.returns-in-Err
unfolding head_of
returns-in-Err c = let q = sym (ap head_of c.in-Err.is) ∙ c.read_head.ensures in record { open_says = head_fail_says c.args.index.now q; work_after = cleared_refused c.args.index.now c.args.work.now q }

pub returns-in-Ok : goal.returns-in-Ok
unfolding head_of
returns-in-Ok c = record { open_says = c.open_in.ensures.open_says; work_after = cleared_good c.args.index.now c.args.work.now (sym c.read_head.ensures ∙ ap head_of c.in-Ok.is) c.open_in.ensures.w_after }
