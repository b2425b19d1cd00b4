-- `question::answer::answer` meets its contract. Assumes nothing.
use mathlib.Core.Path.{sym}
use native.Mathlib.Omega.{arith}
use lib.Seq.{length-take-le}
use Rattle.stored.specs.Rows.{few_links}
use Rattle.question.specs.Answer.{not_asked, asked_of, opened_blank}
use Rattle.question.specs.Asked.{question_of}
use Rattle.question.proofs.answer.answer.Goals as goal

pub returns-in_err-index : goal.returns-in_err-index
returns-in_err-index c = not_asked c.args.bytes.now (question_of c.args.q c.args.named.now) c.args.out.now c.from_residual.result _ _ c.from_residual.ensures.1 c.in_err-index.ensures.opens

pub overflow_mul-work : goal.overflow_mul-work
overflow_mul-work c = let S = c.in_ok-index.index.shape in omega (arith, few_links S.groups_at_lem.is_index, S.links)

pub slice_bounds-work-end : goal.slice_bounds-work-end
slice_bounds-work-end c = let S = c.in_ok-index.index.shape in omega (arith, few_links S.groups_at_lem.is_index, S.links)

pub slice_bounds-answer_of-end : goal.slice_bounds-answer_of-end
slice_bounds-answer_of-end c = let S = c.in_ok-index.index.shape in sym (length-take-le _ _ (omega (arith, few_links S.groups_at_lem.is_index, S.links)))

pub answer_of-requires : goal.answer_of-requires
answer_of-requires c = opened_blank c.args.bytes.now (question_of c.args.q c.args.named.now) c.args.out.now _ _ c.in_ok-index.ensures.opens

pub returns : goal.returns
returns c = asked_of c.args.bytes.now (question_of c.args.q c.args.named.now) c.args.out.now _ _ _ c.in_ok-index.ensures.opens c.answer_of.ensures
