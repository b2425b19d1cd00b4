-- `question::ways::shortest_chain` meets its contract. Assumes nothing.
use mathlib.Core.Path.{◌∙◌}
use native.Mathlib.Omega.{arith}
use Rattle.truss.specs.Question.{answer, ask_chain}
use Rattle.stored.specs.Opening.{graph}
use Rattle.question.specs.Replies.{handed_on}
use Rattle.question.specs.Checks.{stops, goes_on, first_stops, first_passes, four_inside}
use Rattle.question.specs.Ways.{way_asks, way_small, way_no_room, way-wrote}
use Rattle.question.proofs.ways.shortest_chain.Goals as goal

pub returns-in_err-known : goal.returns-in_err-known
unfolding answer
returns-in_err-known c = let a = c.args in
    handed_on (graph a.index) (ask_chain a.k a.a a.b a.c a.d) a.out.now c.from_residual.result _ c.from_residual.ensures.1 (stops _ c.in_err-known.ensures)

pub returns-in_err-level : goal.returns-in_err-level
unfolding answer
returns-in_err-level c = let a = c.args in
    handed_on (graph a.index) (ask_chain a.k a.a a.b a.c a.d) a.out.now c.from_residual-in_err-level.result _ c.from_residual-in_err-level.ensures.1 (goes_on _ c.in_ok-known.ensures ∙ stops _ c.in_err-level.ensures)

pub returns-in_err-number : goal.returns-in_err-number
unfolding answer
returns-in_err-number c = let a = c.args in
    handed_on (graph a.index) (ask_chain a.k a.a a.b a.c a.d) a.out.now c.from_residual-in_err-number.result _ c.from_residual-in_err-number.ensures.1
    (goes_on _ c.in_ok-known.ensures ∙ goes_on _ c.in_ok-level.ensures ∙ first_stops _ _ c.in_err-number.ensures)

pub returns-in_err-number-2 : goal.returns-in_err-number-2
unfolding answer
returns-in_err-number-2 c = let a = c.args in
    handed_on (graph a.index) (ask_chain a.k a.a a.b a.c a.d) a.out.now c.from_residual-in_err-number-2.result _ c.from_residual-in_err-number-2.ensures.1
    (goes_on _ c.in_ok-known.ensures ∙ goes_on _ c.in_ok-level.ensures ∙ first_passes _ _ c.in_ok-number.ensures ∙ stops _ c.in_err-number-2.ensures)

pub chain_between-len-requires : goal.chain_between-len-requires
chain_between-len-requires c = let (la, lb, lc, ld) = four_inside (graph c.args.index) c.args.index.shape.accounts c.in_ok-known.ensures in way_asks c.args.index.shape c.requires la lb lc ld

pub returns-then-out-len : goal.returns-then-out-len
unfolding answer
returns-then-out-len c = way_no_room c.chain_between-len.ensures.0
    (goes_on _ c.in_ok-known.ensures ∙ goes_on _ c.in_ok-level.ensures ∙ first_passes _ _ c.in_ok-number.ensures ∙ goes_on _ c.in_ok-number-2.ensures)
    (omega (arith, c.if-out-len.true, c.chain_between-len.auto.out))

pub overflow_cast-len : goal.overflow_cast-len
overflow_cast-len c = omega (arith, way_small c.args.index.shape c.chain_between-len.ensures.0)

pub returns : goal.returns
unfolding answer
returns c = way-wrote c.chain_between-len.ensures.0
    (goes_on _ c.in_ok-known.ensures ∙ goes_on _ c.in_ok-level.ensures ∙ first_passes _ _ c.in_ok-number.ensures ∙ goes_on _ c.in_ok-number-2.ensures)
    (omega (arith, c.if-out-len.false, c.chain_between-len.auto.out)) c.from.ensures
