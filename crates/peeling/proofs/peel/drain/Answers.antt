-- `peeling::peel::drain` meets its contract. Assumes nothing.
use Rattle.peeling.specs.Drain.{drain_few, drain_size, drain_turn, drain_remove, drain_next, drain_end}
use native.Mathlib.Omega.{arith}
use borrow.Author.Rules.{rules}
use Rattle.peeling.proofs.peel.drain.Goals as goal

pub get-e-requires : goal.get-e-requires
get-e-requires c = let P = c.requires.2 in let D = (c.loop-head.invariant.3 _ _ P).1 in record { c_bound = omega arith; i_lt_m = omega (arith, c.loop-head-test.true, drain_few P D); w_len = drain_size P D }

pub turn_to-at-requires : goal.turn_to-at-requires
turn_to-at-requires c = let P = c.requires.2 in
    (c.requires.0, drain_turn P (c.loop-head.invariant.3 _ _ P).1 (c.loop-head-test.true) c.get-e.ensures.0)

pub remove-tail-requires : goal.remove-tail-requires
remove-tail-requires c = let P = c.requires.2 in
    let D = c.loop-head.invariant.3 _ _ P in
    let more = c.loop-head-test.true in
    (c.requires.0, c.loop-head.head, D.0, drain_remove P D.1 more c.get-e.ensures.0 (c.turn_to-at.ensures _ (drain_turn P D.1 more c.get-e.ensures.0)))

pub loop-head-smaller : goal.loop-head-smaller
loop-head-smaller c = omega (arith, c.loop-head-test.true, drain_few c.requires.2 (c.loop-head.invariant.3 _ _ c.requires.2).1)

pub loop-head-preserved : goal.loop-head-preserved
loop-head-preserved c = (
  search rules,
  search rules,
  search rules,
  λ G d P.
      let D = c.loop-head.invariant.3 _ _ P in
      let more = c.loop-head-test.true in
      let t = c.turn_to-at.ensures _ (drain_turn P D.1 more c.get-e.ensures.0) in
      (_, drain_next P D.1 more c.get-e.ensures.0 t (c.remove-tail.ensures _ _ _ (drain_remove P D.1 more c.get-e.ensures.0 t))),
)

pub returns : goal.returns
returns c = λ G d P. drain_end P (c.loop-head.invariant.3 G d P).1 (λ l. grind (arith, c.loop-head-test.branch)) c.finish.ensures
