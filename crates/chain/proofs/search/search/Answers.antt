-- `chain::search::search` meets its contract. Assumes nothing.
use native.Mathlib.Omega.{arith}
use Rattle.chain.specs.Search.{settled_is, search_start, search_few, search_size, search_settled, search_p, search_small, search_end, search_stop, search_next}
use Rattle.chain.proofs.search.search.Goals as goal

pub loop-head-init : goal.loop-head-init
loop-head-init c = (omega arith, λ G P. search_start P)

pub spread-s-requires : goal.spread-s-requires
spread-s-requires c = let P = c.requires.1 in (c.requires.0, c.args.f, (c.loop-head.invariant.1 _ P).pre)

pub returns-then-tail-head : goal.returns-then-tail-head
returns-then-tail-head c = λ G P.
    let T = c.loop-head.invariant.1 G P in
    search_end P (T.then _ _ _ _ (c.spread-s.ensures G _ T.pre)) c.if-tail-head.true

pub get-p-requires : goal.get-p-requires
get-p-requires c = let P = c.requires.1 in let T = c.loop-head.invariant.1 _ P in let S = T.then _ _ _ _ (c.spread-s.ensures _ _ T.pre) in record { c_bound = omega arith; i_lt_m = omega (arith, search_few P S, c.if-tail-head.false); w_len = search_size P S }

pub get-d-requires : goal.get-d-requires
get-d-requires c = let P = c.requires.1 in let T = c.loop-head.invariant.1 _ P in let S = T.then _ _ _ _ (c.spread-s.ensures _ _ T.pre) in record { c_bound = omega arith; i_lt_m = search_p P S c.if-tail-head.false c.get-p.ensures.0; w_len = search_size P S }

pub is_settled-requires : goal.is_settled-requires
is_settled-requires c = let P = c.requires.1 in
    let T = c.loop-head.invariant.1 _ P in
    search_settled P (T.then _ _ _ _ (c.spread-s.ensures _ _ T.pre))

pub returns-then-is_settled : goal.returns-then-is_settled
returns-then-is_settled c = λ G P.
    let T = c.loop-head.invariant.1 G P in
    let t = settled_is c.is_settled.ensures c.if-is_settled.true in
    search_stop P (T.then _ _ _ _ (c.spread-s.ensures G _ T.pre)) c.if-tail-head.false c.get-p.ensures.0 c.get-d.ensures.0 t.0 t.1

pub overflow_add-d : goal.overflow_add-d
overflow_add-d c = let P = c.requires.1 in
    let T = c.loop-head.invariant.1 _ P in
    omega (arith, search_small P (T.then _ _ _ _ (c.spread-s.ensures _ _ T.pre)) c.if-tail-head.false c.get-p.ensures.0 c.get-d.ensures.0)

pub loop-head-preserved : goal.loop-head-preserved
loop-head-preserved c = (
  (let P = c.requires.1 in
      let T = c.loop-head.invariant.1 _ P in
      omega (arith, search_few P (T.then _ _ _ _ (c.spread-s.ensures _ _ T.pre)), c.if-tail-head.false)),
  λ G P.
      let T = c.loop-head.invariant.1 G P in
      search_next P (T.then _ _ _ _ (c.spread-s.ensures G _ T.pre)) c.if-tail-head.false c.get-p.ensures.0 c.get-d.ensures.0,
)

pub returns : goal.returns
returns c = absurd (omega (arith, c.loop-head-test.false, c.loop-head.invariant.0))
