-- `peeling::peel::peel_levels` meets its contract. The loop begins after the first list is made. Assumes nothing.
use Rattle.std.proofs.lemmas.Option.{MatchOption-at_none, MatchOption-at_some}
use Rattle.peeling.specs.Peel.{rested_levels, rested_peeled, levels_start, levels_level, levels-size, levels_list, levels_rise, levels-next, levels_end}
use Rattle.peeling.specs.Rest.{listed-whole, rest_made, rest_cases, rest_falls}
use native.Mathlib.Omega.{arith}
use Rattle.peeling.proofs.peel.peel_levels.Goals as goal

pub rest-left-requires-clause-listed : goal.rest-left-requires-clause-listed
rest-left-requires-clause-listed c = listed-whole _

pub loop-left-init : goal.loop-left-init
loop-left-init c =
    rest_cases _ (λ r. r.place) (λ r. r.least)
    (λ N. (N.place, λ G P. levels_start P N.rested.tops N.rested.least))
    (λ r S. (S.small, λ G P. levels_start P S.rested.tops S.rested.least))
    c.rest-left.ensures

pub level-requires : goal.level-requires
level-requires c =
    let P = rested_levels (rest_made c.rest-left.result (λ r. r.place) (λ r. r.least) c.rest-left.ensures).2 c.requires.1 in
    let I = MatchOption-at_some _ _ _ c.in-Some.is c.loop-left.invariant in
    let D = I.1 _ P in
    (c.requires.0, D.0, levels_level P D.1 I.0)

pub begin-requires : goal.begin-requires
begin-requires c =
    let P = rested_levels (rest_made c.rest-left.result (λ r. r.place) (λ r. r.least) c.rest-left.ensures).2 c.requires.1 in
    ((MatchOption-at_some _ _ _ c.in-Some.is c.loop-left.invariant).1 _ P).1.tops.top

pub rest-left-requires-in-Some : goal.rest-left-requires-in-Some
rest-left-requires-in-Some c =
    let P = rested_levels (rest_made c.rest-left.result (λ r. r.place) (λ r. r.least) c.rest-left.ensures).2 c.requires.1 in
    let I = MatchOption-at_some _ _ _ c.in-Some.is c.loop-left.invariant in
    let D = (I.1 _ P).1 in
    let e = (c.level.ensures _ _ (levels_level P D I.0)).1 in
    record { w_len = levels-size P D e; m_le_link_bound = c.requires.1.named.few; listed = levels_list P D e c.begin.ensures }

pub loop-left-smaller : goal.loop-left-smaller
loop-left-smaller c =
    let P = rested_levels (rest_made c.rest-left.result (λ r. r.place) (λ r. r.least) c.rest-left.ensures).2 c.requires.1 in
    let I = MatchOption-at_some _ _ _ c.in-Some.is c.loop-left.invariant in
    let D = (I.1 _ P).1 in
    let e = (c.level.ensures _ _ (levels_level P D I.0)).1 in
    rw c.in-Some.is (rest_falls c.rest-left-in-Some.result (λ r. r.place) (λ r. r.least) I.0 (λ p b R. levels_rise P D e I.0 R) c.rest-left-in-Some.ensures)

pub loop-left-preserved : goal.loop-left-preserved
loop-left-preserved c =
    let I = MatchOption-at_some _ _ _ c.in-Some.is c.loop-left.invariant in
    rest_cases c.rest-left-in-Some.result (λ r. r.place) (λ r. r.least)
    (λ N. (N.place, λ G P. let D = (I.1 G P).1 in let e = c.level.ensures G _ (levels_level P D I.0) in (e.0, levels-next P D e.1 I.0 N.rested)))
    (λ r S. (S.small, λ G P. let D = (I.1 G P).1 in let e = c.level.ensures G _ (levels_level P D I.0) in (e.0, levels-next P D e.1 I.0 S.rested)))
    c.rest-left-in-Some.ensures

pub returns : goal.returns
returns c = λ G P.
    let R = (rest_made c.rest-left.result (λ r. r.place) (λ r. r.least) c.rest-left.ensures).2 in
    let Q = rested_levels R P in
    let E = MatchOption-at_none _ _ c.in_default.is c.loop-left.invariant in
    rested_peeled R (levels_end Q (E.1 G Q).1 (omega arith))
