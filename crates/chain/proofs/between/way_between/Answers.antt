-- `chain::between::way_between` meets its contract. Assumes nothing.
use native.Mathlib.Omega.{arith}
use lib.Seq.{length-take-le}
use Rattle.chain.specs.Between.{way-first, way_second, way_no_first, way_no_second, way_lead, way-done, way_empty}
use Rattle.chain.proofs.between.way_between.Goals as goal

pub returns-in_err-e : goal.returns-in_err-e
returns-in_err-e c = λ G k P. rw c.from_residual.ensures (way_no_first P _ (c.in_err-e.ensures _ (way-first P)))

pub returns-in_err-f : goal.returns-in_err-f
returns-in_err-f c = λ G k P. rw c.from_residual-in_err-f.ensures (way_no_second P _ (c.in_err-f.ensures _ (way_second P)))

pub lead_in-requires : goal.lead_in-requires
lead_in-requires c = let P = c.requires.2 in
    (_, way_lead P (c.in_ok-e.ensures _ (way-first P)) (c.in_ok-f.ensures _ (way_second P)) (length-take-le _ _ (omega (arith, P.given.named.small))) (length-take-le _ _ (omega (arith, P.given.named.small))))

pub returns : goal.returns
returns c = λ G k P.
    let E = c.in_ok-e.ensures _ (way-first P) in
    let F = c.in_ok-f.ensures _ (way_second P) in
    way-done P E F (c.in_ok-count.ensures _ (way_lead P E F (length-take-le _ _ (omega (arith, P.given.named.small))) (length-take-le _ _ (omega (arith, P.given.named.small)))))

pub returns-in_err-count : goal.returns-in_err-count
returns-in_err-count c = λ G k P.
    let E = c.in_ok-e.ensures _ (way-first P) in
    let F = c.in_ok-f.ensures _ (way_second P) in
    rw c.from_residual-in_err-count.ensures (way_empty (way-done P E F (c.in_err-count.ensures _ (way_lead P E F (length-take-le _ _ (omega (arith, P.given.named.small))) (length-take-le _ _ (omega (arith, P.given.named.small)))))))
