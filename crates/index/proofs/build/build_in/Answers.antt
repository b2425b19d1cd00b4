-- `index::build::build_in` meets its contract. Assumes nothing.
use mathlib.Core.Path.{sym, ap, ◌∙◌}
use Rattle.limits.specs.Refusals.{checked, checked_in, handed_on}
use Rattle.index.specs.Build.{given_back, records_refused, records_good, build-finished, solve_asks}
use Rattle.index.proofs.build.build_in.Goals as goal

pub returns-in_err-load : goal.returns-in_err-load
unfolding checked_in
returns-in_err-load c =
    ap (λ x. given_back x c.args.out.now) (handed_on c.from_residual.result _ c.from_residual.ensures.1)
    ∙ records_refused c.args.links.now c.args.out.now c.args.n c.args.m c.requires.head (sym (ap checked_in c.in_err-load.was) ∙ c.load.ensures.outcome)

pub finish-requires : goal.finish-requires
unfolding checked_in
finish-requires c = let b = c.args.links.now in
    let g = records_good b c.args.out.now c.args.n c.args.m c.requires.head (sym (ap checked_in c.in_ok-load.was) ∙ c.load.ensures.outcome) in
    (g.0, solve_asks b c.args.out.now c.args.n c.args.m c.requires.head g.1 (c.load.ensures.named g.0 g.1))

pub returns-in_err-finish : goal.returns-in_err-finish
unfolding checked checked_in
returns-in_err-finish c = let b = c.args.links.now in
    let g = records_good b c.args.out.now c.args.n c.args.m c.requires.head (sym (ap checked_in c.in_ok-load.was) ∙ c.load.ensures.outcome) in
    build-finished b c.args.out.now c.args.n c.args.m c.requires.head g.1
    (ap (λ x. given_back x c.finish.new.out) (handed_on c.from_residual-in_err-finish.result _ c.from_residual-in_err-finish.ensures.1 ∙ sym (ap checked c.in_err-finish.was))
    ∙ c.finish.ensures.finish_gives g.0 (solve_asks b c.args.out.now c.args.n c.args.m c.requires.head g.1 (c.load.ensures.named g.0 g.1)))

pub returns : goal.returns
unfolding checked checked_in
returns c = let b = c.args.links.now in
    let g = records_good b c.args.out.now c.args.n c.args.m c.requires.head (sym (ap checked_in c.in_ok-load.was) ∙ c.load.ensures.outcome) in
    build-finished b c.args.out.now c.args.n c.args.m c.requires.head g.1
    (ap (λ x. given_back x c.finish.new.out) (sym (ap checked c.in_ok-finish.was))
    ∙ c.finish.ensures.finish_gives g.0 (solve_asks b c.args.out.now c.args.n c.args.m c.requires.head g.1 (c.load.ensures.named g.0 g.1)))
