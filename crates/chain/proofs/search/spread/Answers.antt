-- `chain::search::spread` meets its contract. Assumes nothing.
use Rattle.chain.specs.Search.{spread_thirds, spread_over, spread_done}
use Rattle.chain.proofs.search.spread.Goals as goal

pub thirds-l-requires : goal.thirds-l-requires
thirds-l-requires c = (c.requires.0, spread_thirds c.requires.2)

pub offer_listed-tail-requires : goal.offer_listed-tail-requires
offer_listed-tail-requires c = let P = c.requires.2 in
    (c.requires.0, c.requires.1, c.args.n, spread_over P (c.thirds-l.ensures _ (spread_thirds P)))

pub returns : goal.returns
returns c = λ G f P.
    let L = c.thirds-l.ensures G (spread_thirds P) in
    spread_done P L (c.offer_listed-tail.ensures G f _ (spread_over P L))
