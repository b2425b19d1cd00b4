-- `peeling::peel::level` meets its contract. Assumes nothing.
use Rattle.peeling.specs.Peel.{level_hubs, level_none, level_seeds, level_drain, level_done}
use Rattle.peeling.proofs.peel.level.Goals as goal

pub seed_hubs-hubs-requires : goal.seed_hubs-hubs-requires
seed_hubs-hubs-requires c = let p = c.requires in
    (p.0, p.1, _, level_hubs p.2, level_none p.2)

pub seed-tail-requires : goal.seed-tail-requires
seed-tail-requires c = let p = c.requires in
    (p.0, c.args.n, p.1, _, level_seeds p.2 c.begin.ensures, c.seed_hubs-hubs.ensures _ _ _ (level_none p.2))

pub drain-requires : goal.drain-requires
drain-requires c = let p = c.requires in
    let H = c.seed_hubs-hubs.ensures _ _ _ (level_none p.2) in
    (p.0, p.1, level_drain p.2 (c.seed-tail.ensures _ _ _ _ (level_seeds p.2 c.begin.ensures) H))

pub returns : goal.returns
returns c = λ G d P.
    let H = c.seed_hubs-hubs.ensures G d _ (level_none P) in
    let S = c.seed-tail.ensures G _ d _ (level_seeds P c.begin.ensures) H in
    let D = c.drain.ensures G d (level_drain P S) in
    (D.0, level_done P S D.1)
