-- `strength::work` meets its contract. Assumes nothing.
use Rattle.strength.specs.Whole.{work_count, work_peel, work_done}
use Rattle.strength.proofs.work.Goals as goal

pub peel-requires : goal.peel-requires
peel-requires c = let P = c.requires.1 in
    let L = c.lists.ensures.0 _ P.named in
    let T = c.count_triangles-lookups.ensures _ (work_count P L c.lists.auto.next c.lists.ensures.1) in
    (c.requires.0, work_peel P L T)

pub returns : goal.returns
returns c = λ G P.
    let L = c.lists.ensures.0 G P.named in
    let T = c.count_triangles-lookups.ensures G (work_count P L c.lists.auto.next c.lists.ensures.1) in
    work_done P L T (c.peel.ensures G (work_peel P L T))
