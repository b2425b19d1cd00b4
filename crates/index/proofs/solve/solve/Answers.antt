-- `index::solve::solve` meets its contract. Assumes nothing.
use Rattle.index.specs.Solved.{given, solved}
use Rattle.index.proofs.solve.solve.Goals as goal

pub strengths-requires : goal.strengths-requires
strengths-requires c = (_, c.requires.1.named)

pub tree-requires : goal.tree-requires
tree-requires c = let P = c.requires.1 in (_, given P (c.strengths.ensures _ P.named))

pub returns : goal.returns
returns c = λ ps P. let S = c.strengths.ensures _ P.named in solved P S (c.tree.ensures _ (given P S))
