-- `groups::tree::tree` meets its contract. Assumes nothing.
use Rattle.groups.specs.Whole.{tree_work, tree_fits, tree_all}
use Rattle.groups.specs.Tree.{given_fits}
use native.Mathlib.Omega.{arith}
use Rattle.groups.proofs.tree.tree.Goals as goal

pub tidy-requires : goal.tidy-requires
tidy-requires c = let D = c.work-s.ensures c.requires.0 c.requires.1.order (given_fits c.requires.1) (tree_work c.requires.1 (omega arith) (omega arith)) in record { w_len = D.given.size_is; joins_le_m = D.within; groups_le_m = tree_fits D; m_bound = c.requires.1.few }

pub returns : goal.returns
returns c = λ G d. tree_all d (c.work-s.ensures G d.order (given_fits d) (tree_work d (omega arith) (omega arith))) c.tidy.ensures
