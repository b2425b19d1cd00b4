-- `linksfile::load` meets its contract. Assumes nothing.
use Rattle.linksfile.specs.Load.{scan_asks}
use Rattle.linksfile.specs.Leaves.{went_well, went_wrong, load_good, load_bad}
use mathlib.Core.Path.{sym, ◌∙◌}
use native.Mathlib.Omega.{arith}
use Rattle.linksfile.proofs.load.Goals as goal

pub wipe-requires : goal.wipe-requires
wipe-requires c = record { w_len = c.scan_sorted-loaded.ensures.load_gives.length_is; c_bound = omega arith; m_le_link_bound = (scan_asks c.requires).few }

pub wipe-requires-2 : goal.wipe-requires-2
wipe-requires-2 c = record { w_len = c.wipe.ensures.length_is ∙ c.scan_sorted-loaded.ensures.load_gives.length_is; c_bound = omega arith; m_le_link_bound = (scan_asks c.requires).few }

pub wipe-requires-then-is_err : goal.wipe-requires-then-is_err
wipe-requires-then-is_err c = record { w_len = c.wipe-2.ensures.length_is ∙ c.wipe.ensures.length_is ∙ c.scan_sorted-loaded.ensures.load_gives.length_is; c_bound = omega arith; m_le_link_bound = (scan_asks c.requires).few }

pub returns-then-is_err : goal.returns-then-is_err
returns-then-is_err c = load_bad c.scan_sorted-loaded.ensures.load_gives c.scan_sorted-loaded.ensures.scan_leaves c.wipe.ensures c.wipe-2.ensures (went_wrong _ (sym c.is_err.ensures.value ∙ c.if-is_err.true)).1 c.wipe-then-is_err.ensures

pub returns-else-is_err : goal.returns-else-is_err
returns-else-is_err c = load_good c.scan_sorted-loaded.ensures.load_gives c.scan_sorted-loaded.ensures.scan_leaves c.wipe.ensures c.wipe-2.ensures (went_well _ (sym c.is_err.ensures.value ∙ c.if-is_err.false))
