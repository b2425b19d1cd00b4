-- `linksfile::scan_sorted` meets its contract. Assumes nothing.
use Rattle.limits.specs.Refusals.{number_of, checked_in}
use Rattle.linksfile.specs.Load.{scan_asks, load_few, sort_asks, load_repeat, load_scan}
use Rattle.linksfile.specs.Leaves.{scan_leaves}
use native.Mathlib.Omega.{arith}
use Rattle.linksfile.proofs.scan_sorted.Goals as goal

pub scan-stopped-requires : goal.scan-stopped-requires
scan-stopped-requires c = scan_asks c.requires

pub sort-best-requires : goal.sort-best-requires
sort-best-requires c = (_, sort_asks c.requires c.scan-stopped.ensures.scanned)

pub overflow_cast-result : goal.overflow_cast-result
overflow_cast-result c = omega (arith, load_few c.requires c.scan-stopped.ensures.scanned, c.scan-stopped.ensures.scanned.part, c.if-best-stopped.true)

pub returns-then-best-stopped : goal.returns-then-best-stopped
unfolding number_of checked_in
returns-then-best-stopped c = record { load_gives = load_repeat c.requires c.scan-stopped.ensures.scanned (c.sort-best.ensures.sort_gives _ (sort_asks c.requires c.scan-stopped.ensures.scanned)) c.if-best-stopped.true; scan_leaves = scan_leaves c.scan-stopped.ensures.file_only c.sort-best.ensures.sort_leaves }

pub returns : goal.returns
returns c = record { load_gives = load_scan c.requires c.scan-stopped.ensures.scanned (c.sort-best.ensures.sort_gives _ (sort_asks c.requires c.scan-stopped.ensures.scanned)) c.if-best-stopped.false; scan_leaves = scan_leaves c.scan-stopped.ensures.file_only c.sort-best.ensures.sort_leaves }
