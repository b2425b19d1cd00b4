-- `peeling::peel::peel_in` meets its contract. Assumes nothing.
use Rattle.peeling.specs.Peel.{ended_copied, peel_levels, peel-done}
use Rattle.std.proofs.Common.{rules, take, drop, length, ◌-◌, ◌≡◌}
use native.Mathlib.Omega.{arith}
use Rattle.peeling.proofs.peel.peel_in.Goals as goal

pub peel_levels-requires : goal.peel_levels-requires
peel_levels-requires c =
    let whole : c.copy_from_slice.new.self ≡ take (length c.args.start.now - 1) (drop 1 c.args.start.now) = search rules in
    (c.requires.0, peel_levels c.requires.1 c.requires.2 (ended_copied c.copy_from_slice.ensures.len whole (omega (arith, c.requires.1.near.long, c.requires.1.named.accounts))) c.bare.ensures)

pub returns : goal.returns
returns c =
    let whole : c.copy_from_slice.new.self ≡ take (length c.args.start.now - 1) (drop 1 c.args.start.now) = search rules in
    λ G P. peel-done P c.bare.ensures (c.peel_levels.ensures G (peel_levels P c.requires.2 (ended_copied c.copy_from_slice.ensures.len whole (omega (arith, c.requires.1.near.long, c.requires.1.named.accounts))) c.bare.ensures)) c.wipe_all.ensures c.wipe.ensures c.zero.ensures
