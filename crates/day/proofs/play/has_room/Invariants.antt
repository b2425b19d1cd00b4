-- `day::play::has_room` meets its contract. Assumes nothing.
use Rattle.day.specs.Sums.{RoomTo}
use Rattle.day.proofs.play.has_room.Given as goal

abbrev pub invariant-loop-j : goal.invariant-loop-j
invariant-loop-j l = RoomTo l.m l.from l.j l.stake l.limit l.w
