-- `day::play::bet_held` meets its contract. Assumes nothing.
use native.Mathlib.Omega.{arith}
use mathlib.Core.Path.{refl}
use Rattle.day.specs.Sums.{takes, held_room, held_full}
use Rattle.day.proofs.play.bet_held.Goals as goal

pub returns-then-not-has_room : goal.returns-then-not-has_room
returns-then-not-has_room c = held_full c.has_room.ensures c.if-not-has_room.true refl

pub charge-requires : goal.charge-requires
charge-requires c = record { safe = c.requires.row_safe; room = λ j l k. omega (arith, held_room c.has_room.ensures c.if-not-has_room.false j l k, c.requires.limit_lt_entry_bound) }

pub returns : goal.returns
returns c = takes refl (held_room c.has_room.ensures c.if-not-has_room.false) c.charge.ensures
