-- `unions::joins::join` meets its contract. Assumes nothing.
use native.Mathlib.Omega.{arith}
use mathlib.Core.Path.{◌∙◌, sym}
use Rattle.unions.specs.Joins.{join_in_lem, join_find, join_find_next, join_unite, join_early, join_late, join-done}
use Rattle.unions.proofs.joins.join.Goals as goal

pub get-requires : goal.get-requires
get-requires c = record { c_bound = omega arith; i_lt_m = (join_in_lem c.requires.2).0; w_len = c.requires.2.growth.given.size_is }

pub get-requires-2 : goal.get-requires-2
get-requires-2 c = record { c_bound = omega arith; i_lt_m = (join_in_lem c.requires.2).1; w_len = c.requires.2.growth.given.size_is }

pub returns-then-get : goal.returns-then-get
returns-then-get c = join_early (sym c.get.ensures.0 ∙ c.if-get.true ∙ c.get-2.ensures.0)

pub find-a-requires : goal.find-a-requires
find-a-requires c = join_find c.requires.2

pub find-b-requires : goal.find-b-requires
find-b-requires c = join_find_next c.requires.2 c.find-a.ensures

pub returns-then-a-b : goal.returns-then-a-b
returns-then-a-b c = join_late c.find-a.ensures c.find-b.ensures c.if-a-b.true

pub unite-requires : goal.unite-requires
unite-requires c = join_unite c.requires.2 c.find-a.ensures c.find-b.ensures c.if-a-b.false

pub returns : goal.returns
returns c = join-done (c.requires) c.find-a.ensures c.find-b.ensures c.if-a-b.false c.unite.ensures
