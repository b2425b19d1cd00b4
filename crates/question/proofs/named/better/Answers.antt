-- `question::named::better` meets its contract. Assumes nothing.
use native.Mathlib.Omega.{arith}
use mathlib.Core.Path.{refl}
use Rattle.stored.specs.Rows.{shape_sized, sized_few}
use Rattle.question.proofs.named.better.Goals as goal

pub get-requires : goal.get-requires
get-requires c = record { c_bound = omega arith; i_lt_m = omega (arith, c.requires.g_lt_count, (sized_few (shape_sized c.args.index.shape)).0); w_len = c.requires.w_len }

pub returns-then-get-eq0 : goal.returns-then-get-eq0
returns-then-get-eq0 c = record { unmarked = λ _. refl; marked_is = λ n. absurd (n (omega (arith, c.get.ensures.0, c.if-get-eq0.true))); small = c.requires.best_bound }

pub group_strength-requires : goal.group_strength-requires
group_strength-requires c = let S = c.args.index.shape in record { groups_at = S.groups_at_lem; g_bound = omega (arith, c.requires.g_lt_count, S.groups) }

pub returns : goal.returns
returns c = record { unmarked = λ z. absurd (c.if-get-eq0.false (omega (arith, c.get.ensures.0, z))); marked_is = λ _. omega (arith, c.max.ensures, c.group_strength.ensures.0); small = omega (arith, c.max.ensures, c.group_strength.ensures.1, c.requires.best_bound) }
