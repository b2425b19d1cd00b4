-- `holding::ranks::rank_named` meets its contract. Assumes nothing.
use native.Mathlib.Omega.{arith}
use Rattle.holding.proofs.ranks.rank_named.Goals as goal

pub rank_all-requires : goal.rank_all-requires
rank_all-requires c = record { zeros = c.zero.ensures.zero; n_in_bounds = omega (arith, c.zero.ensures.length_is, c.requires.n_in_bounds); n_le_max_accounts = c.requires.n_le_max_accounts; names = c.requires.names }
