-- `strengths_run::run` meets its contract. Assumes nothing.
use mathlib.Core.Path.{◌∙◌}
use Rattle.strengths_run.specs.Keys.{card_of_keys, keys_named}
use Rattle.strengths_run.proofs.run.Goals as goal

pub strengths-lookups-requires : goal.strengths-lookups-requires
strengths-lookups-requires g c = (card_of_keys _ _ _, keys_named (c.rising.ensures c.if-rising.true) (c.fill.auto.w ∙ c.requires.w_len) c.requires.m_le_most_small c.requires.n_le_most_small)
