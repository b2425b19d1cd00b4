-- `margins::margin` meets its contract. Assumes nothing.
use Rattle.margins.specs.Margins.{margin_fits, read_small, read_back}
use Rattle.margins.proofs.margin.Goals as goal

pub overflow_sub-result : goal.overflow_sub-result
overflow_sub-result c = rw (read_small c.requires.limit_lt_entry_bound, read_small c.requires.sum_lt_entry_bound) (margin_fits c.requires.limit_lt_entry_bound c.requires.sum_lt_entry_bound)

pub returns : goal.returns
returns c = rw (read_small c.requires.limit_lt_entry_bound, read_small c.requires.sum_lt_entry_bound) (read_back (margin_fits c.requires.limit_lt_entry_bound c.requires.sum_lt_entry_bound))
