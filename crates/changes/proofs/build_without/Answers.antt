-- `changes::build_without` meets its contract. Assumes nothing.
use Rattle.changes.specs.Calls.{take_fit, finish_asks, finish_alters}
use Rattle.changes.proofs.build_without.Goals as goal

pub finish-requires : goal.finish-requires
finish-requires c = finish_asks c.requires.is_index (take_fit c.requires) c.args.index.shape.accounts c.keys_without.ensures.named

pub returns : goal.returns
returns c = finish_alters c.requires.is_index (take_fit c.requires) c.args.index.shape.accounts c.keys_without.ensures.named c.args.out.now c.finish.ensures.finish_gives
