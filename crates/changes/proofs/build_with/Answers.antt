-- `changes::build_with` meets its contract. Assumes nothing.
use Rattle.changes.specs.Calls.{put_fit, finish_asks, finish_alters}
use Rattle.changes.proofs.build_with.Goals as goal

pub finish-requires : goal.finish-requires
finish-requires c = finish_asks c.requires.is_index (put_fit c.requires) c.args.index.shape.accounts c.keys_with.ensures.named

pub returns : goal.returns
returns c = finish_alters c.requires.is_index (put_fit c.requires) c.args.index.shape.accounts c.keys_with.ensures.named c.args.out.now c.finish.ensures.finish_gives
