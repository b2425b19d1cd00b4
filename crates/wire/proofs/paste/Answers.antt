-- `wire::paste` meets its contract. Assumes nothing.
use Rattle.std.specs.Prelude.{◌++◌}
use Rattle.std.proofs.Math.ListN.{length, drop}
use Rattle.std.proofs.Math.Path.{sym, ap}
use Rattle.std.proofs.Common.{◌∙◌}
use Rattle.wire.specs.Writing.{written_start}
use Rattle.wire.proofs.paste.Goals as goal

pub returns : goal.returns
returns c = ap (λ bytes. bytes ++ drop (length c.args.rec.now) c.args.out.now) c.copy_from_slice.ensures.after ∙ sym (written_start c.args.out.now c.args.rec.now)
