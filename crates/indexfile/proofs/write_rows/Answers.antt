-- `indexfile::write_rows` meets its contract. Assumes nothing.
use Rattle.std.proofs.Common.{ℕ, List, ◌*◌, ◌≤◌, ap, ◌∙◌, arith}
use Rattle.std.proofs.Math.Nat.{mul-le-mul_right}
use Rattle.wire.specs.Writing.{written, written_none, written_next, up_to, up_to_more, up_to_length}
use Rattle.indexfile.proofs.write_rows.Goals as goal

pub loop-i-init : goal.loop-i-init
unfolding up_to
loop-i-init g c = written_none _ 0

pub loop-i-preserved : goal.loop-i-preserved
loop-i-preserved g c = let rows : ℕ → List ℕ = g.R.Rows.rows c.args.rows.now in
    let i = c.loop-i.i in
    let within : i * g.row.N ≤ c.args.count * g.row.N = mul-le-mul_right g.row.N (omega arith) in
    rw up_to_more (written_next _ (up_to rows i) _ 0 {at = i * g.row.N} c.loop-i.invariant (omega (arith, up_to_length rows g.row.N (g.met.R.Rows.long c.args.rows.now) i)) (omega arith) (c.paste.ensures ∙ ap (written _ 0) c.row.ensures))
