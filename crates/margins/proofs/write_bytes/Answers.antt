-- `margins::write_bytes` meets its contract. Assumes nothing.
use Prim.Native.Nat.{◌*◌}
use native.Mathlib.Omega.{arith}
use mathlib.Core.Path.{◌≡◌, ap, ◌∙◌}
use Rattle.truss.specs.Limits.{margin_length}
use Rattle.truss.specs.Bets.{margin_bytes}
use Rattle.wire.specs.Writing.{written, written_next}
use Rattle.margins.specs.Margins.{bytes_in, bytes_none, bytes_more, bytes_eight, margin_be, told_back, row-part}
use Rattle.margins.proofs.write_bytes.Goals as goal

pub loop-j-init : goal.loop-j-init
loop-j-init c = bytes_none c.args.w.now c.args.m c.args.limit _

pub margin_of-requires : goal.margin_of-requires
margin_of-requires c = row-part c.requires.row_given c.loop-j-test.true

pub loop-j-preserved : goal.loop-j-preserved
loop-j-preserved c =
    let w = c.args.w.now in
    let m = c.args.m in
    let limit = c.args.limit in
    let j = c.loop-j.j in
    let out = c.args.out.now in
    let z = c.margin_of.result in
    let rec : c.to_be_bytes-bytes.result ≡ margin_bytes z = c.to_be_bytes-bytes.ensures ∙ margin_be _ ∙ ap margin_bytes (told_back c.margin_of.ensures.1) in
    let next = written_next out (bytes_in w m limit j) (margin_bytes z) 0 {at = j * margin_length} c.loop-j.invariant (omega (arith, bytes_eight w m limit j)) (omega (arith, c.loop-j-test.true, c.requires.margin_length_in_bounds)) (rw rec at c.paste.ensures) in
    next ∙ ap (written out 0) (bytes_more w m limit j c.margin_of.ensures.0)

pub returns : goal.returns
returns c = let e : c.loop-j.j ≡ c.args.r = omega arith in rw e at c.loop-j.invariant
