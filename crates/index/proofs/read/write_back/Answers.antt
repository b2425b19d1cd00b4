-- `index::read::write_back` meets its contract. Assumes nothing.
use Prim.Native.Nat.{ℕ, ◌+◌, ◌*◌}
use mathlib.Core.Path.{refl, ap, ◌∙◌}
use mathlib.Core.List.{List, ◌++◌}
use native.Mathlib.Omega.{arith}
use lib.ListN.{length-append}
use Rattle.wire.specs.Writing.{written, written_next, up_to, up_to_length}
use Rattle.truss.specs.Record.{head_bytes, kind_head}
use Rattle.index.specs.Read.{back_bytes}
use Rattle.index.proofs.read.write_back.Goals as goal

pub returns : goal.returns
returns c = let s = c.args.s.now in
    let n = c.args.n in
    let m = c.args.m in
    let out = c.args.out.now in
    let H : List ℕ = head_bytes kind_head n m in
    let L : List ℕ = up_to (back_bytes s) m in
    let head = c.paste.ensures ∙ ap (written out 0) c.head_record-head.ensures in
    let links = written_next out H L 0 {at = 5} head refl (omega (arith, c.requires.m_in_bounds)) c.write_pairs.ensures in
    written_next out (H ++ L) _ 0 {at = 5 + m * 5} links (omega (arith, length-append H L, up_to_length (back_bytes s) 5 (λ j. refl) m)) (omega (arith, c.requires.m_in_bounds)) c.paste-2.ensures
