-- `indexfile::write_index` meets its contract. Assumes nothing.
use Rattle.indexfile.specs.Same.{H, L, J, G, front_links, front_joins, front-groups}
use Rattle.indexfile.specs.Rows.{index_parts}
use Rattle.wire.specs.Writing.{written, written_next}
use native.Mathlib.Omega.{arith}
use mathlib.Core.List.{◌++◌}
use mathlib.Core.Path.{refl, sym, ap, ◌∙◌}
use Prim.Native.Nat.{◌+◌, ◌*◌}
use Rattle.indexfile.proofs.write_index.Goals as goal

pub returns : goal.returns
returns c = let w = c.args.w.now in
    let n = c.args.n in
    let m = c.args.m in
    let j = c.args.joins in
    let g = c.args.groups in
    let out = c.args.out.now in
    let head = c.paste.ensures ∙ ap (written out 0) c.head_record-head.ensures in
    let links = written_next out (H w n m j g) (L w n m j g) 0 {at = 5} head refl (omega (arith, c.requires.groups_in_bounds)) c.write_rows.ensures in
    let joins = written_next out (H w n m j g ++ L w n m j g) (J w n m j g) 0 {at = 5 + m * 8} links (omega (arith, front_links w n m j g)) (omega (arith, c.requires.groups_in_bounds)) c.write_rows-2.ensures in
    let groups = written_next out ((H w n m j g ++ L w n m j g) ++ J w n m j g) (G w n m j g) 0 {at = 5 + m * 8 + j * 6} joins (omega (arith, front_joins w n m j g)) (omega (arith, c.requires.groups_in_bounds)) c.write_rows-3.ensures in
    let end = written_next out (((H w n m j g ++ L w n m j g) ++ J w n m j g) ++ G w n m j g) _ 0 {at = 5 + m * 8 + j * 6 + g * 6} groups (omega (arith, front-groups w n m j g)) (omega (arith, c.requires.groups_in_bounds)) c.paste-2.ensures in
    end ∙ ap (written out 0) (sym (index_parts w n m j g))
