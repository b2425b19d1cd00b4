-- `indexfile::same_index` meets its contract. Assumes nothing.
use Rattle.indexfile.specs.Same.{not_length, not_head, not_links, not_joins, not_groups, not_end, is_index}
use Rattle.wire.specs.Writing.{tells_no, tells_both}
use mathlib.Core.Path.{refl, ◌∙◌}
use Rattle.indexfile.proofs.same_index.Goals as goal

pub returns-then-s-index_length : goal.returns-then-s-index_length
returns-then-s-index_length c = tells_no (not_length c.args.w.now c.args.n c.args.m c.args.joins c.args.groups c.args.s.now _ c.index_length.ensures c.if-s-index_length.true)

pub returns-then-not-stands : goal.returns-then-not-stands
returns-then-not-stands c = tells_no (not_head c.args.w.now c.args.n c.args.m c.args.joins c.args.groups c.args.s.now (λ q. c.stands.ensures.no_is c.if-not-stands.true (rw c.head_record-head.ensures q)))

pub returns-then-not-same_rows : goal.returns-then-not-same_rows
returns-then-not-same_rows c = tells_no (not_links c.args.w.now c.args.n c.args.m c.args.joins c.args.groups c.args.s.now (c.if-s-index_length.false ∙ c.index_length.ensures) (c.same_rows.ensures.no_is c.if-not-same_rows.true))

pub returns-then-not-same_rows-2 : goal.returns-then-not-same_rows-2
returns-then-not-same_rows-2 c = tells_no (not_joins c.args.w.now c.args.n c.args.m c.args.joins c.args.groups c.args.s.now (c.if-s-index_length.false ∙ c.index_length.ensures) _ refl (c.same_rows-2.ensures.no_is c.if-not-same_rows-2.true))

pub returns-then-not-same_rows-3 : goal.returns-then-not-same_rows-3
returns-then-not-same_rows-3 c = tells_no (not_groups c.args.w.now c.args.n c.args.m c.args.joins c.args.groups c.args.s.now (c.if-s-index_length.false ∙ c.index_length.ensures) _ refl (c.same_rows-3.ensures.no_is c.if-not-same_rows-3.true))

pub returns : goal.returns
returns c = let w = c.args.w.now in
    let n = c.args.n in
    let m = c.args.m in
    let j = c.args.joins in
    let g = c.args.groups in
    let s = c.args.s.now in
    let long = c.if-s-index_length.false ∙ c.index_length.ensures in
    tells_both c.stands-2.ensures
    (λ q. is_index w n m j g s long _ _ _ refl refl refl (rw c.head_record-head.ensures at (c.stands.ensures.yes_is c.if-not-stands.false))
    (c.same_rows.ensures.yes_is c.if-not-same_rows.false)
    (c.same_rows-2.ensures.yes_is c.if-not-same_rows-2.false)
    (c.same_rows-3.ensures.yes_is c.if-not-same_rows-3.false) q)
    (λ un. not_end w n m j g s long _ refl un)
