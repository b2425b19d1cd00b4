-- `index::open::open_in` meets its contract. Assumes nothing.
use mathlib.Core.Path.{refl, ap, ◌∙◌}
use native.Mathlib.Omega.{arith}
use Rattle.columns.specs.Wiping.{zeros}
use Rattle.index.specs.Open.{open_scan, keys_fail_says, open_says, opening_of, read_solve}
use Rattle.index.proofs.open.open_in.Goals as goal

pub read_keys-requires : goal.read_keys-requires
read_keys-requires c = open_scan c.requires

pub returns-then-not-read_keys : goal.returns-then-not-read_keys
returns-then-not-read_keys c = let K = c.read_keys.ensures in record { open_says = keys_fail_says c.requires.head (K.no_is c.if-not-read_keys.true); w_after = c.clear.ensures ∙ ap zeros K.size }

pub solve-z-requires : goal.solve-z-requires
solve-z-requires c = let P = c.requires in
    let K = c.read_keys.ensures in
    let Y = K.yes_is c.if-not-read_keys.false in
    let R = read_solve c.args.s.now c.args.n c.args.m P.head Y.0 K.size Y.1 in
    (_, R)

pub same_index-is-requires : goal.same_index-is-requires
same_index-is-requires c = let P = c.requires in
    let K = c.read_keys.ensures in
    let Y = K.yes_is c.if-not-read_keys.false in
    let R = read_solve c.args.s.now c.args.n c.args.m P.head Y.0 K.size Y.1 in
    (c.solve-z.ensures _ R).writes

pub forget-requires : goal.forget-requires
forget-requires c = let P = c.requires in let K = c.read_keys.ensures in let Y = K.yes_is c.if-not-read_keys.false in let R = read_solve c.args.s.now c.args.n c.args.m P.head Y.0 K.size Y.1 in let S = c.solve-z.ensures _ R in record { w_len = S.writes.size; m_le_link_bound = S.writes.few; joins_le_m = S.writes.few_joins; groups_le_m = S.writes.few_groups; blank = S.blank }

pub groups_place-at-requires : goal.groups_place-at-requires
groups_place-at-requires c = let P = c.requires in let K = c.read_keys.ensures in let Y = K.yes_is c.if-not-read_keys.false in let R = read_solve c.args.s.now c.args.n c.args.m P.head Y.0 K.size Y.1 in let W = (c.solve-z.ensures _ R).writes in record { m_bound = W.few; joins_bound = omega (arith, W.few, W.few_joins) }

pub returns-then-is : goal.returns-then-is
unfolding opening_of
returns-then-is c = let P = c.requires in let K = c.read_keys.ensures in let Y = K.yes_is c.if-not-read_keys.false in let R = read_solve c.args.s.now c.args.n c.args.m P.head Y.0 K.size Y.1 in record { open_says = open_says P.head Y.0 (c.solve-z.ensures _ R) c.same_index-is.ensures c.groups_place-at.ensures (rw c.if-is.true refl); w_after = c.forget.ensures }

pub returns : goal.returns
unfolding opening_of
returns c = let P = c.requires in let K = c.read_keys.ensures in let Y = K.yes_is c.if-not-read_keys.false in let R = read_solve c.args.s.now c.args.n c.args.m P.head Y.0 K.size Y.1 in record { open_says = open_says P.head Y.0 (c.solve-z.ensures _ R) c.same_index-is.ensures c.groups_place-at.ensures (rw c.if-is.false refl); w_after = c.forget.ensures }
