-- `counting::touch_lower` meets its contract. Assumes nothing.
use native.Mathlib.Omega.{arith}
use mathlib.Core.Path.{◌≡◌, ◌∙◌}
use Rattle.counting.specs.Ends.{passed_none, passed_more}
use Rattle.stored.specs.Rows.{shape_sized}
use Rattle.counting.specs.Gives.{asked_small, asked_closed}
use Rattle.counting.proofs.touch_lower.Goals as goal

pub loop-i-init : goal.loop-i-init
loop-i-init c = passed_none c.requires.p_le_m

pub link_lower-requires : goal.link_lower-requires
link_lower-requires c = record { index = c.args.index.shape.groups_at_lem.is_index; i_bound = omega (arith, c.loop-i-test.true, c.args.index.shape.links) }

pub returns-then-link_lower-v : goal.returns-then-link_lower-v
returns-then-link_lower-v c = record { passed = c.loop-i.invariant; last = λ l e. c.if-link_lower-v.true (c.link_lower.ensures ∙ e) }

pub overflow_add-v : goal.overflow_add-v
overflow_add-v c = omega (arith, c.requires.round_asks.few_v)

pub touch_link-requires : goal.touch_link-requires
touch_link-requires c = let A = c.requires.round_asks in let R = c.loop-i.invariant.round in record { i_lt_m = c.loop-i-test.true; lt_c = omega arith; c_bound = omega arith; w_len = R.both.length_is ∙ A.size_is; small = asked_small A R; closed = asked_closed A R (shape_sized c.args.index.shape); r_bound = omega (arith, A.few_v) }

pub loop-i-preserved : goal.loop-i-preserved
loop-i-preserved c = passed_more c.loop-i-test.true c.loop-i.invariant c.link_lower.ensures (omega (arith, c.if-link_lower-v.false)) c.touch_link.ensures

pub returns : goal.returns
returns c = let e : c.loop-i.i ≡ c.args.index.m = omega (arith, c.loop-i-test.false, c.loop-i.auto.i-end, c.requires.p_le_m) in record { passed = rw e at c.loop-i.invariant; last = λ l. absurd (omega (arith, l)) }
