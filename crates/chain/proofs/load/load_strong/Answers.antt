-- `chain::load::load_strong` meets its contract. Assumes nothing.
use native.Mathlib.Omega.{arith}
use mathlib.Core.Path.{◌∙◌}
use Rattle.chain.specs.Load.{loading_none, loading_few, loading_room, loading_skip, loading_take, loading_end}
use Rattle.chain.proofs.load.load_strong.Goals as goal
use Rattle.chain.proofs.load.load_strong.Goals.{then-k-link_strength, else-k-link_strength}

pub link_strength-requires : goal.link_strength-requires
link_strength-requires c = record { index = c.requires.index; i_bound = omega (arith, c.loop-i-test.true, c.requires.s_value) }

pub link_key-requires : goal.link_key-requires
link_key-requires c = record { index = c.requires.index; i_bound = omega (arith, c.loop-i-test.true, c.requires.s_value) }

pub put-requires : goal.put-requires
put-requires c = record { c_bound = omega arith; i_lt_m = loading_room c.requires.index c.requires.h_value c.requires.w_len c.loop-i.invariant (omega (arith, c.loop-i-test.true, c.requires.s_value)) (omega (arith, c.if-k-link_strength.true, c.link_strength.ensures.0)); x_lt_entry_bound = c.link_key.ensures.1; w_len = c.loop-i.invariant.length_is ∙ c.requires.w_len }

pub overflow_add-j : goal.overflow_add-j
overflow_add-j c = omega (arith, loading_room c.requires.index c.requires.h_value c.requires.w_len c.loop-i.invariant (omega (arith, c.loop-i-test.true, c.requires.s_value)) (omega (arith, c.if-k-link_strength.true, c.link_strength.ensures.0)), loading_few c.requires.index c.requires.h_value c.requires.w_len c.loop-i.invariant (omega (arith, c.loop-i-test.true, c.requires.s_value)))

pub loop-i-preserved : goal.loop-i-preserved
loop-i-preserved c = elim c.if-k-link_strength.branch [
  | then-k-link_strength w ↦ rw (w.w-is, w.j-is, w.put.ensures) (loading_take c.requires.index c.requires.h_value c.requires.w_len c.loop-i.invariant (omega (arith, c.loop-i-test.true, c.requires.s_value)) (omega (arith, w.if-k-link_strength.true, c.link_strength.ensures.0)) w.link_key.ensures.0)
  | else-k-link_strength w ↦ rw (w.w-is, w.j-is) (loading_skip c.requires.index c.requires.h_value c.requires.w_len c.loop-i.invariant (omega (arith, c.loop-i-test.true, c.requires.s_value)) (omega (arith, w.if-k-link_strength.false, c.link_strength.ensures.0)))
]

pub loop-i-init : goal.loop-i-init
loop-i-init c = loading_none _ _ _ _

pub returns : goal.returns
returns c = loading_end c.requires.h_value c.requires.s_value c.loop-i.invariant (omega (arith, c.loop-i-test.false, c.loop-i.auto.i-end))
