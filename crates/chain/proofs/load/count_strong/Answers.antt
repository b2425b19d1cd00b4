-- `chain::load::count_strong` meets its contract. Assumes nothing.
use lib.ListN.{length}
use mathlib.Core.Path.{sym, ap, ◌∙◌}
use native.Mathlib.Omega.{arith}
use Prim.Native.Nat.{◌<◌}
use Rattle.laws.proofs.Groups.{size}
use Rattle.stored.specs.Rows.{graph_in}
use Rattle.chain.specs.Strong.{strong_none}
use Rattle.chain.specs.Load.{count_skip, count_take, count_small, count_end}
use Rattle.chain.proofs.load.count_strong.Goals as goal
use Rattle.chain.proofs.load.count_strong.Goals.{then-k-link_strength, else-k-link_strength}

pub link_strength-requires : goal.link_strength-requires
link_strength-requires c = record { index = c.requires.index; i_bound = omega (arith, c.loop-i-test.true, c.requires.s_value) }

pub overflow_add-c : goal.overflow_add-c
overflow_add-c c = omega (arith, c.loop-i.invariant, count_small c.args.k c.loop-i.i c.requires.index)

pub loop-i-preserved : goal.loop-i-preserved
loop-i-preserved c = let G = graph_in c.args.s.now in let l : c.loop-i.i < size G = omega (arith, c.loop-i-test.true, c.requires.s_value) in elim c.if-k-link_strength.branch [
  | then-k-link_strength w ↦ w.c-is ∙ count_take G c.args.k c.loop-i.i l c.loop-i.invariant (omega (arith, w.if-k-link_strength.true, c.link_strength.ensures.0))
  | else-k-link_strength w ↦ w.c-is ∙ count_skip G c.args.k c.loop-i.i l c.loop-i.invariant (omega (arith, w.if-k-link_strength.false, c.link_strength.ensures.0))
]

pub loop-i-init : goal.loop-i-init
loop-i-init c = sym (ap length (strong_none _ _))

pub returns : goal.returns
returns c = count_end c.args.s.now c.args.k {i = c.loop-i.i} c.requires.s_value (omega (arith, c.loop-i-test.false, c.loop-i.auto.i-end)) c.loop-i.invariant
