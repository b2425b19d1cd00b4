-- `counting::touch_up` meets its contract. Assumes nothing.
use Prim.Native.Nat.{◌-◌}
use Rattle.std.specs.Prelude.{Some, unwrap_or, ◌≡◌, ℕ, ◌<◌}
use Rattle.truss.specs.Limits.{no_group}
use Rattle.counting.specs.Touching.{UpState}
use Rattle.counting.proofs.touch_up.Given as goal

abbrev pub invariant-loop-next : goal.invariant-loop-next
invariant-loop-next l = UpState l.index.bytes.now l.index.m l.index.groups l.c l.g l.r (unwrap_or l.next no_group) l.initial.w l.w × ((x : ℕ) → l.next ≡ Some x → x < l.index.groups)

abbrev pub decreases-loop-next : goal.decreases-loop-next
decreases-loop-next l = no_group - unwrap_or l.next no_group
