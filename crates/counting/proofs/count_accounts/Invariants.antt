-- `counting::count_accounts` meets its contract. Assumes nothing.
use Rattle.counting.specs.Gives.{AccountState}
use Rattle.counting.proofs.count_accounts.Given as goal

abbrev pub invariant-loop-v : goal.invariant-loop-v
invariant-loop-v l = AccountState l.index.bytes.now l.index.m l.index.groups l.v l.i l.initial.w l.w
