-- `linksfile::scan` meets its contract. Assumes nothing.
use Rattle.limits.specs.Refusals.{checked_in}
use Rattle.linksfile.specs.Checks.{scanning_more, scanned_fault, key_small}
use Rattle.linksfile.specs.Leaves.{file_more}
use Rattle.linksfile.specs.Answers.{plain_of}
use native.Mathlib.Omega.{arith}
use mathlib.Core.Path.{sym, ap, ◌∙◌}
use Prim.Native.Nat.{◌+◌, ◌*◌}
use Rattle.linksfile.proofs.scan.Goals as goal

pub put-requires : goal.put-requires
unfolding plain_of
put-requires c = let S = c.loop-i.invariant.0 in let q = sym (ap (λ x. plain_of x (5 + 5 * c.loop-i.i)) c.in-Ok.is) ∙ c.read_link.ensures in record { c_bound = omega arith; i_lt_m = c.loop-i-test.true; x_lt_entry_bound = key_small c.args.s.now c.args.n c.loop-i.i _ c.requires.small q; w_len = S.size }

pub returns-in-Err : goal.returns-in-Err
unfolding plain_of checked_in
returns-in-Err c = let q = sym (ap (λ x. plain_of x (5 + 5 * c.loop-i.i)) c.in-Err.is) ∙ c.read_link.ensures in record { scanned = scanned_fault c.loop-i.invariant.0 c.loop-i-test.true q; file_only = c.loop-i.invariant.1 }

pub loop-i-preserved : goal.loop-i-preserved
unfolding plain_of
loop-i-preserved c = let q = sym (ap (λ x. plain_of x (5 + 5 * c.loop-i.i)) c.in-Ok.is) ∙ c.read_link.ensures in
    (scanning_more c.loop-i.invariant.0 c.loop-i-test.true q c.put.ensures, file_more _ _ c.loop-i.invariant.1 c.loop-i-test.true c.put.ensures)
