-- `peeling::rest::rest` meets its contract. Assumes nothing.
use Rattle.peeling.specs.Rest.{begins, rest-size, rest-link, rest-next, rest_end}
use Rattle.std.proofs.Common.{◌<◌}
use native.Mathlib.Omega.{arith}
use Rattle.peeling.proofs.rest.rest.Goals as goal

pub get-x-requires : goal.get-x-requires
get-x-requires c = let S = c.loop-i.invariant in record { c_bound = omega arith; i_lt_m = rest-link c.requires.w_len c.requires.listed S (omega (arith, c.unwrap_or-begins.ensures, c.loop-i-test.true)) c.listed-e.ensures; w_len = rest-size c.requires.w_len c.requires.listed S }

pub keep-place-requires : goal.keep-place-requires
keep-place-requires c = let S = c.loop-i.invariant in let more : begins c.args.first < c.loop-i.i = omega (arith, c.unwrap_or-begins.ensures, c.loop-i-test.true) in record { w_len = rest-size c.requires.w_len c.requires.listed S; m_le_link_bound = c.requires.m_le_link_bound; le_j = omega (arith, more, S.behind); j_le_m = S.top; e_lt_m = rest-link c.requires.w_len c.requires.listed S more c.listed-e.ensures }

pub loop-i-preserved : goal.loop-i-preserved
loop-i-preserved c = rest-next c.requires.w_len c.requires.listed c.loop-i.invariant (omega (arith, c.unwrap_or-begins.ensures, c.loop-i-test.true)) c.listed-e.ensures c.get-x.ensures.0 c.lesser-least.ensures c.keep-place.ensures.0 c.keep-place.ensures.1

pub returns-then-least-lt-NO_SUPPORT : goal.returns-then-least-lt-NO_SUPPORT
returns-then-least-lt-NO_SUPPORT c = record { rested = rest_end c.requires.w_len c.requires.listed c.loop-i.invariant (omega (arith, c.unwrap_or-begins.ensures, c.loop-i-test.false)); small = c.if-least-lt-NO_SUPPORT.true }
