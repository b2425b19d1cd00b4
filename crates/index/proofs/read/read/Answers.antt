-- `index::read::read` meets its contract. Assumes nothing.
use native.Mathlib.Omega.{arith}
use Rattle.index.specs.Open.{index_links, opened_is, not_opened}
use Rattle.index.specs.Read.{read_refused, read_no_room, read-wrote, strong_fit}
use Rattle.index.proofs.read.read.Goals as goal

pub returns-in_default : goal.returns-in_default
returns-in_default c = read_refused c.args.index.now c.args.out.now (not_opened _ c.«open».ensures.open_says c.in_default.is)

pub overflow_mul-len : goal.overflow_mul-len
overflow_mul-len c = omega (arith, index_links _ _ _ (opened_is _ c.«open».ensures.open_says c.in-Some.is).head)

pub overflow_add-len : goal.overflow_add-len
overflow_add-len c = omega (arith, index_links _ _ _ (opened_is _ c.«open».ensures.open_says c.in-Some.is).head)

pub returns-then-out-len : goal.returns-then-out-len
returns-then-out-len c = let O = opened_is _ c.«open».ensures.open_says c.in-Some.is in
    read_no_room c.args.index.now c.args.out.now _ _ O.head O.strong O.bytes c.if-out-len.true

pub write_back-requires-clause-strong_fit : goal.write_back-requires-clause-strong_fit
write_back-requires-clause-strong_fit c = let O = opened_is _ c.«open».ensures.open_says c.in-Some.is in strong_fit (omega (arith, index_links _ _ _ O.head)) O.strong

pub overflow_cast-result : goal.overflow_cast-result
overflow_cast-result c = omega (arith, index_links _ _ _ (opened_is _ c.«open».ensures.open_says c.in-Some.is).head)

pub returns : goal.returns
returns c = let O = opened_is _ c.«open».ensures.open_says c.in-Some.is in
    read-wrote c.args.index.now c.args.out.now _ _ O.head O.strong O.bytes c.if-out-len.false c.write_back.ensures
