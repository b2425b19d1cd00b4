-- `chain::search::offer` meets its contract. Assumes nothing.
use mathlib.Core.Path.{refl, sym, ◌∙◌}
use native.Mathlib.Omega.{arith}
use Rattle.columns.specs.Laws.{length-store}
use Rattle.chain.specs.Search.{was, better, new}
use Rattle.chain.proofs.search.offer.Goals as goal

pub put-requires : goal.put-requires
put-requires c = let P = c.requires in let r = P.room (sym c.get-old.ensures.0 ∙ c.if-old-eq0.true) in record { c_bound = omega arith; i_lt_m = P.x_in; x_lt_entry_bound = r.1; w_len = P.size }

pub put-requires-then-old-eq0-2 : goal.put-requires-then-old-eq0-2
put-requires-then-old-eq0-2 c = let P = c.requires in let r = P.room (sym c.get-old.ensures.0 ∙ c.if-old-eq0.true) in record { c_bound = omega arith; i_lt_m = r.0; x_lt_entry_bound = omega (arith, P.x_in, P.few); w_len = rw (c.put-then-old-eq0.ensures, c.put.ensures) (length-store _ _ _ _ _ ∙ length-store _ _ _ _ _ ∙ P.size) }

pub overflow_add-result : goal.overflow_add-result
overflow_add-result c = let P = c.requires in
    let r = P.room (sym c.get-old.ensures.0 ∙ c.if-old-eq0.true) in
    omega (arith, r.0, P.few)

pub returns-then-old-eq0 : goal.returns-then-old-eq0
returns-then-old-eq0 c = new (sym c.get-old.ensures.0 ∙ c.if-old-eq0.true) refl (rw (c.put-then-old-eq0.ensures, c.put.ensures) at c.put-then-old-eq0-2.ensures)

pub returns-then-old-v : goal.returns-then-old-v
returns-then-old-v c = was (λ z. c.if-old-eq0.false (c.get-old.ensures.0 ∙ z)) (omega (arith, c.get-old.ensures.0, c.if-old-v.true)) refl refl

pub returns : goal.returns
returns c = better (λ z. c.if-old-eq0.false (c.get-old.ensures.0 ∙ z)) (omega (arith, c.get-old.ensures.0, c.if-old-v.false)) refl (rw c.put-2.ensures at c.put-3.ensures)
