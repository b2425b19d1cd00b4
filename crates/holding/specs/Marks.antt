-- A column of marks. Assumes nothing.
use Rattle.std.specs.Prelude.{◌≡◌, ◌⊎◌, ◌≢◌, ℕ, ◌≤◌, ◌<◌}
use Rattle.std.proofs.Common.{sym, ap, ◌∙◌, inl, inr, arith}
use Rattle.laws.proofs.Numbers.{same_or_not}
use Rattle.columns.specs.Laws.{Upd}

-- f marks the numbers below count that have P: it is 0 at the others
pub record Marks (f : ℕ → ℕ) (count : ℕ) (P : ℕ → Type 0) : Type 0 where
  pub yes : (g : ℕ) → g < count → f g ≢ 0 → P g
  pub no : (g : ℕ) → g < count → f g ≡ 0 → ¬ (P g)

pub marks_none : {f : ℕ → ℕ} {count : ℕ} {P : ℕ → Type 0} → ((g : ℕ) → g < count → f g ≡ 0) → ((g : ℕ) → ¬ (P g)) → Marks f count P
marks_none z n = record { yes = λ g l h. absurd (h (z g l)); no = λ g l h. n g }

-- the same marks, of what is the same
pub marks_as : {f f' : ℕ → ℕ} {count : ℕ} {P Q : ℕ → Type 0} → Marks f count P → ((g : ℕ) → g < count → f' g ≡ f g) → ((g : ℕ) → g < count → P g → Q g) → ((g : ℕ) → g < count → Q g → P g) → Marks f' count Q
marks_as M q to back = record {
  yes = λ g l h. to g l (M.yes g l (λ z. h (q g l ∙ z)));
  no = λ g l h p. M.no g l (sym (q g l) ∙ h) (back g l p);
}

-- one number is marked, and has Q; nothing else changes
pub marks_set : {m count x v : ℕ} {f f' : ℕ → ℕ} {P Q : ℕ → Type 0} → count ≤ m → Marks f count P → Upd m f f' x v → v ≢ 0 → Q x → ((g : ℕ) → P g → Q g) → ((g : ℕ) → g ≢ x → Q g → P g) → Marks f' count Q
marks_set {m} {count} {x} {v} {f} {f'} {P} {Q} few M U nz qx to back = record { yes = λ g l h. yes g l h (same_or_not g x); no = λ g l h. no g l h (same_or_not g x) }
  where
    yes : (g : ℕ) → g < count → f' g ≢ 0 → (g ≡ x) ⊎ (g ≢ x) → Q g
    yes g l h (inl e) = rw e qx
    yes g l h (inr ne) = to g (M.yes g l (λ z. h (U.else g (omega arith) ne ∙ z)))

    no : (g : ℕ) → g < count → f' g ≡ 0 → (g ≡ x) ⊎ (g ≢ x) → ¬ (Q g)
    no g l h (inl e) q = nz (sym U.here ∙ ap f' (sym e) ∙ h)
    no g l h (inr ne) q = M.no g l (sym (U.else g (omega arith) ne) ∙ h) (back g ne q)

-- one mark is taken away, where Q is not
pub marks_clear : {m count x : ℕ} {f f' : ℕ → ℕ} {P Q : ℕ → Type 0} → count ≤ m → Marks f count P → Upd m f f' x 0 → ¬ (Q x) → ((g : ℕ) → g ≢ x → P g → Q g) → ((g : ℕ) → Q g → P g) → Marks f' count Q
marks_clear {m} {count} {x} {f} {f'} {P} {Q} few M U nq to back = record { yes = λ g l h. yes g l h (same_or_not g x); no = λ g l h. no g l h (same_or_not g x) }
  where
    yes : (g : ℕ) → g < count → f' g ≢ 0 → (g ≡ x) ⊎ (g ≢ x) → Q g
    yes g l h (inl e) = absurd (h (ap f' e ∙ U.here))
    yes g l h (inr ne) = to g ne (M.yes g l (λ z. h (U.else g (omega arith) ne ∙ z)))

    no : (g : ℕ) → g < count → f' g ≡ 0 → (g ≡ x) ⊎ (g ≢ x) → ¬ (Q g)
    no g l h (inl e) q = nq (rw e at q)
    no g l h (inr ne) q = M.no g l (sym (U.else g (omega arith) ne) ∙ h) (back g q)
