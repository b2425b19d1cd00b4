-- Bytes written over a list, and their laws: each part is written straight after the part before it. Assumes nothing.
use Rattle.std.specs.Prelude.{◌≡◌, refl, Bool, true, false, not, List, [], ◌∷◌, ◌++◌, map, ℕ, zero, suc, ◌+◌, ◌*◌, ◌-◌, ◌≤◌, ◌<◌, get_or, take, set}
use Rattle.std.proofs.Math.Path.{sym, ap}
use Rattle.std.proofs.Common.{◌∙◌, append_assoc, append-nil, add-zero, zero-add, add-one, arith, length-drop, take-append-drop, drop_of_length-le, take_all, take_at, drop_at, take-suc}
use Rattle.std.proofs.Math.ListN.{length, drop, length-append}
use Rattle.std.proofs.Math.Seq.{length-take-le, drop-drop}
use Rattle.std.proofs.lemmas.List.{set_split}
use Rattle.truss.specs.Lists.{concat_map, range}
use Rattle.laws.proofs.Members.{range_last}

-- w with bs over what stands from at on
unfoldable pub written : List ℕ → ℕ → List ℕ → List ℕ
written w at bs = take at w ++ (bs ++ drop (at + length bs) w)

-- at the start it is the definitions' way of writing
pub written_start : (w bs : List ℕ) → written w 0 bs ≡ bs ++ drop (length bs) w
unfolding written
written_start w bs = ap (λ (k : ℕ). bs ++ drop k w) (zero-add (length bs))

-- nothing is written
pub written_none : (w : List ℕ) (at : ℕ) → w ≡ written w at []
unfolding written
written_none w at = rw add-zero (sym (take-append-drop at w))

module _ (w : List ℕ) (at : ℕ) (xs : List ℕ) (room : at + length xs ≤ length w) where
  head_length : length (take at w ++ xs) ≡ at + length xs
  head_length = length-append (take at w) xs ∙ ap (λ (k : ℕ). k + length xs) (length-take-le at w (omega arith))

  whole : written w at xs ≡ (take at w ++ xs) ++ drop (at + length xs) w
  unfolding written
  whole = sym (append_assoc (take at w) xs (drop (at + length xs) w))

  -- the length stays
  pub written-length : length (written w at xs) ≡ length w
  unfolding written
  written-length = simp (length-append, length-drop) (omega (arith, length-take-le at w (omega arith)))

  written-take : take (at + length xs) (written w at xs) ≡ take at w ++ xs
  written-take = ap (take (at + length xs)) whole ∙ take_at (take at w ++ xs) (drop (at + length xs) w) (at + length xs) head_length

  written-drop : drop (at + length xs) (written w at xs) ≡ drop (at + length xs) w
  written-drop = ap (drop (at + length xs)) whole ∙ drop_at (take at w ++ xs) (drop (at + length xs) w) (at + length xs) head_length

  -- what is written next stands straight after what was written before
  pub written_then : (ys : List ℕ) → written (written w at xs) (at + length xs) ys ≡ written w at (xs ++ ys)
  unfolding written
  written_then ys =
      let e : at + length xs + length ys ≡ at + length (xs ++ ys) = simp length-append (omega arith) in
      let tail : drop (at + length xs + length ys) (written w at xs) ≡ drop (at + length (xs ++ ys)) w =
      sym (drop-drop (length ys) (at + length xs) (written w at xs))
      ∙ ap (drop (length ys)) written-drop
      ∙ drop-drop (length ys) (at + length xs) w
      ∙ ap (λ (k : ℕ). drop k w) e in
      rw (written-take, tail) (simp append_assoc)

-- a part lent from at on, in which bs was written at its start, is back in the whole
pub written-part : (w : List ℕ) (at k : ℕ) (bs : List ℕ) → length w ≤ at + k → take at w ++ (written (take k (drop at w)) 0 bs ++ drop k (drop at w)) ≡ written w at bs
unfolding written
written-part w at k bs e =
    rw (take_all k (drop at w) (simp length-drop (omega arith)), drop-drop k at w, drop_of_length-le w e, append-nil, zero-add, drop-drop (length bs) at w)

-- what `&mut w[at..]` gives back, with the part's last list ys
abbrev pub back : List ℕ → ℕ → List ℕ → List ℕ
back w at ys = take at w ++ (ys ++ drop (length w - at) (drop at w))

-- The composition: w is w₀ with xs written from base on; the rest of w from at, the end of xs, was lent and came back with bs at its start.
pub written_next : (w₀ xs bs : List ℕ) (base : ℕ) {w ys : List ℕ} {at : ℕ} → w ≡ written w₀ base xs → at ≡ base + length xs → at ≤ length w₀
    → ys ≡ written (take (length w - at) (drop at w)) 0 bs → back w at ys ≡ written w₀ base (xs ++ bs)
written_next w₀ xs bs base {w} {ys} {at} e a room last =
    let n : length w ≡ length w₀ = ap length e ∙ written-length w₀ base xs (omega arith) in
    rw last (written-part w at (length w - at) bs (omega arith) ∙ rw (e, a) (written_then w₀ base xs (omega arith) bs))

-- one byte more
pub written_byte : (w₀ rec : List ℕ) (i : ℕ) {w w' : List ℕ} → length rec ≤ length w₀ → i < length rec → w ≡ written w₀ 0 (take i rec) → w' ≡ set w i (get_or rec i 0)
    → w' ≡ written w₀ 0 (take (i + 1) rec)
written_byte w₀ rec i {w} {w'} fits l q u =
    u ∙ ap (λ (x : List ℕ). set x i (get_or rec i 0)) (q ∙ written_start w₀ front)
    ∙ set_split (front ++ drop (length front) w₀) i (get_or rec i 0) (simp (length-append, length-drop) (omega (arith, n)))
    ∙ rw (take_at front (drop (length front) w₀) i n, tail) (sym (written_start w₀ (take (i + 1) rec) ∙ rw (add-one, take-suc rec i 0) (append_assoc front (get_or rec i 0 ∷ []) _ ∙ ap (λ (k : ℕ). front ++ (get_or rec i 0 ∷ drop k w₀)) long)))
  where
    front : List ℕ
    front = take i rec

    n : length front ≡ i
    n = length-take-le i rec (omega arith)

    long : length (front ++ (get_or rec i 0 ∷ [])) ≡ suc i
    long = length-append front (get_or rec i 0 ∷ []) ∙ omega (arith, n)

    tail : drop (suc i) (front ++ drop (length front) w₀) ≡ drop (suc i) w₀
    tail =
        let a : suc i ≡ length front + 1 = omega (arith, n) in
        let b : length front + 1 ≡ suc i = omega (arith, n) in
        ap (λ (k : ℕ). drop k (front ++ drop (length front) w₀)) a
        ∙ sym (drop-drop 1 (length front) (front ++ drop (length front) w₀))
        ∙ ap (drop 1) (drop_at front (drop (length front) w₀) (length front) refl)
        ∙ drop-drop 1 (length front) w₀ ∙ ap (λ (k : ℕ). drop k w₀) b

-- ---- records one after the other

-- what f gives for 0, 1, .. below i
unfoldable pub up_to : (ℕ → List ℕ) → ℕ → List ℕ
up_to f zero = []
up_to f (suc i) = up_to f i ++ f i

pub up_to_more : (f : ℕ → List ℕ) (i : ℕ) → up_to f (i + 1) ≡ up_to f i ++ f i
unfolding up_to
up_to_more f i = rw (add-one, up_to) refl

pub up_to_length : (f : ℕ → List ℕ) (l : ℕ) → ((i : ℕ) → length (f i) ≡ l) → (i : ℕ) → length (up_to f i) ≡ i * l
unfolding up_to
up_to_length f l h zero = omega arith
up_to_length f l h (suc i) = let r = up_to_length f l h i in let a = length-append (up_to f i) (f i) in let b = h i in omega arith

concat_snoc : {A : Type 0} (f : A → List ℕ) (xs : List A) (x : A) → concat_map f (xs ++ (x ∷ [])) ≡ concat_map f xs ++ f x
unfolding concat_map
concat_snoc f [] x = append-nil (f x)
concat_snoc f (y ∷ ys) x = ap (λ (r : List ℕ). f y ++ r) (concat_snoc f ys x) ∙ sym (append_assoc (f y) (concat_map f ys) (f x))

map_snoc : {A B : Type 0} (g : A → B) (xs : List A) (x : A) → map g (xs ++ (x ∷ [])) ≡ map g xs ++ (g x ∷ [])
map_snoc g [] x = refl
map_snoc {A} {B} g (y ∷ ys) x = ap {B = List B} (λ r. g y ∷ r) (map_snoc g ys x)

-- as the definitions put them together
pub up_to_rows : {A : Type 0} (bytes : A → List ℕ) (g : ℕ → A) (i : ℕ) → up_to (λ (j : ℕ). bytes (g j)) i ≡ concat_map bytes (map g (range 0 i))
unfolding up_to concat_map range
up_to_rows bytes g zero = refl
up_to_rows {A} bytes g (suc i) =
    ap (λ (r : List ℕ). r ++ bytes (g i)) (up_to_rows bytes g i) ∙ sym (concat_snoc bytes (map g (range 0 i)) (g i))
    ∙ ap (concat_map bytes) (sym (map_snoc g (range 0 i) i) ∙ ap (map g) (ap (λ (x : ℕ). range 0 i ++ (x ∷ [])) (sym (zero-add i)) ∙ sym (range_last 0 i)))

-- ---- comparing

-- r tells whether P holds
pub record Tells (r : Bool) (P : Type 0) : Type 0 where
  pub yes_is : r ≡ true → P
  pub no_is : r ≡ false → ¬ P

pub tells_yes : {P : Type 0} → P → Tells true P
tells_yes p = record { yes_is = λ _. p; no_is = λ q. absurd (let z : ◌≡◌ {A = ℕ} 0 1 = cc in omega arith) }

pub tells_no : {P : Type 0} → ¬ P → Tells false P
tells_no n = record { yes_is = λ q. absurd (let z : ◌≡◌ {A = ℕ} 0 1 = cc in omega arith); no_is = λ _. n }

-- a test that is turned round
pub turned_true : (b : Bool) → not b ≡ true → b ≡ false
turned_true true q = sym q
turned_true false q = refl

pub turned_false : (b : Bool) → not b ≡ false → b ≡ true
turned_false true q = refl
turned_false false q = sym q

pub tells_both : {r : Bool} {P Q : Type 0} → Tells r P → (P → Q) → (¬ P → ¬ Q) → Tells r Q
tells_both t f g = record { yes_is = λ q. f (t.yes_is q); no_is = λ q. g (t.no_is q) }
