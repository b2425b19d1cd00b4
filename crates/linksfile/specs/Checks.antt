-- The definitions' checks, one way at a time: what they give where the tests before have passed and this one has not. Assumes nothing.
use Rattle.std.specs.Prelude.{◌≡◌, ◌⊎◌, ◌≢◌, Bool, true, false, ◌||◌, List, ℕ, ◌+◌, ◌*◌, ◌≤◌, ◌<◌, length}
use Rattle.std.proofs.Math.Path.{refl}
use Rattle.std.proofs.Common.{sym, ap, ◌∙◌, inl, inr, arith}
use Rattle.std.proofs.Math.Option.{some}
use borrow.Author.Tests.{eq-eqb, ne_eqb, lt-ltb, le-ltb, le-leb, lt-leb}
use Rattle.truss.specs.Limits.{max_accounts, max_links}
use Rattle.truss.specs.Graph.{link}
use Rattle.truss.specs.Refusal.{Refusal, Checked, passed, refused, refuse}
use Rattle.truss.specs.Record.{kind_end, kind_plain_link, body_length, field_at, whole}
use Rattle.truss.specs.LinksFile.{read_head}
use Rattle.laws.proofs.Numbers.{same_or_not}
use Rattle.columns.specs.Columns.{cell, store, COLUMNS}
use Rattle.columns.specs.Laws.{stored, kept_entry, length-store}
use Rattle.wire.specs.Wire.{whole_within}
use Rattle.linksfile.specs.Records.{key_of, place_of, record_at, end_at, Good, sound}
use Rattle.linksfile.specs.Load.{at_record, at_end, Scanned}

-- a whole record lies within the bytes
pub whole_head : (kind : ℕ) (b : List ℕ) → body_length kind ≡ some 4 → whole b 0 kind ≡ true → 5 ≤ length b
whole_head kind b q h = whole_within kind b 0 q h

pub whole-link : (b : List ℕ) (at : ℕ) → whole b at kind_plain_link ≡ true → at + 5 ≤ length b
unfolding body_length
whole-link b at h = omega (arith, whole_within kind_plain_link b at refl h)

module _ (kind : ℕ) (b : List ℕ) where
  pub head_1 : whole b 0 kind ≡ false → refuse 1 0 ≡ read_head kind b
  unfolding read_head
  head_1 w = rw w refl

  module _ (n : ℕ) (w : whole b 0 kind ≡ true) (is_n : n ≡ field_at b 1) where
    pub head_2_none : n ≡ 0 → refuse 2 0 ≡ read_head kind b
    unfolding read_head
    head_2_none z = rw (w, eq-eqb (field_at b 1) 0 (sym is_n ∙ z)) refl

    pub head_2_many : n ≢ 0 → max_accounts < n → refuse 2 0 ≡ read_head kind b
    unfolding read_head
    head_2_many z l = rw (w, ← is_n, ne_eqb n 0 z, lt-ltb max_accounts n l) refl

    module _ (m : ℕ) (some-n : n ≢ 0) (few : n ≤ max_accounts) (is_m : m ≡ field_at b 3) where
      pub head_3 : max_links < m → refuse 3 0 ≡ read_head kind b
      unfolding read_head
      head_3 l = rw (w, ← is_n, ← is_m, ne_eqb n 0 some-n, le-ltb max_accounts n few, lt-ltb max_links m l) refl

      pub head_passes : m ≤ max_links → passed (record { n = n; m = m }) ≡ read_head kind b
      unfolding read_head
      head_passes l = rw (w, ← is_n, ← is_m, ne_eqb n 0 some-n, le-ltb max_accounts n few, le-ltb max_links m l) refl

or_true : (a : Bool) → (a || true) ≡ true
or_true true = refl
or_true false = refl

module _ (b : List ℕ) (n at : ℕ) where
  pub record_1 : whole b at kind_plain_link ≡ false → refuse 1 at ≡ record_at b n at
  unfolding record_at
  record_1 w = rw w refl

  module _ (x y : ℕ) (w : whole b at kind_plain_link ≡ true) (is_x : x ≡ field_at b (at + 1)) (is_y : y ≡ field_at b (at + 3)) where
    pub record_4_first : n ≤ x → refuse 4 at ≡ record_at b n at
    unfolding record_at
    record_4_first l = rw (w, ← is_x, le-leb n x l) refl

    pub record_4_second : x < n → n ≤ y → refuse 4 at ≡ record_at b n at
    unfolding record_at
    record_4_second k l = rw (w, ← is_x, ← is_y, lt-leb n x k, le-leb n y l) refl

    pub record_5 : x < n → y < n → x ≡ y → refuse 5 at ≡ record_at b n at
    unfolding record_at
    record_5 k l e = rw (w, ← is_x, ← is_y, lt-leb n x k, lt-leb n y l, eq-eqb x y e) refl

    pub record_key : x < n → y < n → x ≢ y → (k : ℕ) → k ≡ key_of (link x y) → passed k ≡ record_at b n at
    unfolding record_at
    record_key p l e k q = rw (w, ← is_x, ← is_y, lt-leb n x p, lt-leb n y l, ne_eqb x y e) (ap {B = Checked ℕ} (λ z. passed z) q)

module _ (b : List ℕ) (at : ℕ) where
  pub end_1 : whole b at kind_end ≡ false → refuse 1 at ≡ end_at b at
  unfolding end_at
  end_1 w = rw w refl

  pub end_after : whole b at kind_end ≡ true → at + 1 ≢ length b → refuse 1 (at + 1) ≡ end_at b at
  unfolding end_at
  end_after w n = rw (w, ne_eqb (length b) (at + 1) (λ e. n (sym e))) refl

  pub end_good : whole b at kind_end ≡ true → at + 1 ≡ length b → passed tt ≡ end_at b at
  unfolding end_at
  end_good w e = rw (w, eq-eqb (length b) (at + 1) (sym e)) refl

-- ---- the scan

-- the first i records of the file are in column 14
pub record Scanning (b : List ℕ) (n m i : ℕ) (w : List ℕ) : Type 0 where
  pub part : i ≤ m
  pub size : length w ≡ COLUMNS * m
  pub keys : Good b n (cell w m 14) i

pub scanning_none : {b : List ℕ} {n m : ℕ} {w : List ℕ} → length w ≡ COLUMNS * m → Scanning b n m 0 w
scanning_none h = record { part = omega arith; size = h; keys = λ j l. absurd (omega arith) }

pub scanning_more : {b : List ℕ} {n m i k : ℕ} {w w' : List ℕ} → Scanning b n m i w → i < m → passed k ≡ record_at b n (5 + 5 * i) → w' ≡ store w m 14 i k → Scanning b n m (i + 1) w'
scanning_more {b} {n} {m} {i} {k} {w} {w'} S l q u = rw u (record {
  part = omega arith;
  size = length-store w m 14 i k ∙ S.size;
  keys = λ j h. go j h (same_or_not j i);
})
  where
    go : (j : ℕ) → j < i + 1 → (j ≡ i) ⊎ (j ≢ i) → record_at b n (place_of j) ≡ passed (cell (store w m 14 i k) m 14 j)
    go j h (inl e) = rw (e, stored w m 14 i k (omega arith) l S.size) (sym q)
    go j h (inr e) = rw (kept_entry w m 14 i j k e) (S.keys j (omega arith))

pub scanned_fault : {b : List ℕ} {n m i : ℕ} {w : List ℕ} {r : Refusal} → Scanning b n m i w → i < m → refused r ≡ record_at b n (5 + 5 * i) → Scanned b n m i (refused r) w
scanned_fault {r = r} S l q = record { part = S.part; size = S.size; keys = S.keys; stop = at_record r l (sym q) refl }

pub scanned_end : {b : List ℕ} {n m : ℕ} {w : List ℕ} {rest : Checked (Unit {0})} → Scanning b n m m w → rest ≡ end_at b (5 + 5 * m) → Scanned b n m m rest w
scanned_end S e = record { part = omega arith; size = S.size; keys = S.keys; stop = at_end refl e }

-- a key fits 32 bits
pub key_small : (b : List ℕ) (n i k : ℕ) → n ≤ max_accounts → passed k ≡ record_at b n (5 + 5 * i) → k < 4294967296
key_small b n i k l q = let s = sound b n i k (sym q) in omega (arith, s.key_is, s.first_below, s.second_below)
