-- Where the records of an index stand: byte j of the record of link i, and of group g. Assumes nothing.
use Rattle.std.specs.Prelude.{◌≡◌, ℕ, ◌+◌, ◌*◌, ◌/◌, ◌%◌, ◌<◌}
use Rattle.std.proofs.Math.Path.{refl, ap, ap₂}
use Rattle.std.proofs.Common.{sym, ◌∙◌, ext_get_or}
use mathlib.Core.List.{List, ◌++◌, map, append_assoc}
use native.Mathlib.Omega.{arith}
use Rattle.std.proofs.Math.ListN.{length, get_or, length-append}
use Rattle.std.proofs.lemmas.List.{length-map}
use Rattle.truss.specs.Lists.{concat_map, range}
use Rattle.truss.specs.Record.{kind_index_head, byte_at, field_at, head_bytes, end_bytes}
use Rattle.truss.specs.Index.{Index, link_bytes, join_bytes, group_bytes, encode}
use Rattle.truss.specs.Stored.{row_at, join_at, group_row_at}
use Rattle.laws.proofs.Members.{range_length}
use Rattle.laws.proofs.Sets.{map_range_at}
use Rattle.laws.proofs.Decoding.{field_back}
use Rattle.wire.specs.Writing.{up_to, up_to_rows, up_to_length}
use Rattle.wire.specs.RowBytes.{row_byte}

-- a list by its numbers
by_numbers : {A : Type 0} (d : A) (xs : List A) → xs ≡ map (λ (i : ℕ). get_or xs i d) (range 0 (length xs))
by_numbers {A} d xs = ext_get_or d xs (map f (range 0 (length xs))) (sym (length-map (range 0 (length xs)) f ∙ range_length 0 (length xs)))
    (λ i l. sym (map_range_at f d 0 (length xs) i l ∙ ap f (omega arith)))
  where
    f : ℕ → A
    f i = get_or xs i d

rows_up : {A : Type 0} (bytes : A → List ℕ) (d : A) (xs : List A) → concat_map bytes xs ≡ up_to (λ (i : ℕ). bytes (get_or xs i d)) (length xs)
rows_up bytes d xs = ap (concat_map bytes) (by_numbers d xs) ∙ sym (up_to_rows bytes (λ (i : ℕ). get_or xs i d) (length xs))

module _ (x : Index) where
  links : ℕ → List ℕ
  links i = link_bytes (row_at x i)

  joins : ℕ → List ℕ
  joins q = join_bytes (join_at x q)

  groups : ℕ → List ℕ
  groups g = group_bytes (group_row_at x g)

  H : List ℕ
  H = head_bytes kind_index_head x.n x.m

  L : List ℕ
  L = up_to links (length x.links)

  J : List ℕ
  J = up_to joins (length x.joins)

  K : List ℕ
  K = up_to groups (length x.groups)

  bytes_are : encode x ≡ H ++ (L ++ (J ++ (K ++ end_bytes)))
  unfolding encode links joins groups H L J K
  bytes_are =
      rw (rows_up link_bytes (record { lo = 0; hi = 0; strength = 0; group = 0 }) x.links, rows_up join_bytes (record { lower = 0; higher = 0; weight = 0 }) x.joins, rows_up group_bytes (record { parent = 0; strength = 0; least = 0 }) x.groups)
      refl

  l_length : length L ≡ length x.links * 8
  unfolding links L
  l_length = up_to_length links 8 (λ i. refl) (length x.links)

  j_length : length J ≡ length x.joins * 6
  unfolding joins J
  j_length = up_to_length joins 6 (λ i. refl) (length x.joins)

  k_length : length K ≡ length x.groups * 6
  unfolding groups K
  k_length = up_to_length groups 6 (λ i. refl) (length x.groups)

  -- where the groups begin
  abbrev pub groups_place : ℕ
  groups_place = 5 + 8 * length x.links + 6 * length x.joins

  pub encode-length : length (encode x) ≡ groups_place + 6 * length x.groups + 1
  unfolding H
  encode-length =
      let a = ap length bytes_are in
      let b = length-append H (L ++ (J ++ (K ++ end_bytes))) in
      let c = length-append L (J ++ (K ++ end_bytes)) in
      let d = length-append J (K ++ end_bytes) in
      let e = length-append K end_bytes in
      omega (arith, a, b, c, d, e, l_length, j_length, k_length)

  pub link_byte : (i j : ℕ) → i < length x.links → j < 8 → byte_at (encode x) (5 + 8 * i + j) ≡ get_or (link_bytes (row_at x i)) j 0
  unfolding links H L
  link_byte i j l k =
      let e : 5 + 8 * i + j ≡ 5 + i * 8 + j = omega arith in
      ap₂ (λ (b : List ℕ) (p : ℕ). get_or b p 0) bytes_are e ∙ row_byte links 8 (λ _. refl) H (J ++ (K ++ end_bytes)) (length x.links) i j l k

  pub group_byte : (g j : ℕ) → g < length x.groups → j < 6 → byte_at (encode x) (groups_place + 6 * g + j) ≡ get_or (group_bytes (group_row_at x g)) j 0
  unfolding groups H K
  group_byte g j l k =
      let before : encode x ≡ (H ++ (L ++ J)) ++ (K ++ end_bytes) = bytes_are ∙ simp append_assoc in
      let p : groups_place + 6 * g + j ≡ length (H ++ (L ++ J)) + g * 6 + j = omega (arith, length-append H (L ++ J), length-append L J, l_length, j_length) in
      ap₂ (λ (b : List ℕ) (p : ℕ). get_or b p 0) before p ∙ row_byte groups 6 (λ _. refl) (H ++ (L ++ J)) end_bytes (length x.groups) g j l k

-- a field by its two bytes
pub field_of : (b : List ℕ) (p x : ℕ) → x < 65536 → byte_at b p ≡ x / 256 % 256 → byte_at b (p + 1) ≡ x % 256 → field_at b p ≡ x
field_of b p x l u v = ap₂ (λ (h k : ℕ). h * 256 + k) u v ∙ field_back x l
