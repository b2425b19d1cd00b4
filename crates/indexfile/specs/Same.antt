-- Bytes compared with an index part by part: when they are it, and at which part they are not. Assumes nothing.
use Rattle.std.specs.Prelude.{◌≡◌, refl, ◌≢◌, List, [], ◌++◌, ℕ, ◌+◌, ◌*◌, ◌-◌, length, take, drop}
use Rattle.std.proofs.Common.{sym, ap, ◌∙◌, append_assoc, arith, length-append, take_all}
use Rattle.truss.specs.Record.{kind_index_head, head_bytes, end_bytes}
use Rattle.truss.specs.Index.{encode}
use Rattle.wire.specs.Writing.{up_to, up_to_length}
use Rattle.indexfile.specs.Rows.{index_in, link_record, join_record, group_record, index_parts}
use Rattle.indexfile.specs.Comparing.{part-front, front_more, front_not}

module _ (w : List ℕ) (n m joins groups : ℕ) where
  abbrev pub H : List ℕ
  H = head_bytes kind_index_head n m

  abbrev pub L : List ℕ
  L = up_to (link_record w m) m

  abbrev pub J : List ℕ
  J = up_to (join_record w m) joins

  abbrev pub G : List ℕ
  G = up_to (group_record w m) groups

  l_length : length L ≡ m * 8
  l_length = up_to_length (link_record w m) 8 (λ i. refl) m

  j_length : length J ≡ joins * 6
  j_length = up_to_length (join_record w m) 6 (λ i. refl) joins

  g_length : length G ≡ groups * 6
  g_length = up_to_length (group_record w m) 6 (λ i. refl) groups

  pub front_links : length (H ++ L) ≡ 5 + m * 8
  front_links = length-append H L ∙ omega (arith, l_length)

  pub front_joins : length ((H ++ L) ++ J) ≡ 5 + m * 8 + joins * 6
  front_joins = length-append (H ++ L) J ∙ omega (arith, front_links, j_length)

  pub front-groups : length (((H ++ L) ++ J) ++ G) ≡ 5 + m * 8 + joins * 6 + groups * 6
  front-groups = length-append ((H ++ L) ++ J) G ∙ omega (arith, front_joins, g_length)

  pub whole_length : length (encode (index_in w n m joins groups)) ≡ 6 + m * 8 + joins * 6 + groups * 6
  whole_length = ap length (index_parts w n m joins groups) ∙ length-append (((H ++ L) ++ J) ++ G) end_bytes ∙ omega (arith, front-groups)

  module _ (s : List ℕ) where
    pub not_length : (r : ℕ) → r ≡ 6 + m * 8 + joins * 6 + groups * 6 → length s ≢ r → ¬ (s ≡ encode (index_in w n m joins groups))
    not_length r e ne q = ne (ap length q ∙ whole_length ∙ sym e)

    pub not_head : ¬ (take 5 s ≡ H) → ¬ (s ≡ encode (index_in w n m joins groups))
    not_head un q =
        front_not s [] H (L ++ (J ++ (G ++ end_bytes))) 0 5 refl refl un (q ∙ index_parts w n m joins groups ∙ simp append_assoc)

    module _ (long : length s ≡ 6 + m * 8 + joins * 6 + groups * 6) where
      pub not_links : ¬ (take (m * 8) (take (length s - 5) (drop 5 s)) ≡ L) → ¬ (s ≡ encode (index_in w n m joins groups))
      not_links un q =
          front_not s H L (J ++ (G ++ end_bytes)) 5 (m * 8) refl l_length (λ e. un (part-front s 5 (m * 8) (omega arith) ∙ e)) (q ∙ index_parts w n m joins groups ∙ simp append_assoc)

      pub not_joins : (at : ℕ) → at ≡ 5 + m * 8 → ¬ (take (joins * 6) (take (length s - at) (drop at s)) ≡ J) → ¬ (s ≡ encode (index_in w n m joins groups))
      not_joins at e un q =
          front_not s (H ++ L) J (G ++ end_bytes) at (joins * 6) (front_links ∙ sym e) j_length (λ x. un (part-front s at (joins * 6) (omega arith) ∙ x)) (q ∙ index_parts w n m joins groups ∙ simp append_assoc)

      pub not_groups : (at : ℕ) → at ≡ 5 + m * 8 + joins * 6 → ¬ (take (groups * 6) (take (length s - at) (drop at s)) ≡ G) → ¬ (s ≡ encode (index_in w n m joins groups))
      not_groups at e un q =
          front_not s ((H ++ L) ++ J) G end_bytes at (groups * 6) (front_joins ∙ sym e) g_length (λ x. un (part-front s at (groups * 6) (omega arith) ∙ x)) (q ∙ index_parts w n m joins groups ∙ simp append_assoc)

      pub not_end : (at : ℕ) → at ≡ 5 + m * 8 + joins * 6 + groups * 6 → ¬ (take 1 (take (length s - at) (drop at s)) ≡ end_bytes) → ¬ (s ≡ encode (index_in w n m joins groups))
      not_end at e un q =
          front_not s (((H ++ L) ++ J) ++ G) end_bytes [] at 1 (front-groups ∙ sym e) refl (λ x. un (part-front s at 1 (omega arith) ∙ x)) (q ∙ index_parts w n m joins groups ∙ simp append_assoc)

      pub is_index : (a b e : ℕ) → a ≡ 5 + m * 8 → b ≡ 5 + m * 8 + joins * 6 → e ≡ 5 + m * 8 + joins * 6 + groups * 6 → take 5 s ≡ H
          → take (m * 8) (take (length s - 5) (drop 5 s)) ≡ L → take (joins * 6) (take (length s - a) (drop a s)) ≡ J
          → take (groups * 6) (take (length s - b) (drop b s)) ≡ G → take 1 (take (length s - e) (drop e s)) ≡ end_bytes → s ≡ encode (index_in w n m joins groups)
      is_index a b e qa qb qe ph pl pj pg pe =
          let f₁ = front_more s H L 5 (m * 8) ph (sym (part-front s 5 (m * 8) (omega arith)) ∙ pl) in
          let f₂ = front_more s (H ++ L) J a (joins * 6) (ap (λ (k : ℕ). take k s) qa ∙ f₁) (sym (part-front s a (joins * 6) (omega arith)) ∙ pj) in
          let f₃ = front_more s ((H ++ L) ++ J) G b (groups * 6) (ap (λ (k : ℕ). take k s) qb ∙ ap (λ (k : ℕ). take (k + joins * 6) s) (sym qa) ∙ f₂) (sym (part-front s b (groups * 6) (omega arith)) ∙ pg) in
          let f₄ = front_more s (((H ++ L) ++ J) ++ G) end_bytes e 1 (ap (λ (k : ℕ). take k s) qe ∙ ap (λ (k : ℕ). take (k + groups * 6) s) (sym qb) ∙ f₃) (sym (part-front s e 1 (omega arith)) ∙ pe) in
          sym (take_all (e + 1) s (omega arith)) ∙ f₄ ∙ sym (index_parts w n m joins groups)
