-- The queue of the peeling while one level runs: the links that went, those that wait, and what is known of all others. Columns as functions of the link number:
-- σ supports, τ strengths (0: not in a queue yet), q the queue; and d, which no column holds: not 0 for the links that are removed.
-- In order: the invariant; its size; a support falls; a link joins; the first is removed; one more link is looked at. Assumes nothing.
use Rattle.std.specs.Prelude.{◌≡◌, refl, ◌⊎◌, ◌≢◌, true, cond, ℕ, ◌+◌, ◌≤◌, ◌<◌, eqb}
use Rattle.std.proofs.Common.{sym, ap, ◌∙◌, inl, inr, arith, eq-eqb, ne_eqb}
use Rattle.truss.specs.Graph.{Link, Graph, member, link_at}
use Rattle.truss.specs.Strength.{truss, strength}
use Rattle.laws.proofs.Sets.{pigeonhole}
use Rattle.laws.proofs.Numbers.{same_or_not}
use Rattle.columns.specs.Laws.{Upd, Same}

-- what is known of a link whose strength column says t, at the level s: it stays so far, it goes at this level, or it went before
pub data Fate (G : Graph) (s : ℕ) (e : Link) (t : ℕ) : Type 0 where
  stays : member (truss G (s + 2)) e ≡ true → t ≡ 0 → Fate G s e t
  goes : member (truss G (s + 2)) e ≡ true → t ≡ s + 2 → Fate G s e t
  went : strength G e ≡ t → t ≢ 0 → Fate G s e t

-- Met: the links that were looked at when the level began
pub record Queue (G : Graph) (m s : ℕ) (Met : ℕ → Type 0) (head tail : ℕ) (σ τ q d : ℕ → ℕ) : Type 0 where
  pub order : head ≤ tail
  pub within : (i : ℕ) → i < tail → q i < m
  pub named : (i : ℕ) → i < tail → τ (q i) ≢ 0
  pub once : (i j : ℕ) → i < tail → j < tail → q i ≡ q j → i ≡ j
  pub fresh : (i : ℕ) → head ≤ i → i < tail → d (q i) ≡ 0
  pub waits : (y : ℕ) → y < m → τ y ≢ 0 → (d y ≢ 0) ⊎ ((i : ℕ) × (head ≤ i) × (i < tail) × (q i ≡ y))
  pub above : (y : ℕ) → y < m → Met y → τ y ≡ 0 → s < σ y
  pub low : (y : ℕ) → y < m → τ y ≢ 0 → d y ≡ 0 → σ y ≤ s
  pub ended : (y : ℕ) → y < m → τ y ≡ 0 → d y ≡ 0
  pub gone : (y : ℕ) → y < m → d y ≢ 0 → σ y ≡ 0
  pub fate : (y : ℕ) → y < m → Fate G s (link_at G y) (τ y)

-- the links queued so far, each once
pub record Line (m tail : ℕ) (τ q : ℕ → ℕ) : Type 0 where
  pub within : (i : ℕ) → i < tail → q i < m
  pub named : (i : ℕ) → i < tail → τ (q i) ≢ 0
  pub once : (i j : ℕ) → i < tail → j < tail → q i ≡ q j → i ≡ j

-- f with the value v at x
unfoldable pub put : (ℕ → ℕ) → ℕ → ℕ → ℕ → ℕ
put f x v y = cond (eqb y x) v (f y)

pub upd_put : (m : ℕ) (f : ℕ → ℕ) (x v : ℕ) → Upd m f (put f x v) x v
unfolding put
upd_put m f x v = record { here = rw (eq-eqb x x refl); else = λ y l n. rw (ne_eqb y x n) }

pub upd_same : {m : ℕ} {f f' : ℕ → ℕ} → Same m f f' → (x : ℕ) → x < m → Upd m f f' x (f x)
upd_same h x l = record { here = h x l; else = λ y k n. h y k }

module _ {G : Graph} {m s : ℕ} {Met : ℕ → Type 0} {head tail : ℕ} {σ τ q d : ℕ → ℕ} (Q : Queue G m s Met head tail σ τ q d) where
  -- no more entries than links
  pub queue_few : tail ≤ m
  queue_few = pigeonhole m tail q Q.within (λ i j l k e. Q.once i j l k e)

  few : (i : ℕ) → i < tail → i < m
  few i l = omega (arith, queue_few)

  pub queue_line : {τ' q' : ℕ → ℕ} → Same m τ τ' → Same m q q' → Line m tail τ' q'
  queue_line sτ sq = record {
    within = λ i l. rw (sq i (few i l)) (Q.within i l);
    named = λ i l. rw (sq i (few i l), sτ (q i) (Q.within i l)) (Q.named i l);
    once = λ i j l k e. Q.once i j l k (sym (sq i (few i l)) ∙ e ∙ sq j (few j k));
  }

  -- a support changes
  pub queue_lower : (x v : ℕ) {σ' τ' q' d' : ℕ → ℕ} → x < m → v ≤ σ x → (τ x ≡ 0 → s < v) → Upd m σ σ' x v → Same m τ τ' → Same m q q' → Same m d d'
      → Queue G m s Met head tail σ' τ' q' d'
  queue_lower x v {σ'} {τ'} {q'} {d'} xl le hi uσ sτ sq sd = record {
    order = Q.order;
    within = λ i l. rw (sq i (few i l)) (Q.within i l);
    named = λ i l. rw (sq i (few i l), sτ (q i) (Q.within i l)) (Q.named i l);
    once = λ i j l k e. Q.once i j l k (sym (sq i (few i l)) ∙ e ∙ sq j (few j k));
    fresh = λ i g l. rw (sq i (few i l), sd (q i) (Q.within i l)) (Q.fresh i g l);
    waits = λ y l n. wait y l (Q.waits y l (λ z. n (sτ y l ∙ z)));
    above = λ y l r z. up y l r (sym (sτ y l) ∙ z) (same_or_not y x);
    low = λ y l n z. down y l (λ e. n (sτ y l ∙ e)) (sym (sd y l) ∙ z) (same_or_not y x);
    ended = λ y l z. sd y l ∙ Q.ended y l (sym (sτ y l) ∙ z);
    gone = λ y l n. off y l (Q.gone y l (λ z. n (sd y l ∙ z))) (same_or_not y x);
    fate = λ y l. rw (sτ y l) (Q.fate y l);
  }
    where
      off : (y : ℕ) → y < m → σ y ≡ 0 → (y ≡ x) ⊎ (y ≢ x) → σ' y ≡ 0
      off y l z (inl e) =
          let a : σ' y ≡ v = ap σ' e ∙ uσ.here in
          let b : σ y ≡ σ x = ap σ e in
          omega (arith, le)
      off y l z (inr e) = uσ.else y l e ∙ z

      wait : (y : ℕ) → y < m → (d y ≢ 0) ⊎ ((i : ℕ) × (head ≤ i) × (i < tail) × (q i ≡ y)) → (d' y ≢ 0) ⊎ ((i : ℕ) × (head ≤ i) × (i < tail) × (q' i ≡ y))
      wait y l (inl n) = inl (λ z. n (sym (sd y l) ∙ z))
      wait y l (inr r) = inr (r.0, r.1, r.2, sq r.0 (few r.0 r.2) ∙ r.3)

      up : (y : ℕ) → y < m → Met y → τ y ≡ 0 → (y ≡ x) ⊎ (y ≢ x) → s < σ' y
      up y l r z (inl e) = let a : σ' y ≡ v = ap σ' e ∙ uσ.here in rw a (hi (ap τ (sym e) ∙ z))
      up y l r z (inr e) = rw (uσ.else y l e) (Q.above y l r z)

      down : (y : ℕ) → y < m → τ y ≢ 0 → d y ≡ 0 → (y ≡ x) ⊎ (y ≢ x) → σ' y ≤ s
      down y l n z (inl e) =
          let a : σ' y ≡ v = ap σ' e ∙ uσ.here in
          let b : σ y ≡ σ x = ap σ e in
          omega (arith, le, Q.low y l n z)
      down y l n z (inr e) = rw (uσ.else y l e) (Q.low y l n z)

  -- a link joins
  pub queue_push : (x v : ℕ) {σ' τ' q' d' : ℕ → ℕ} → x < m → τ x ≡ 0 → v ≤ s → Upd m σ σ' x v → Upd m τ τ' x (s + 2) → Upd m q q' tail x → Same m d d'
      → Queue G m s Met head (tail + 1) σ' τ' q' d'
  queue_push x v {σ'} {τ'} {q'} {d'} xl tz le uσ uτ uq sd = record {
    order = omega (arith, Q.order);
    within = λ i l. rw_within i (place i l);
    named = λ i l. rw_named i (place i l);
    once = λ i j l k e. rw_once i j e (place i l) (place j k);
    fresh = λ i g l. rw_fresh i g (place i l);
    waits = λ y l n. wait y l n (same_or_not y x);
    above = λ y l r z. up y l r z (same_or_not y x);
    low = λ y l n z. down y l n (sym (sd y l) ∙ z) (same_or_not y x);
    ended = λ y l z. end y l z (same_or_not y x);
    gone = λ y l n. off y l (λ z. n (sd y l ∙ z)) (same_or_not y x);
    fate = λ y l. fates y l (same_or_not y x);
  }
    where
      at : (i : ℕ) → i ≡ tail → q' i ≡ x
      at i e = ap q' e ∙ uq.here

      old : (i : ℕ) → i < tail → q' i ≡ q i
      old i l = uq.else i (few i l) (omega arith)

      new : (i : ℕ) → i < tail → q i ≢ x
      new i l e = Q.named i l (ap τ e ∙ tz)

      place : (i : ℕ) → i < tail + 1 → (i ≡ tail) ⊎ (i < tail)
      place i l = go (same_or_not i tail)
        where
          go : (i ≡ tail) ⊎ (i ≢ tail) → (i ≡ tail) ⊎ (i < tail)
          go (inl e) = inl e
          go (inr e) = inr (omega arith)

      tx : (y : ℕ) → y ≡ x → τ' y ≡ 0 → ⊥
      tx y e z = let t : s + 2 ≡ 0 = sym (ap τ' e ∙ uτ.here) ∙ z in omega arith

      rw_within : (i : ℕ) → (i ≡ tail) ⊎ (i < tail) → q' i < m
      rw_within i (inl e) = rw (at i e) xl
      rw_within i (inr l) = rw (old i l) (Q.within i l)

      rw_named : (i : ℕ) → (i ≡ tail) ⊎ (i < tail) → τ' (q' i) ≢ 0
      rw_named i (inl e) = tx (q' i) (at i e)
      rw_named i (inr l) = rw (old i l, uτ.else (q i) (Q.within i l) (new i l)) (Q.named i l)

      rw_once : (i j : ℕ) → q' i ≡ q' j → (i ≡ tail) ⊎ (i < tail) → (j ≡ tail) ⊎ (j < tail) → i ≡ j
      rw_once i j e (inl a) (inl b) = a ∙ sym b
      rw_once i j e (inl a) (inr b) = absurd (new j b (sym (old j b) ∙ sym e ∙ at i a))
      rw_once i j e (inr a) (inl b) = absurd (new i a (sym (old i a) ∙ e ∙ at j b))
      rw_once i j e (inr a) (inr b) = Q.once i j a b (sym (old i a) ∙ e ∙ old j b)

      rw_fresh : (i : ℕ) → head ≤ i → (i ≡ tail) ⊎ (i < tail) → d' (q' i) ≡ 0
      rw_fresh i g (inl e) = ap d' (at i e) ∙ sd x xl ∙ Q.ended x xl tz
      rw_fresh i g (inr l) = ap d' (old i l) ∙ sd (q i) (Q.within i l) ∙ Q.fresh i g l

      wait : (y : ℕ) → y < m → τ' y ≢ 0 → (y ≡ x) ⊎ (y ≢ x) → (d' y ≢ 0) ⊎ ((i : ℕ) × (head ≤ i) × (i < tail + 1) × (q' i ≡ y))
      wait y l n (inl e) = inr (tail, Q.order, omega arith, uq.here ∙ sym e)
      wait y l n (inr e) = more (Q.waits y l (λ z. n (uτ.else y l e ∙ z)))
        where
          more : (d y ≢ 0) ⊎ ((i : ℕ) × (head ≤ i) × (i < tail) × (q i ≡ y)) → (d' y ≢ 0) ⊎ ((i : ℕ) × (head ≤ i) × (i < tail + 1) × (q' i ≡ y))
          more (inl k) = inl (λ z. k (sym (sd y l) ∙ z))
          more (inr r) = inr (r.0, r.1, omega (arith, r.2), old r.0 r.2 ∙ r.3)

      up : (y : ℕ) → y < m → Met y → τ' y ≡ 0 → (y ≡ x) ⊎ (y ≢ x) → s < σ' y
      up y l r z (inl e) = absurd (tx y e z)
      up y l r z (inr e) = rw (uσ.else y l e) (Q.above y l r (sym (uτ.else y l e) ∙ z))

      down : (y : ℕ) → y < m → τ' y ≢ 0 → d y ≡ 0 → (y ≡ x) ⊎ (y ≢ x) → σ' y ≤ s
      down y l n z (inl e) = let a : σ' y ≡ v = ap σ' e ∙ uσ.here in rw a le
      down y l n z (inr e) = rw (uσ.else y l e) (Q.low y l (λ k. n (uτ.else y l e ∙ k)) z)

      off : (y : ℕ) → y < m → d y ≢ 0 → (y ≡ x) ⊎ (y ≢ x) → σ' y ≡ 0
      off y l n (inl e) = absurd (n (ap d e ∙ Q.ended x xl tz))
      off y l n (inr e) = uσ.else y l e ∙ Q.gone y l n

      end : (y : ℕ) → y < m → τ' y ≡ 0 → (y ≡ x) ⊎ (y ≢ x) → d' y ≡ 0
      end y l z (inl e) = absurd (tx y e z)
      end y l z (inr e) = sd y l ∙ Q.ended y l (sym (uτ.else y l e) ∙ z)

      fates : (y : ℕ) → y < m → (y ≡ x) ⊎ (y ≢ x) → Fate G s (link_at G y) (τ' y)
      fates y l (inl e) = go (Q.fate y l)
        where
          go : Fate G s (link_at G y) (τ y) → Fate G s (link_at G y) (τ' y)
          go (stays a b) = goes a (ap τ' e ∙ uτ.here)
          go (goes a b) = goes a (ap τ' e ∙ uτ.here)
          go (went a b) = absurd (b (ap τ e ∙ tz))
      fates y l (inr e) = rw (uτ.else y l e) (Q.fate y l)

  -- so there is room for one more that is not in it
  pub queue_room : (x : ℕ) → x < m → τ x ≡ 0 → tail < m
  queue_room x l z =
      let P = queue_push x 0 l z (omega arith) (upd_put m σ x 0) (upd_put m τ x (s + 2)) (upd_put m q tail x) (λ y k. refl) in
      let r : tail + 1 ≤ m = go P in
      omega arith
    where
      go : Queue G m s Met head (tail + 1) (put σ x 0) (put τ x (s + 2)) (put q tail x) d → tail + 1 ≤ m
      go P = pigeonhole m (tail + 1) (put q tail x) P.within (λ i j a b e. P.once i j a b e)

  -- the first is removed
  pub queue-done : {σ' τ' q' d' : ℕ → ℕ} → head < tail → Upd m σ σ' (q head) 0 → Same m τ τ' → Same m q q' → Upd m d d' (q head) 1
      → Queue G m s Met (head + 1) tail σ' τ' q' d'
  queue-done {σ'} {τ'} {q'} {d'} h uσ sτ sq ud = record {
    order = omega arith;
    within = λ i l. rw (sq i (few i l)) (Q.within i l);
    named = λ i l. rw (sq i (few i l), sτ (q i) (Q.within i l)) (Q.named i l);
    once = λ i j l k e. Q.once i j l k (sym (sq i (few i l)) ∙ e ∙ sq j (few j k));
    fresh = λ i g l.
        let n : q i ≢ q head = λ e. omega (arith, Q.once i head l h e) in
        ap d' (sq i (few i l)) ∙ ud.else (q i) (Q.within i l) n ∙ Q.fresh i (omega arith) l;
    waits = λ y l n. wait y l (Q.waits y l (λ z. n (sτ y l ∙ z))) (same_or_not y (q head));
    above = λ y l r z. up y l r (sym (sτ y l) ∙ z) (same_or_not y (q head));
    low = λ y l n z. down y l (λ e. n (sτ y l ∙ e)) z (same_or_not y (q head));
    gone = λ y l n. off y l n (same_or_not y (q head));
    ended = λ y l z. end y l (sym (sτ y l) ∙ z) (same_or_not y (q head));
    fate = λ y l. rw (sτ y l) (Q.fate y l);
  }
    where
      flag : (y : ℕ) → y ≡ q head → d' y ≢ 0
      flag y e z = let o : 1 ≡ d' y = sym (ap d' e ∙ ud.here) in omega arith

      wait : (y : ℕ) → y < m → (d y ≢ 0) ⊎ ((i : ℕ) × (head ≤ i) × (i < tail) × (q i ≡ y)) → (y ≡ q head) ⊎ (y ≢ q head)
          → (d' y ≢ 0) ⊎ ((i : ℕ) × (head + 1 ≤ i) × (i < tail) × (q' i ≡ y))
      wait y l k (inl e) = inl (flag y e)
      wait y l (inl k) (inr e) = inl (λ z. k (sym (ud.else y l e) ∙ z))
      wait y l (inr r) (inr e) =
          let n : r.0 ≢ head = λ z. e (sym r.3 ∙ ap q z) in
          inr (r.0, omega (arith, r.1), r.2, sq r.0 (few r.0 r.2) ∙ r.3)

      down : (y : ℕ) → y < m → τ y ≢ 0 → d' y ≡ 0 → (y ≡ q head) ⊎ (y ≢ q head) → σ' y ≤ s
      down y l n z (inl e) = absurd (flag y e z)
      down y l n z (inr e) = rw (uσ.else y l e) (Q.low y l n (sym (ud.else y l e) ∙ z))

      up : (y : ℕ) → y < m → Met y → τ y ≡ 0 → (y ≡ q head) ⊎ (y ≢ q head) → s < σ' y
      up y l r z (inl e) = absurd (Q.named head h (ap τ (sym e) ∙ z))
      up y l r z (inr e) = rw (uσ.else y l e) (Q.above y l r z)

      off : (y : ℕ) → y < m → d' y ≢ 0 → (y ≡ q head) ⊎ (y ≢ q head) → σ' y ≡ 0
      off y l n (inl e) = ap σ' e ∙ uσ.here
      off y l n (inr e) = uσ.else y l e ∙ Q.gone y l (λ z. n (ud.else y l e ∙ z))

      end : (y : ℕ) → y < m → τ y ≡ 0 → (y ≡ q head) ⊎ (y ≢ q head) → d' y ≡ 0
      end y l z (inl e) = absurd (Q.named head h (ap τ (sym e) ∙ z))
      end y l z (inr e) = ud.else y l e ∙ Q.ended y l z

-- what was looked at counts only where a link is in no queue
pub queue-met : {G : Graph} {m s : ℕ} {Met Met' : ℕ → Type 0} {head tail : ℕ} {σ τ q d : ℕ → ℕ} → Queue G m s Met head tail σ τ q d
    → ((y : ℕ) → y < m → Met' y → Met y ⊎ (τ y ≡ 0 → s < σ y)) → Queue G m s Met' head tail σ τ q d
queue-met {G} {m} {s} {Met} {Met'} {head} {tail} {σ} {τ} {q} {d} Q cases = record {
  order = Q.order;
  within = Q.within;
  named = Q.named;
  once = Q.once;
  fresh = Q.fresh;
  waits = Q.waits;
  above = λ y l r z. go y l z (cases y l r);
  low = Q.low;
  ended = Q.ended;
  gone = Q.gone;
  fate = Q.fate;
}
  where
    go : (y : ℕ) → y < m → τ y ≡ 0 → Met y ⊎ (τ y ≡ 0 → s < σ y) → s < σ y
    go y l z (inl r) = Q.above y l r z
    go y l z (inr h) = h z

-- one more link was looked at, and it is in the queue or above the level
pub queue_looked : {G : Graph} {m s : ℕ} {Met Met' : ℕ → Type 0} {head tail : ℕ} {σ τ q d : ℕ → ℕ} → Queue G m s Met head tail σ τ q d → (x : ℕ) → (τ x ≡ 0 → s < σ x)
    → ((y : ℕ) → y < m → Met' y → Met y ⊎ (y ≡ x)) → Queue G m s Met' head tail σ τ q d
queue_looked {G} {m} {s} {Met} {Met'} {head} {tail} {σ} {τ} {q} {d} Q x hi cases = queue-met Q (λ y l r. go y (cases y l r))
  where
    go : (y : ℕ) → Met y ⊎ (y ≡ x) → Met y ⊎ (τ y ≡ 0 → s < σ y)
    go y (inl r) = inl r
    go y (inr e) = inr (λ z. rw e (hi (ap τ (sym e) ∙ z)))
