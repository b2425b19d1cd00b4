-- Tallies over any run of questions: each window's is its start plus its own answered questions, unless it rests at the top.
use mathlib.Core.Path.{◌≡◌, refl, sym, ap, ◌∙◌}
use mathlib.Core.Logic.{◌⊎◌, inl, inr, ◌≢◌}
use mathlib.Core.Bool.{Bool, true, false, cond, not, ◌&&◌, ◌||◌}
use mathlib.Core.List.{List, [], ◌∷◌, ◌++◌}
use Prim.Native.Nat.{ℕ, ◌+◌, ◌*◌, ◌-◌, ◌≤◌, ◌<◌, min}
use native.Mathlib.Omega.{arith}
use lib.Dec.{eqb, ltb, leb}
use lib.ListN.{length, get_or, take, drop, set, length-append, length-take, length-drop, length-set, take-append-drop, get_or-append}
use lib.Seq.{get_or-set_same, get_or-set_other, get_or-take, get_or-drop, get_or-append-add, length-take-le, drop_at}
use borrow.Author.Tests.{eq-eqb, ne_eqb, leb-false, ltb-false}
use Rattle.truss.specs.Limits.{windows, max_tally, desk_length}
use Rattle.truss.specs.Lists.{same_list}
use Rattle.truss.specs.Graph.{Graph}
use Rattle.truss.specs.Refusal.{Checked, passed, refused, refuse_if, and_then}
use Rattle.truss.specs.LinksFile.{Links, graph_of_links, read_links}
use Rattle.truss.specs.Index.{index_bytes}
use Rattle.truss.specs.IndexFile.{links_file_in, if_index_is, read_index}
use Rattle.truss.specs.Question.{Question, Answer, answer, outside, no_link, bad_count, bad_level, accounts_in, ask_strength, ask_joined, ask_groups_at, ask_strongest, ask_all, ask_links, ask_chain}
use Rattle.truss.specs.Call.{Reply, with_room, overwrite, answer_bytes, checked_answer, check_window, check_desk, next_tally, settle, ask, tally_bytes, tally_in, tally_at, put_tally, settle_bytes, ask_bytes}
use Rattle.truss.specs.Run.{Seen, Run, none, one, own_answered, Asks, RunTallies, AsksBytes, RunRecord}
use Rattle.laws.proofs.Numbers.{same_or_not, less_or_not}
use Rattle.laws.proofs.Answers.{tally_back}

-- ---- a refusal of a question has a number above 0, so that its reply tells it from an answer

unfoldable pub NotZero : {A : Type 0} → Checked A → Type 0
NotZero (passed x) = Unit {0}
NotZero (refused r) = 0 < r.number

pub if_not_zero : {A : Type 0} (t : Bool) (k : ℕ) (x : Checked A) → 0 < k → NotZero x → NotZero (refuse_if t k 0 x)
unfolding NotZero
if_not_zero true k x l n = l
if_not_zero false k x l n = n

then_not_zero : {A B : Type 0} (x : Checked A) (f : A → Checked B) → NotZero x → ((a : A) → NotZero (f a)) → NotZero (and_then x f)
unfolding and_then NotZero
then_not_zero (passed a) f n h = h a
then_not_zero (refused r) f n h = n

two_checks : (t u : Bool) (k l : ℕ) (x : Answer) → 0 < k → 0 < l → NotZero (refuse_if t k 0 (refuse_if u l 0 (passed x)))
unfolding NotZero
two_checks t u k l x p q = if_not_zero t k (refuse_if u l 0 (passed x)) p (if_not_zero u l (passed x) q (tt {0}))

three_checks : (t u v : Bool) (k l m : ℕ) (x : Answer) → 0 < k → 0 < l → 0 < m → NotZero (refuse_if t k 0 (refuse_if u l 0 (refuse_if v m 0 (passed x))))
three_checks t u v k l m x p q r = if_not_zero t k (refuse_if u l 0 (refuse_if v m 0 (passed x))) p (two_checks u v l m x q r)

answer_not_zero : (G : Graph) (q : Question) → NotZero (answer G q)
unfolding answer
answer_not_zero G (ask_strength a b) = two_checks (outside G (a ∷ b ∷ [])) (no_link G a b) 9 11 _ (omega arith) (omega arith)
answer_not_zero G (ask_joined a b c d) = two_checks (outside G (a ∷ b ∷ c ∷ d ∷ [])) (no_link G a b || no_link G c d) 9 11 _ (omega arith) (omega arith)
answer_not_zero G (ask_groups_at k named) = three_checks (bad_count named) (outside G (accounts_in named)) (bad_level k) 8 9 10 _ (omega arith) (omega arith) (omega arith)
answer_not_zero G (ask_strongest named) = two_checks (bad_count named) (outside G (accounts_in named)) 8 9 _ (omega arith) (omega arith)
answer_not_zero G (ask_all named) = two_checks (bad_count named) (outside G (accounts_in named)) 8 9 _ (omega arith) (omega arith)
answer_not_zero G (ask_links k a b) = three_checks (outside G (a ∷ b ∷ [])) (bad_level k) (no_link G a b) 9 10 11 _ (omega arith) (omega arith) (omega arith)
answer_not_zero G (ask_chain k a b c d) =
    three_checks (outside G (a ∷ b ∷ c ∷ d ∷ [])) (bad_level k) (no_link G a b || no_link G c d) 9 10 11 _ (omega arith) (omega arith) (omega arith)

read_not_zero : (b : List ℕ) → NotZero (read_index b)
unfolding read_index if_index_is NotZero
read_not_zero b = go (read_links (links_file_in b))
  where
    go : (x : Checked Links) → NotZero (if_index_is b x)
    go (passed l) = if_not_zero (not (same_list (index_bytes (graph_of_links l)) b)) 7 (passed (graph_of_links l)) (omega arith) (tt {0})
    go (refused r) = omega arith

pub checked_not_zero : (b : List ℕ) (q : Question) (out : List ℕ) → NotZero (checked_answer b q out)
unfolding checked_answer NotZero
checked_not_zero b q out =
    then_not_zero (read_index b) (λ G. and_then (answer G q) (λ a. with_room (answer_bytes a) out a)) (read_not_zero b)
    (λ G. then_not_zero (answer G q) (λ a. with_room (answer_bytes a) out a) (answer_not_zero G q) (λ a. if_not_zero (ltb (length out) (length (answer_bytes a))) 12 (passed a) (omega arith) (tt {0})))

-- ---- any run, of which each question moves a window's tally as it should

-- 1 for an answered question of window w
abbrev own : ℕ → ℕ → Reply → ℕ
own w v r = cond (eqb v w && eqb r.refusal 0) 1 0

-- what each question of a run keeps, the run keeps
run_keeps : {S : Type 0} (Asked : S → ℕ → Reply → S → Type 0) (Fit : S → Type 0) → ((s t : S) (v : ℕ) (r : Reply) → Fit s → Asked s v r t → Fit t)
    → {s t : S} {xs : List Seen} → Fit s → Run Asked s xs t → Fit t
run_keeps Asked Fit keeps f (none) = f
run_keeps Asked Fit keeps f (one v r A R) = run_keeps Asked Fit keeps (keeps _ _ v r f A) R

-- the tally of window w in each record, where all records of the run fit
module _ {S : Type 0} (Asked : S → ℕ → Reply → S → Type 0) (w : ℕ) (Fit : S → Type 0) (tally : S → ℕ)
    (moves : (s t : S) (v : ℕ) (r : Reply) → Fit s → tally s ≤ max_tally → Asked s v r t → Fit t × (tally t ≡ min (tally s + own w v r) max_tally)) where
  run_moves : {s t : S} {xs : List Seen} → Fit s → tally s ≤ max_tally → Run Asked s xs t → tally t ≡ min (tally s + own_answered w xs) max_tally
  unfolding own_answered
  run_moves f l (none) = omega (arith, l)
  run_moves f l (one v r A R) =
      let m = moves _ _ v r f l A in
      let ih = run_moves m.0 (omega (arith, m.1)) R in
      omega (arith, ih, m.1)

-- ---- the desk's tallies

-- what passes is from a window
unfoldable pub Windowed : ℕ → Checked Answer → Type 0
Windowed v (passed a) = v < windows
Windowed v (refused r) = 0 < r.number

pub windowed : (v : ℕ) (x : Checked Answer) → NotZero x → Windowed v (check_window v x)
unfolding Windowed NotZero
windowed v x n = go (leb windows v) refl x n
  where
    go : (t : Bool) → leb windows v ≡ t → (y : Checked Answer) → NotZero y → Windowed v (refuse_if t 13 0 y)
    go true e y m = omega arith
    go false e (passed a) m = leb-false windows v e
    go false e (refused r) m = m

settled_length : (c : Checked Answer) (buffer : List ℕ) (v : ℕ) (ts : List ℕ) → length (settle c buffer v ts).tallies ≡ length ts
unfolding settle
settled_length (passed a) buffer v ts = length-set ts v (next_tally (get_or ts v 0))
settled_length (refused r) buffer v ts = refl

settled : (c : Checked Answer) (buffer : List ℕ) (v : ℕ) (ts : List ℕ) → Windowed v c → length ts ≡ windows → (w : ℕ) → w < windows → get_or ts w 0 ≤ max_tally
    → get_or (settle c buffer v ts).tallies w 0 ≡ min (get_or ts w 0 + own w v (settle c buffer v ts).reply) max_tally
unfolding settle Windowed
settled (passed a) buffer v ts h q w l m = go (same_or_not v w)
  where
    go : (v ≡ w) ⊎ (v ≢ w) → get_or (set ts v (next_tally (get_or ts v 0))) w 0 ≡ min (get_or ts w 0 + cond (eqb v w && true) 1 0) max_tally
    go (inl e) = rw (eq-eqb v w e) (rw e (get_or-set_same ts w (next_tally (get_or ts w 0)) 0 (omega (arith, l, q)) ∙ omega arith))
    go (inr n) = rw (ne_eqb v w n) (get_or-set_other ts v w (next_tally (get_or ts v 0)) 0 (λ e. n (sym e)) ∙ omega (arith, m))
settled (refused r) buffer v ts h q w l m = rw (ne_eqb r.number 0 (λ e. omega (arith, e, h))) (go (eqb v w))
  where
    go : (t : Bool) → get_or ts w 0 ≡ min (get_or ts w 0 + cond (t && false) 1 0) max_tally
    go true = omega (arith, m)
    go false = omega (arith, m)

asks_length : (s t : List ℕ) (v : ℕ) (r : Reply) → length s ≡ windows → Asks s v r t → length t ≡ windows
unfolding ask
asks_length s t v r f A = ap length A.leaves ∙ settled_length (check_window v (checked_answer A.bytes A.question A.buffer)) A.buffer v s ∙ f

asks_moves : (w : ℕ) → w < windows → (s t : List ℕ) (v : ℕ) (r : Reply) → length s ≡ windows → get_or s w 0 ≤ max_tally → Asks s v r t → (length t ≡ windows) × (get_or t w 0 ≡ min (get_or s w 0 + own w v r) max_tally)
unfolding ask
asks_moves w l s t v r f u A =
    let c = checked_answer A.bytes A.question A.buffer in
    let o = settled (check_window v c) A.buffer v s (windowed v c (checked_not_zero A.bytes A.question A.buffer)) f w l u in
    (asks_length s t v r f A, ap (λ (x : List ℕ). get_or x w 0) A.leaves ∙ o ∙ ap (λ (x : Reply). min (get_or s w 0 + own w v x) max_tally) (sym A.replies))

pub run_tallies : RunTallies
run_tallies ts ts' xs q R = (
  run_keeps Asks (λ s. length s ≡ windows) asks_length q R,
  λ w l m. run_moves Asks w (λ s. length s ≡ windows) (λ s. get_or s w 0) (asks_moves w l) q m R,
)

-- ---- the desk record as bytes

-- the bytes of other windows, and those beyond, stay
put_elsewhere : (d bs : List ℕ) (at j : ℕ) → at + 4 ≤ length d → length bs ≡ 4 → (j < at) ⊎ (at + 4 ≤ j) → get_or (take at d ++ (bs ++ drop 4 (drop at d))) j 0 ≡ get_or d j 0
put_elsewhere d bs at j h e (inl l) = get_or-append (take at d) (bs ++ drop 4 (drop at d)) 0 j (omega (arith, length-take at d)) ∙ get_or-take at d j 0 l
put_elsewhere d bs at j h e (inr l) =
    ap (λ (i : ℕ). get_or (take at d ++ (bs ++ drop 4 (drop at d))) i 0) (omega (arith, length-take at d))
    ∙ get_or-append-add (take at d) (bs ++ drop 4 (drop at d)) (length bs + (j - at - 4)) 0
    ∙ get_or-append-add bs (drop 4 (drop at d)) (j - at - 4) 0
    ∙ get_or-drop 4 (drop at d) (j - at - 4) 0 ∙ get_or-drop at d (4 + (j - at - 4)) 0
    ∙ ap (λ (i : ℕ). get_or d i 0) (omega arith)

tally_same : (d d' : List ℕ) (w : ℕ) → ((i : ℕ) → i < 4 → get_or d' (w * 4 + i) 0 ≡ get_or d (w * 4 + i) 0) → tally_at w d' ≡ tally_at w d
tally_same d d' w h = omega (arith, at 0 (omega arith), at 1 (omega arith), at 2 (omega arith), at 3 (omega arith))
  where
    at : (i : ℕ) → i < 4 → get_or (drop (w * 4) d') i 0 ≡ get_or (drop (w * 4) d) i 0
    at i l = get_or-drop (w * 4) d' i 0 ∙ h i l ∙ sym (get_or-drop (w * 4) d i 0)

module _ (d : List ℕ) (v w t : ℕ) (room : desk_length ≤ length d) (lv : v < windows) (lw : w < windows) where
  put_same : t ≤ max_tally → tally_at v (put_tally v t d) ≡ t
  put_same l =
      ap tally_in (drop_at (take (v * 4) d) (overwrite (tally_bytes t) (drop (v * 4) d)) (v * 4) (length-take-le (v * 4) d (omega (arith, room, lv))))
      ∙ tally_back t (drop 4 (drop (v * 4) d)) l

  put_other : v ≢ w → tally_at w (put_tally v t d) ≡ tally_at w d
  put_other n = tally_same d (put_tally v t d) w (λ i l. put_elsewhere d (tally_bytes t) (v * 4) (w * 4 + i) (omega (arith, room, lv)) refl (side i l))
    where
      side : (i : ℕ) → i < 4 → (w * 4 + i < v * 4) ⊎ (v * 4 + 4 ≤ w * 4 + i)
      side i l = go (less_or_not w v)
        where
          go : (w < v) ⊎ (v ≤ w) → (w * 4 + i < v * 4) ⊎ (v * 4 + 4 ≤ w * 4 + i)
          go (inl s) = inl (omega (arith, s, l))
          go (inr s) = inr (omega (arith, s, l, n))

-- what passes is from a window, and the record is long enough
Roomed : ℕ → List ℕ → Checked Answer → Type 0
Roomed v d (passed a) = (v < windows) × (desk_length ≤ length d)
Roomed v d (refused r) = 0 < r.number

roomed : (v : ℕ) (d : List ℕ) (x : Checked Answer) → NotZero x → Roomed v d (check_window v (check_desk x d))
unfolding Roomed NotZero check_desk and_then
roomed v d x n = go (leb windows v) refl x n
  where
    go : (t : Bool) → leb windows v ≡ t → (y : Checked Answer) → NotZero y → Roomed v d (refuse_if t 13 0 (check_desk y d))
    go true e y m = omega arith
    go false e (refused r) m = m
    go false e (passed a) m = at (ltb (length d) desk_length) refl
      where
        at : (t : Bool) → ltb (length d) desk_length ≡ t → Roomed v d (refuse_if t 12 0 (passed a))
        at true f = omega arith
        at false f = (leb-false windows v e, ltb-false (length d) desk_length f)

-- a record with its first part changed: windows of that part have their tallies there
tally_front : (z y : List ℕ) (w : ℕ) → w * 4 + 4 ≤ length z → tally_at w (z ++ y) ≡ tally_at w z
tally_front z y w l = tally_same z (z ++ y) w (λ i h. get_or-append z y 0 (w * 4 + i) (omega (arith, l, h)))

put-length : (d : List ℕ) (v t : ℕ) → desk_length ≤ length d → v < windows → length (put_tally v t d) ≡ length d
put-length d v t room l = simp (length-append, length-drop) (omega (arith, room, l, length-take-le (v * 4) d (omega (arith, room, l))))

-- the record d, of which x was lent and y was not
module _ (c : Checked Answer) (buffer : List ℕ) (v : ℕ) (x y : List ℕ) (h : Roomed v x c) where
  settled_bytes_length : length ((settle_bytes c buffer v x).desk ++ y) ≡ length (x ++ y)
  unfolding settle_bytes Roomed
  settled_bytes_length = length-append (settle_bytes c buffer v x).desk y ∙ ap (λ (k : ℕ). k + length y) (at c h) ∙ sym (length-append x y)
    where
      at : (e : Checked Answer) → Roomed v x e → length (settle_bytes e buffer v x).desk ≡ length x
      at (passed a) (lv, room) = put-length x v (next_tally (tally_at v x)) room lv
      at (refused r) g = refl

  settled_bytes : (w : ℕ) → w < windows → tally_at w (x ++ y) ≤ max_tally
      → tally_at w ((settle_bytes c buffer v x).desk ++ y) ≡ min (tally_at w (x ++ y) + own w v (settle_bytes c buffer v x).reply) max_tally
  unfolding settle_bytes Roomed
  settled_bytes w l = at c h
    where
      at : (e : Checked Answer) → Roomed v x e → tally_at w (x ++ y) ≤ max_tally
          → tally_at w ((settle_bytes e buffer v x).desk ++ y) ≡ min (tally_at w (x ++ y) + own w v (settle_bytes e buffer v x).reply) max_tally
      at (passed a) (lv, room) m =
          tally_front (put_tally v (next_tally (tally_at v x)) x) y w (omega (arith, l, room, put-length x v (next_tally (tally_at v x)) room lv))
          ∙ go (same_or_not v w)
          ∙ ap (λ (k : ℕ). min (k + cond (eqb v w && true) 1 0) max_tally) (sym front)
        where
          front : tally_at w (x ++ y) ≡ tally_at w x
          front = tally_front x y w (omega (arith, l, room))

          go : (v ≡ w) ⊎ (v ≢ w) → tally_at w (put_tally v (next_tally (tally_at v x)) x) ≡ min (tally_at w x + cond (eqb v w && true) 1 0) max_tally
          go (inl e) = rw (eq-eqb v w e) (rw e (put_same x w w (next_tally (tally_at w x)) room l l (omega arith) ∙ omega arith))
          go (inr n) = rw (ne_eqb v w n) (put_other x v w (next_tally (tally_at v x)) room lv l n ∙ omega (arith, m, front))
      at (refused r) g m = rw (ne_eqb r.number 0 (λ e. omega (arith, e, g))) (go (eqb v w))
        where
          go : (t : Bool) → tally_at w (x ++ y) ≡ min (tally_at w (x ++ y) + cond (t && false) 1 0) max_tally
          go true = omega (arith, m)
          go false = omega (arith, m)

-- what a question does to the record of which it is lent a part
module _ {s t : List ℕ} {v : ℕ} {r : Reply} (A : AsksBytes s v r t) where
  abbrev part : List ℕ
  part = take A.lent s

  abbrev checked : Checked Answer
  checked = check_window v (check_desk (checked_answer A.bytes A.question A.buffer) part)

  fits : Roomed v part checked
  fits = roomed v part (checked_answer A.bytes A.question A.buffer) (checked_not_zero A.bytes A.question A.buffer)

  both : part ++ drop A.lent s ≡ s
  both = take-append-drop A.lent s

  asks_bytes_length : length t ≡ length s
  unfolding ask_bytes
  asks_bytes_length = ap length A.leaves ∙ settled_bytes_length checked A.buffer v part (drop A.lent s) fits ∙ ap length both

  asks_bytes_moves : (w : ℕ) → w < windows → tally_at w s ≤ max_tally → tally_at w t ≡ min (tally_at w s + own w v r) max_tally
  unfolding ask_bytes
  asks_bytes_moves w l m =
      ap (tally_at w) A.leaves
      ∙ settled_bytes checked A.buffer v part (drop A.lent s) fits w l (rw both m)
      ∙ ap (λ (k : List ℕ). min (tally_at w k + own w v (settle_bytes checked A.buffer v part).reply) max_tally) both
      ∙ ap (λ (x : Reply). min (tally_at w s + own w v x) max_tally) (sym A.replies)

pub run_record : RunRecord
run_record d d' xs R = (
  run_keeps AsksBytes (λ s. length s ≡ length d) (λ s t v r f A. asks_bytes_length A ∙ f) refl R,
  λ w l m. run_moves AsksBytes w (λ _. Unit {0}) (λ s. tally_at w s) (λ s t v r f u A. (tt {0}, asks_bytes_moves A w l u)) (tt {0}) m R,
)
