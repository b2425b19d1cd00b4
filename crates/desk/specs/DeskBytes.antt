-- A question from a host that lends the desk record as bytes. Assumes nothing.
use Rattle.std.specs.Prelude.{Result, Ok, Err, IsErrAnd, ◌≡◌, refl, ◌⊎◌, ◌≢◌, Bool, true, false, List, [], ◌∷◌, ◌++◌, ℕ, ◌+◌, ◌*◌, ◌-◌, ◌≤◌, ◌<◌, ltb, length, get_or, take, drop, set}
use Rattle.std.proofs.Common.{sym, ◌∙◌, inl, inr, arith, length-set, length-drop, get_or-set_same, get_or-set_other, take_all, drop-drop}
use Rattle.std.proofs.Math.Path.{ap}
use Rattle.std.proofs.lemmas.Result.{err_from_is_err_and}
use Rattle.truss.specs.Limits.{windows, tally_length, desk_length}
use Rattle.truss.specs.Graph.{Graph}
use Rattle.truss.specs.Refusal.{Checked, passed, refused, refuse, refuse_if, and_then}
use Rattle.truss.specs.IndexFile.{read_index}
use Rattle.truss.specs.Question.{Question, Answer, answer}
use Rattle.truss.specs.Call.{Reply, Written, Asked, AskedBytes, with_room, answer_bytes, checked_answer, check_window, next_tally, settle, ask, tally_bytes, tally_in, tally_at, put_tally, settle_bytes, ask_bytes}
use Rattle.laws.proofs.Numbers.{same_or_not}
use Rattle.laws.proofs.Run.{NotZero, Windowed, windowed, checked_not_zero}
use Rattle.laws.proofs.Windows.{long_enough, too_short, window_first}
use Rattle.limits.specs.declared.refusal.Refusal.{Refusal}
use Rattle.limits.specs.declared.refusal.Refusal.TheVariants.{NoRoom}
use Rattle.limits.specs.Refusals.{number_of}
use Rattle.index.specs.declared.Reply.{Reply as CReply}
use Rattle.index.specs.Build.{reply_in}
use Rattle.index.specs.declared.answers.Answered.{Answered}
use Rattle.index.specs.Answered.{reply_of, number_not_0}
use Rattle.wire.specs.Writing.{written, written-part, back}
use Rattle.question.specs.Replies.{given, given_back}
use Rattle.question.specs.Answer.{FromGives}
use Rattle.desk.specs.declared.Desk.{Desk}
use Rattle.desk.specs.Desk.{AskGives, from_not_zero}

abbrev pub asked_bytes : Reply → List ℕ → List ℕ → AskedBytes
asked_bytes r out desk = record { reply = r; buffer = out; desk = desk }

-- THE PROMISE of a question with a desk record of bytes: reply and every byte of buffer and record are what the definition gives
abbrev pub AskBytesGives : List ℕ → Question → List ℕ → ℕ → List ℕ → Result Answered Refusal → List ℕ → List ℕ → Type 0
AskBytesGives b q out w desk r out' desk' = asked_bytes (reply_of r) out' desk' ≡ ask_bytes b q out w desk

-- the same of a reply to a C host
abbrev pub AskBytesReplies : List ℕ → Question → List ℕ → ℕ → List ℕ → CReply → List ℕ → List ℕ → Type 0
AskBytesReplies b q out w desk r out' desk' = asked_bytes (reply_in r) out' desk' ≡ ask_bytes b q out w desk

-- ---- the tallies of a record

-- those of the windows below i are the ones of their four bytes
pub record TalliesTo (desk : List ℕ) (i : ℕ) (ts : List ℕ) : Type 0 where
  pub count : length ts ≡ windows
  pub each : (w : ℕ) → w < i → get_or ts w 0 ≡ tally_at w desk

abbrev pub TalliesOf : List ℕ → List ℕ → Type 0
TalliesOf desk ts = TalliesTo desk windows ts

module _ (desk : List ℕ) where
  pub no_tallies : (ts : List ℕ) → length ts ≡ windows → TalliesTo desk 0 ts
  no_tallies ts q = record { count = q; each = λ w l. absurd (omega (arith, l)) }

  -- window i's is read from what stands at its place on
  pub tallies_next : {i : ℕ} {ts : List ℕ} (t : ℕ) → TalliesTo desk i ts → i < windows → i * tally_length ≤ length desk → t ≡ tally_in (take (length desk - i * tally_length) (drop (i * tally_length) desk))
      → TalliesTo desk (i + 1) (set ts i t)
  tallies_next {i} {ts} t T l room q = record { count = length-set ts i t ∙ T.count; each = λ w h. go w h (same_or_not w i) }
    where
      go : (w : ℕ) → w < i + 1 → (w ≡ i) ⊎ (w ≢ i) → get_or (set ts i t) w 0 ≡ tally_at w desk
      go w h (inl e) = rw e (get_or-set_same ts i t 0 (omega (arith, l, T.count)) ∙ q ∙ ap tally_in (take_all (length desk - i * 4) (drop (i * 4) desk) (simp length-drop (omega arith))))
      go w h (inr n) = get_or-set_other ts i w t 0 n ∙ T.each w (omega (arith, h, n))

-- the bytes of a tally, written at the start of the part that begins at its place
pub tally_put : (desk : List ℕ) (w t : ℕ) {rec ys : List ℕ} → w * tally_length ≤ length desk → rec ≡ tally_bytes t → ys ≡ written (take (length desk - w * tally_length) (drop (w * tally_length) desk)) 0 rec
    → back desk (w * tally_length) ys ≡ put_tally w t desk
unfolding written
tally_put desk w t {rec} {ys} room e q =
    rw (q, e) (written-part desk (w * 4) (length desk - w * 4) (tally_bytes t) (omega arith) ∙ ap (λ (x : List ℕ). take (w * 4) desk ++ (tally_bytes t ++ x)) (sym (drop-drop 4 (w * 4) desk)))

-- ---- a record that is long enough

-- from what the desk that was read from the record gives: refused, the record stays
kept_bytes : (x : Checked Answer) (out : List ℕ) (w : ℕ) (desk ts : List ℕ) (g : Refusal) {out' ts' : List ℕ} → ◌≡◌ {A = Asked} (record { reply = reply_of (Err g); buffer = out'; tallies = ts' }) (settle x out w ts)
    → asked_bytes (reply_of (Err g)) out' desk ≡ settle_bytes x out w desk
unfolding settle settle_bytes reply_of
kept_bytes (passed a) out w desk ts g q = absurd (number_not_0 g (ap (λ (y : Asked). y.reply.refusal) q))
kept_bytes (refused x) out w desk ts g q =
    let e = ap (λ (y : Asked). y.reply) q in
    let f = ap (λ (y : Asked). y.buffer) q in
    λ i. record { reply = e i; buffer = f i; desk = desk }

-- answered, it was asked by a window, whose tally is all that is written
moved_bytes : (x : Checked Answer) (out : List ℕ) (w : ℕ) (desk ts : List ℕ) → Windowed w x → TalliesOf desk ts → (a : Answered) {out' ts' : List ℕ}
    → ◌≡◌ {A = Asked} (record { reply = reply_of (Ok a); buffer = out'; tallies = ts' }) (settle x out w ts)
    → (w < windows) × ((desk' : List ℕ) → desk' ≡ put_tally w (get_or ts' w 0) desk → asked_bytes (reply_of (Ok a)) out' desk' ≡ settle_bytes x out w desk)
unfolding settle settle_bytes Windowed reply_of
moved_bytes (passed x) out w desk ts n T a {out'} {ts'} q =
    let e = ap (λ (y : Asked). y.reply) q in
    let f = ap (λ (y : Asked). y.buffer) q in
    let t : get_or ts' w 0 ≡ next_tally (tally_at w desk) =
    ap (λ (y : Asked). get_or y.tallies w 0) q ∙ get_or-set_same ts w (next_tally (get_or ts w 0)) 0 (omega (arith, n, T.count)) ∙ ap next_tally (T.each w n) in
    (n, (λ desk' u. let v = u ∙ ap (λ (k : ℕ). put_tally w k desk) t in λ i. record { reply = e i; buffer = f i; desk = v i }))
moved_bytes (refused x) out w desk ts n T a q =
    let z = ap (λ (y : Asked). y.reply.refusal) q in
    absurd (omega (arith, z, n))

module _ (b : List ℕ) (q : Question) (out : List ℕ) (w : ℕ) (desk : List ℕ) (l : desk_length ≤ length desk) where
  to_record : settle_bytes (check_window w (checked_answer b q out)) out w desk ≡ ask_bytes b q out w desk
  unfolding ask_bytes
  to_record = ap (λ (x : Checked Answer). settle_bytes (check_window w x) out w desk) (sym (long_enough (checked_answer b q out) desk l))

  -- what `?` hands on
  pub desk_stays : (r : Result Answered Refusal) (f : Refusal) (d e : Desk) {out' : List ℕ} → IsErrAnd r (λ x. x ≡ f) → AskGives d b q out w (Err f) out' e → AskBytesGives b q out w desk r out' desk
  unfolding ask
  desk_stays r f d e h A =
      let p = err_from_is_err_and r h in
      rw (p.1, p.2) (kept_bytes (check_window w (checked_answer b q out)) out w desk d.tallies f A ∙ to_record)

  module _ {d e : Desk} (T : TalliesOf desk d.tallies) (a : Answered) {out' : List ℕ} (A : AskGives d b q out w (Ok a) out' e) where
    moved : (w < windows) × ((desk' : List ℕ) → desk' ≡ put_tally w (get_or e.tallies w 0) desk → asked_bytes (reply_of (Ok a)) out' desk' ≡ settle_bytes (check_window w (checked_answer b q out)) out w desk)
    unfolding ask
    moved = moved_bytes (check_window w (checked_answer b q out)) out w desk d.tallies (windowed w (checked_answer b q out) (checked_not_zero b q out)) T a A

    -- what is answered was asked by a window
    pub asked_below : w < windows
    asked_below = moved.0

    -- the window's tally was put in its place
    pub desk_moves : {desk' : List ℕ} → desk' ≡ put_tally w (get_or e.tallies w 0) desk → AskBytesGives b q out w desk (Ok a) out' desk'
    desk_moves {desk'} u = moved.1 desk' u ∙ to_record

-- ---- one that is too short: 12, if nothing else is met; so an empty buffer tells as much

no_room_12 : (x : Checked Answer) (t u : Answer → Bool) → and_then (and_then x (λ a. refuse_if (t a) 12 0 (passed a))) (λ _. refuse 12 0) ≡ and_then (and_then x (λ a. refuse_if (u a) 12 0 (passed a))) (λ _. refuse {A = Answer} 12 0)
unfolding and_then
no_room_12 (passed a) t u = go (t a) (u a)
  where
    go : (v w : Bool) → and_then (refuse_if v 12 0 (passed a)) (λ _. refuse 12 0) ≡ and_then (refuse_if w 12 0 (passed a)) (λ _. refuse {A = Answer} 12 0)
    go true true = refl
    go true false = refl
    go false true = refl
    go false false = refl
no_room_12 (refused r) t u = refl

short_same : (b : List ℕ) (q : Question) (out : List ℕ) → and_then (checked_answer b q out) (λ _. refuse 12 0) ≡ and_then (checked_answer b q []) (λ _. refuse {A = Answer} 12 0)
unfolding checked_answer
short_same b q out = go (read_index b)
  where
    go : (x : Checked Graph) → and_then (and_then x (λ G. and_then (answer G q) (λ a. with_room (answer_bytes a) out a))) (λ _. refuse 12 0)
        ≡ and_then (and_then x (λ G. and_then (answer G q) (λ a. with_room (answer_bytes a) [] a))) (λ _. refuse {A = Answer} 12 0)
    go (passed G) = no_room_12 (answer G q) (λ a. ltb (length out) (length (answer_bytes a))) (λ a. ltb 0 (length (answer_bytes a)))
    go (refused r) = refl

refused_before : (x : Checked Answer) (g : Refusal) (out : List ℕ) {out' : List ℕ} (w : ℕ) (desk : List ℕ) → given_back (Err g) out' ≡ given x []
    → asked_bytes (reply_of (Err g)) out desk ≡ settle_bytes (and_then x (λ _. refuse 12 0)) out w desk
unfolding given settle_bytes and_then reply_of
refused_before (passed a) g out w desk q = absurd (number_not_0 g (ap (λ (y : Written). y.reply.refusal) q))
refused_before (refused x) g out w desk q = let e = ap (λ (y : Written). y.reply) q in λ i. record { reply = e i; buffer = out; desk = desk }

refused_last : (x : Checked Answer) → NotZero x → (a : Answered) (out : List ℕ) {out' : List ℕ} (w : ℕ) (desk : List ℕ) → given_back (Ok a) out' ≡ given x []
    → asked_bytes (reply_of (Err NoRoom)) out desk ≡ settle_bytes (and_then x (λ _. refuse 12 0)) out w desk
unfolding given settle_bytes NotZero and_then reply_of number_of
refused_last (passed x) n a out w desk q = refl
refused_last (refused x) n a out w desk q =
    let z = ap (λ (y : Written). y.reply.refusal) q in
    absurd (omega (arith, z, n))

-- what a record that is too short gives, whatever it and the buffer hold: both stay
abbrev pub ShortGives : List ℕ → Question → ℕ → Result Answered Refusal → Type 0
ShortGives b q w r = (out desk : List ℕ) → length desk < desk_length → AskBytesGives b q out w desk r out desk

module _ (b : List ℕ) (q : Question) (w : ℕ) where
  short_is : (out desk : List ℕ) → length desk < desk_length → ask_bytes b q out w desk ≡ settle_bytes (and_then (check_window w (checked_answer b q [])) (λ _. refuse 12 0)) out w desk
  unfolding ask_bytes
  short_is out desk l = ap (λ (x : Checked Answer). settle_bytes x out w desk) (ap (check_window w) (too_short (checked_answer b q out) desk l ∙ short_same b q out) ∙ window_first w (checked_answer b q []))

  -- what `?` hands on
  pub short_refused : (r : Result Answered Refusal) (f : Refusal) {out' : List ℕ} → IsErrAnd r (λ x. x ≡ f) → FromGives b q [] w (Err f) out' → ShortGives b q w r
  short_refused r f h A out desk l =
      let p = err_from_is_err_and r h in
      rw (p.1, p.2) (refused_before (check_window w (checked_answer b q [])) f out w desk A ∙ sym (short_is out desk l))

  pub short_12 : (a : Answered) {out' : List ℕ} → FromGives b q [] w (Ok a) out' → ShortGives b q w (Err NoRoom)
  short_12 a A out desk l = refused_last (check_window w (checked_answer b q [])) (from_not_zero b q [] w) a out w desk A ∙ sym (short_is out desk l)

-- an empty buffer comes back empty
pub nothing_back : (b : List ℕ) (q : Question) (w : ℕ) (desk : List ℕ) (r : Result Answered Refusal) (ys : List ℕ) {desk' : List ℕ} → length ys ≡ 0 → AskBytesGives b q [] w desk r ys desk' → AskBytesGives b q [] w desk r [] desk'
nothing_back b q w desk r [] z A = A
nothing_back b q w desk r (y ∷ ys) z A = absurd (omega arith)
