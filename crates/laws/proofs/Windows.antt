-- What the window and the record as bytes have to do with a question: 13 and nothing else; what the tallies have to do with it, and nothing else.
use mathlib.Core.Path.{◌≡◌, refl, ap, ◌∙◌}
use mathlib.Core.Bool.{Bool, true, false, cond}
use mathlib.Core.List.{List, [], ◌∷◌, ◌++◌}
use Prim.Native.Nat.{ℕ, zero, suc, ◌*◌, ◌≤◌, ◌<◌}
use native.Mathlib.Omega.{arith}
use lib.Dec.{eqb, leb}
use lib.ListN.{length, get_or, set, length-append}
use borrow.Author.Tests.{le-leb, lt-leb, le-ltb, lt-ltb, ne_eqb}
use Rattle.truss.specs.Limits.{windows, max_tally, tally_length, desk_length}
use Rattle.truss.specs.Lists.{concat_map}
use Rattle.truss.specs.Refusal.{Checked, passed, refused, refuse, refuse_if, and_then}
use Rattle.truss.specs.Question.{Answer}
use Rattle.truss.specs.Call.{AskedBytes, checked_answer, check_window, check_desk, next_tally, settle, ask, tally_bytes, tally_at, put_tally, settle_bytes, ask_bytes}
use Rattle.truss.specs.Windows.{refused_by, record_of, WindowRule, RecordRule}
use Rattle.laws.proofs.Answers.{tally_back}
use Rattle.laws.proofs.Run.{NotZero, if_not_zero, checked_not_zero, Windowed, windowed}

-- ---- the window

same_answer : (c : Checked Answer) (buffer : List ℕ) (v w : ℕ) (ts us : List ℕ)
    → ((settle c buffer v ts).reply ≡ (settle c buffer w us).reply) × ((settle c buffer v ts).buffer ≡ (settle c buffer w us).buffer)
unfolding settle
same_answer (passed a) buffer v w ts us = (refl, refl)
same_answer (refused r) buffer v w ts us = (refl, refl)

pub window_rule : WindowRule
unfolding ask settle
window_rule = record {
  above = λ bytes q buffer w tallies l. rw (le-leb windows w l, settle) refl;
  within = λ bytes q buffer v w ts us l m. rw (lt-leb windows v l, lt-leb windows w m) (same_answer (checked_answer bytes q buffer) buffer v w ts us);
}

-- ---- a record that is long enough, and one that is not

pub long_enough : (x : Checked Answer) (desk : List ℕ) → desk_length ≤ length desk → check_desk x desk ≡ x
unfolding check_desk and_then
long_enough (passed a) desk l = rw (le-ltb (length desk) desk_length l) refl
long_enough (refused r) desk l = refl

pub too_short : (x : Checked Answer) (desk : List ℕ) → length desk < desk_length → check_desk x desk ≡ and_then x (λ _. refuse 12 0)
unfolding check_desk and_then
too_short (passed a) desk l = rw (lt-ltb (length desk) desk_length l) refl
too_short (refused r) desk l = refl

-- 13 is ahead of the 12 either way
pub window_first : (w : ℕ) (x : Checked Answer) → check_window w (and_then x (λ _. refuse 12 0)) ≡ and_then (check_window w x) (λ _. refuse {A = Answer} 12 0)
unfolding and_then
window_first w x = go (leb windows w)
  where
    go : (t : Bool) → refuse_if t 13 0 (and_then x (λ _. refuse 12 0)) ≡ and_then (refuse_if t 13 0 x) (λ _. refuse {A = Answer} 12 0)
    go true = refl
    go false = refl

short_settled : (x : Checked Answer) → NotZero x → (buffer : List ℕ) (w : ℕ) (ts desk : List ℕ)
    → ◌≡◌ {A = AskedBytes} (settle_bytes (and_then x (λ _. refuse 12 0)) buffer w desk) (record { reply = cond (eqb (settle x buffer w ts).reply.refusal 0) (refused_by 12) (settle x buffer w ts).reply; buffer = buffer; desk = desk })
unfolding settle settle_bytes and_then NotZero
short_settled (passed a) n buffer w ts desk = refl
short_settled (refused r) n buffer w ts desk = rw (ne_eqb r.number 0 (λ e. omega (arith, e, n))) refl

-- ---- the tallies, four bytes each, in window order

record_length_lem : (ts : List ℕ) → length (record_of ts) ≡ length ts * tally_length
unfolding concat_map
record_length_lem [] = refl
record_length_lem (t ∷ ts) = let ih = record_length_lem ts in omega (arith, ih)

tally_there : (ts rest : List ℕ) (w : ℕ) → w < length ts → get_or ts w 0 ≤ max_tally → tally_at w (record_of ts ++ rest) ≡ get_or ts w 0
unfolding concat_map
tally_there [] rest w l m = absurd (omega (arith, l))
tally_there (t ∷ ts) rest zero l m = tally_back t (record_of ts ++ rest) m
tally_there (t ∷ ts) rest (suc w) l m =
    let e : suc w * 4 ≡ suc (suc (suc (suc (w * 4)))) = omega arith in
    rw e (tally_there ts rest w (omega (arith, l)) m)

put_there : (ts rest : List ℕ) (w x : ℕ) → w < length ts → put_tally w x (record_of ts ++ rest) ≡ record_of (set ts w x) ++ rest
unfolding concat_map
put_there [] rest w x l = absurd (omega (arith, l))
put_there (t ∷ ts) rest zero x l = refl
put_there (t ∷ ts) rest (suc w) x l =
    let e : suc w * 4 ≡ suc (suc (suc (suc (w * 4)))) = omega arith in
    rw e (ap (λ (y : List ℕ). tally_bytes t ++ y) (put_there ts rest w x (omega (arith, l))))

whole_settled : (c : Checked Answer) (buffer : List ℕ) (w : ℕ) (ts rest : List ℕ) → Windowed w c → length ts ≡ windows → ((v : ℕ) → v < windows → get_or ts v 0 ≤ max_tally)
    → ◌≡◌ {A = AskedBytes} (settle_bytes c buffer w (record_of ts ++ rest)) (record { reply = (settle c buffer w ts).reply; buffer = (settle c buffer w ts).buffer; desk = record_of (settle c buffer w ts).tallies ++ rest })
unfolding settle settle_bytes Windowed
whole_settled (passed a) buffer w ts rest n q m =
    rw (tally_there ts rest w (omega (arith, n, q)) (m w n), put_there ts rest w (next_tally (get_or ts w 0)) (omega (arith, n, q))) refl
whole_settled (refused r) buffer w ts rest n q m = refl

pub record_rule : RecordRule
unfolding ask ask_bytes
record_rule = record {
  whole = λ bytes q buffer w ts rest k m.
      let x = checked_answer bytes q buffer in
      let l : desk_length ≤ length (record_of ts ++ rest) = omega (arith, length-append (record_of ts) rest, record_length_lem ts, k) in
      ap (λ (y : Checked Answer). settle_bytes (check_window w y) buffer w (record_of ts ++ rest)) (long_enough x (record_of ts ++ rest) l)
      ∙ whole_settled (check_window w x) buffer w ts rest (windowed w x (checked_not_zero bytes q buffer)) k m;
  short = λ bytes q buffer w ts desk l.
      let x = checked_answer bytes q buffer in
      ap (λ (y : Checked Answer). settle_bytes y buffer w desk) (ap (check_window w) (too_short x desk l) ∙ window_first w x)
      ∙ short_settled (check_window w x) (if_not_zero (leb windows w) 13 x (omega arith) (checked_not_zero bytes q buffer)) buffer w ts desk;
}
