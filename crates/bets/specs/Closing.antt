-- THE THEOREM of a limit that was tried, of calls by their promises: a group's closing margin is the last limit less its accounts' taken bets, read from the records and from the two buffers after the
-- call, and not from stored sums. Assumes nothing.
use Rattle.std.specs.Prelude.{Result, Ok, ◌≡◌, Bool, ◌⊎◌, List, map, ℕ, ◌*◌, ◌/◌, ◌≤◌, ◌<◌, get_or, ℤ, pos, ◌-ℤ◌}
use Rattle.std.proofs.Common.{sym, ◌∙◌, subst, inl, inr, arith}
use Rattle.std.proofs.Math.Path.{ap}
use Rattle.std.proofs.Math.ListN.{length}
use Rattle.std.proofs.lemmas.List.{length-map}
use Rattle.truss.specs.Limits.{margin_length}
use Rattle.truss.specs.Graph.{Graph}
use Rattle.truss.specs.Lists.{range}
use Rattle.truss.specs.Refusal.{passed}
use Rattle.truss.specs.IndexFile.{read_index}
use Rattle.truss.specs.Call.{Reply}
use Rattle.truss.specs.Question.{empty_group, holds}
use Rattle.truss.specs.Bets.{DayRecord, limit_after, stakes_taken, groups_of, Tried, try_limit, records_in, margin_at, try_limit_bytes}
use Rattle.truss.specs.Trial.{RecordFault, DayFault, level, many, opened, recorded, outside, stake, NoFault}
use Rattle.truss.specs.Trial.{limit as over-limit}
use Rattle.laws.proofs.Members.{range_length}
use Rattle.laws.proofs.Numbers.{less_or_not}
use Rattle.laws.proofs.Trial.{trial_rule}
use Rattle.limits.specs.declared.refusal.Refusal.{Refusal}
use Rattle.limits.specs.Refusals.{checked}
use Rattle.index.specs.declared.Reply.{Reply as CReply}
use Rattle.index.specs.Build.{reply_in, reply_of}
use Rattle.trial.specs.Trial.{BytesGives, BytesReplies}
use Rattle.bets.specs.Limit.{record_of, LimitGives}
use Rattle.bets.specs.declared.Bet.{Bet}

-- a fault has a number
record_number : {G : Graph} {x : DayRecord} {r : ℕ} → RecordFault G x r → 0 < r
record_number (outside o) = omega arith
record_number (stake o s) = omega arith
record_number (over-limit o) = omega arith

fault_number : {G : Graph} {k opening : ℕ} {rs : List DayRecord} {r : ℕ} → DayFault G k opening rs r → 0 < r
fault_number (level n) = omega arith
fault_number (many l m) = omega arith
fault_number (opened l m n) = omega arith
fault_number (recorded l m n i li before f) = record_number f

-- a call that is done has no fault, and room
module _ (index : List ℕ) (k opening : ℕ) (rs : List DayRecord) (taken : List ℕ) (margins : List ℤ) {G : Graph} (e : read_index index ≡ passed G) where
  refusal : Tried ℤ → ℕ
  refusal t = t.reply.refusal

  done_fits : (try_limit index k opening rs taken margins).reply.refusal ≡ 0 → NoFault G k opening rs × (length rs ≤ length taken) × (length (groups_of G k) ≤ length margins)
  unfolding refusal
  done_fits z = go (trial_rule.fault_or_none G k opening rs)
    where
      room : NoFault G k opening rs → (length taken < length rs) ⊎ (length rs ≤ length taken) → (length margins < length (groups_of G k)) ⊎ (length (groups_of G k) ≤ length margins)
          → NoFault G k opening rs × (length rs ≤ length taken) × (length (groups_of G k) ≤ length margins)
      room F (inl l) m = absurd (omega (arith, z, ap refusal (trial_rule.short index G k opening rs taken margins e F (inl l))))
      room F (inr l) (inl m) = absurd (omega (arith, z, ap refusal (trial_rule.short index G k opening rs taken margins e F (inr m))))
      room F (inr l) (inr m) = (F, l, m)

      go : ((r : ℕ) × DayFault G k opening rs r) ⊎ NoFault G k opening rs → NoFault G k opening rs × (length rs ≤ length taken) × (length (groups_of G k) ≤ length margins)
      go (inl (r, F)) = absurd (omega (arith, fault_number F, z, ap refusal (trial_rule.faulty index G k opening rs taken margins r e F)))
      go (inr F) = room F (less_or_not (length taken) (length rs)) (less_or_not (length margins) (length (groups_of G k)))

-- the group of a place among those at k, as a test of accounts
abbrev pub holds_at : Graph → ℕ → ℕ → ℕ → Bool
holds_at G k j = holds G (get_or (groups_of G k) j empty_group)

-- what is done has the refusal 0
done_0 : {r : Result ℕ Refusal} {v : ℕ} → r ≡ Ok v → (reply_of (checked r)).refusal ≡ 0
unfolding reply_of checked
done_0 q = ap (λ x. (reply_of (checked x)).refusal) q

-- with records as structs and margins as numbers: `bets::try_limit`
pub library_closing : (index : List ℕ) (bs : List Bet) (k limit : ℕ) (taken : List ℕ) (margins : List ℤ) (r : Result ℕ Refusal) {v : ℕ} (taken' : List ℕ) (margins' : List ℤ) {G : Graph} → read_index index ≡ passed G
    → LimitGives index bs k limit taken margins r taken' margins' → r ≡ Ok v → (j : ℕ) → j < length (groups_of G k)
    → get_or margins' j (pos 0) ≡ pos (limit_after limit (map record_of bs)) -ℤ pos (stakes_taken (holds_at G k j) (map record_of bs) taken')
library_closing index bs k limit taken margins r taken' margins' {G} e g q j l =
    let F = done_fits index k limit (map record_of bs) taken margins e (sym (ap (λ (t : Tried ℤ). t.reply.refusal) g) ∙ done_0 q) in
    let C = trial_rule.closes index G k limit (map record_of bs) taken margins e F.0 F.1 F.2 in
    subst (λ (t : Tried ℤ). get_or t.margins j (pos 0) ≡ pos (limit_after limit (map record_of bs)) -ℤ pos (stakes_taken (holds_at G k j) (map record_of bs) t.taken)) (sym g) (C.closing j l)

-- from C, from the eight bytes read back as a signed number
closing_bytes : (index records : List ℕ) (k limit : ℕ) (taken margins : List ℕ) (r : Reply) (taken' margins' : List ℕ) {G : Graph} → read_index index ≡ passed G
    → record { reply = r; taken = taken'; margins = margins' } ≡ try_limit_bytes index k limit records taken margins → r.refusal ≡ 0 → (j : ℕ) → j < length (groups_of G k)
    → margin_at margins' (j * margin_length) ≡ pos (limit_after limit (records_in records)) -ℤ pos (stakes_taken (holds_at G k j) (records_in records) taken')
closing_bytes index records k limit taken margins r taken' margins' {G} e g z j l =
    let zs : List ℤ = map (λ i. pos 0) (range 0 (length margins / margin_length)) in
    let n : length zs ≡ length margins / margin_length = length-map (range 0 (length margins / margin_length)) (λ i. pos 0) ∙ range_length 0 (length margins / margin_length) in
    let same = (trial_rule.as_bytes index k limit records taken margins zs n).0 in
    let F = done_fits index k limit (records_in records) taken zs e (sym (ap (λ (x : Reply). x.refusal) same) ∙ sym (ap (λ (t : Tried ℕ). t.reply.refusal) g) ∙ z) in
    let C = trial_rule.closes_bytes index G k limit records taken margins e F.0 F.1 (omega (arith, F.2, n)) in
    subst (λ (t : Tried ℕ). margin_at t.margins (j * margin_length) ≡ pos (limit_after limit (records_in records)) -ℤ pos (stakes_taken (holds_at G k j) (records_in records) t.taken)) (sym g) (C.closing j l)

-- of `bets::bytes::try_bytes`
pub library_closing_bytes : (index records : List ℕ) (k limit : ℕ) (taken margins : List ℕ) (r : Result ℕ Refusal) {v : ℕ} (taken' margins' : List ℕ) {G : Graph} → read_index index ≡ passed G
    → BytesGives index records k limit taken margins r taken' margins' → r ≡ Ok v → (j : ℕ) → j < length (groups_of G k)
    → margin_at margins' (j * margin_length) ≡ pos (limit_after limit (records_in records)) -ℤ pos (stakes_taken (holds_at G k j) (records_in records) taken')
library_closing_bytes index records k limit taken margins r taken' margins' e g q j l = closing_bytes index records k limit taken margins (reply_of (checked r)) taken' margins' e g (done_0 q) j l

-- and of a reply to a C host: `fe_try_limit`
pub host_closing_bytes : (index records : List ℕ) (k limit : ℕ) (taken margins : List ℕ) (r : CReply) (taken' margins' : List ℕ) {G : Graph} → read_index index ≡ passed G
    → BytesReplies index records k limit taken margins r taken' margins' → r.refusal ≡ 0 → (j : ℕ) → j < length (groups_of G k)
    → margin_at margins' (j * margin_length) ≡ pos (limit_after limit (records_in records)) -ℤ pos (stakes_taken (holds_at G k j) (records_in records) taken')
host_closing_bytes index records k limit taken margins r taken' margins' e g z j l = closing_bytes index records k limit taken margins (reply_in r) taken' margins' e g z j l
