-- Reading an index: what the reader writes. Assumes nothing.
use Rattle.std.specs.Prelude.{Result, Ok, Err, ◌≡◌, ℕ, ◌+◌, ◌*◌, ◌≤◌, ◌<◌, length}
use Rattle.std.proofs.Math.Path.{refl, sym, ap, ap₂}
use Rattle.std.proofs.Common.{◌∙◌, arith, length-append, lt-ltb, le-ltb}
use mathlib.Core.List.{List, ◌++◌, append_assoc}
use Rattle.std.proofs.Math.ListN.{drop}
use Rattle.truss.specs.Graph.{Pair, graph_of}
use Rattle.truss.specs.Refusal.{passed, refuse, and_then, map_passed}
use Rattle.truss.specs.Record.{kind_head, kind_index_head, head_bytes, end_bytes}
use Rattle.truss.specs.LinksFile.{read_head, pair_bytes, write_links, pairs_of, read_back}
use Rattle.truss.specs.Index.{index_bytes}
use Rattle.truss.specs.IndexFile.{read_index}
use Rattle.truss.specs.Call.{Written, done, write, check_room, read}
use Rattle.wire.specs.Writing.{written, written_start, up_to, up_to_rows, up_to_length}
use Rattle.limits.specs.declared.refusal.Refusal.{Refusal}
use Rattle.limits.specs.declared.refusal.Refusal.TheVariants.{NoIndex, NoRoom}
use Rattle.limits.specs.Refusals.{number_of, checked}
use Rattle.index.specs.declared.Reply.{Reply as CReply}
use Rattle.index.specs.Build.{given_back, replied, reply_of}
use Rattle.index.specs.Strong.{strong_pair, AllStrong}
use Rattle.index.specs.Open.{pairs_in, pairs_count, pairs_of_index, pairs_accepted, takes, whole_strong}

-- THE PROMISE of a reading: its result and every byte of the lent buffer are what the definition gives
abbrev pub ReadGives : List ℕ → List ℕ → Result ℕ Refusal → List ℕ → Type 0
ReadGives bytes lent r after = given_back (checked r) after ≡ read bytes lent

-- the same of a reply
abbrev pub ReadReplies : List ℕ → List ℕ → CReply → List ℕ → Type 0
ReadReplies bytes lent r after = replied r after ≡ read bytes lent

-- strong link i read back as a plain one
abbrev pub back_bytes : List ℕ → ℕ → List ℕ
back_bytes b i = pair_bytes (strong_pair b i)

-- room for m strong links
pub record StrongFit (b : List ℕ) (m : ℕ) : Type 0 where
  pub few : m ≤ 65535
  pub each : (i : ℕ) → i < m → 13 + 8 * i ≤ length b

pub strong_fit : {b : List ℕ} {n m : ℕ} → m ≤ 65535 → AllStrong b n m → StrongFit b m
strong_fit {b} few A = record { few = few; each = λ i l. omega (arith, whole_strong b (5 + 8 * i) (A.each i l).is_whole) }

-- the links file that is read back
module _ (b : List ℕ) (n m : ℕ) (head : read_head kind_index_head b ≡ passed (record { n = n; m = m })) (A : AllStrong b n m) where
  back_is : b ≡ index_bytes (graph_of n (pairs_in b m)) → read_back (graph_of n (pairs_in b m)) ≡ (head_bytes kind_head n m ++ up_to (back_bytes b) m) ++ end_bytes
  unfolding read_back write_links graph_of
  back_is q =
      let ps : List Pair = pairs_in b m in
      let same : pairs_of (graph_of n ps) ≡ ps = sym (pairs_of_index n ps (pairs_accepted b n m head A)) ∙ ap₂ pairs_in (sym q) (pairs_count b m) in
      ap (write_links n) same ∙ rw (pairs_count b m, ← up_to_rows pair_bytes (strong_pair b) m) (sym (append_assoc (head_bytes kind_head n m) (up_to (back_bytes b) m) end_bytes))

module _ (b out : List ℕ) where
  pub read_refused : read_index b ≡ refuse 7 0 → ReadGives b out (Err NoIndex) out
  unfolding read map_passed check_room and_then write checked reply_of number_of
  read_refused q = rw (q, map_passed, check_room, and_then, write) refl

  module _ (n m : ℕ) (head : read_head kind_index_head b ≡ passed (record { n = n; m = m })) (A : AllStrong b n m) (q : b ≡ index_bytes (graph_of n (pairs_in b m))) where
    abbrev pub file : List ℕ
    file = (head_bytes kind_head n m ++ up_to (back_bytes b) m) ++ end_bytes

    back : read_back (graph_of n (pairs_in b m)) ≡ file
    back = back_is b n m head A q

    pub file-length : length file ≡ 6 + 5 * m
    file-length =
        length-append (head_bytes kind_head n m ++ up_to (back_bytes b) m) end_bytes
        ∙ omega (arith, length-append (head_bytes kind_head n m) (up_to (back_bytes b) m), up_to_length (back_bytes b) 5 (λ i. refl) m)

    here : read b out ≡ write (check_room (passed file) out) out
    unfolding read map_passed
    here = rw (takes b n m head A q, map_passed) (ap {B = Written} (λ (x : List ℕ). write (check_room (passed x) out) out) back)

    pub read_no_room : length out < 6 + m * 5 → ReadGives b out (Err NoRoom) out
    unfolding check_room and_then write checked reply_of number_of
    read_no_room l =
        let e : given_back (checked (Err NoRoom)) out ≡ write (check_room (passed file) out) out = rw (lt-ltb (length out) (length file) (omega (arith, file-length))) refl in
        e ∙ sym here

    pub read-wrote : {out' : List ℕ} → 6 + m * 5 ≤ length out → out' ≡ written out 0 file → ReadGives b out (Ok (6 + m * 5)) out'
    unfolding check_room and_then write checked reply_of
    read-wrote {out'} l w =
        let e : out' ≡ file ++ drop (length file) out = w ∙ written_start out file in
        let v : done (6 + m * 5) ≡ done (length file) = ap done (sym (file-length ∙ omega arith)) in
        let z : given_back (checked (Ok (6 + m * 5))) out' ≡ write (check_room (passed file) out) out = rw (le-ltb (length out) (length file) (omega (arith, file-length))) (λ i. record { reply = v i; buffer = e i }) in
        z ∙ sym here
