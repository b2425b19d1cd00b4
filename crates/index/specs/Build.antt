-- The build's promise, and the ways to it. Assumes nothing.
use Rattle.std.proofs.Math.Path.{◌≡◌, refl, sym, ap}
use Rattle.std.proofs.Common.{◌∙◌, arith, lt-ltb, le-ltb}
use Rattle.std.specs.Prelude.{Result, ℕ, ◌+◌, ◌*◌, ◌≤◌, ◌<◌, length}
use mathlib.Core.List.{List, [], ◌++◌}
use mathlib.Core.List.Memᴰ.{not-nil as in-nil}
use Rattle.std.proofs.Math.ListN.{drop}
use Rattle.truss.specs.Limits.{max_links}
use Rattle.truss.specs.Graph.{Pair, graph_of}
use Rattle.truss.specs.Refusal.{Refusal, Checked, passed, refused, refuse, and_then, map_passed}
use Rattle.truss.specs.Record.{kind_head}
use Rattle.truss.specs.LinksFile.{Links, accepted, read_head, read_pairs, read_links}
use Rattle.truss.specs.Index.{encode, index_bytes}
use Rattle.truss.specs.Call.{Reply, Written, done, not_done, write, check_room, build}
use Rattle.laws.proofs.Accepted.{head_good, read_named, read_good}
use Rattle.columns.specs.Named.{Named}
use Rattle.wire.specs.Writing.{written, written_start}
use Rattle.limits.specs.declared.refusal.Fault.{Fault}
use Rattle.limits.specs.Refusals.{checked_in}
use Rattle.linksfile.specs.Load.{forget}
use Rattle.indexfile.specs.Rows.{index_in}
use Rattle.indexfile.specs.Same.{whole_length}
use Rattle.index.specs.declared.Reply.{Reply as CReply}
use Rattle.index.specs.Solved.{SolveAsks, Solved, SolveGives}

-- a reply of the code, and the buffer after the call, in the definitions' words
abbrev pub reply_in : CReply → Reply
reply_in r = record { refusal = r.refusal; value = r.value; second = r.second; third = r.third }

abbrev pub replied : CReply → List ℕ → Written
replied r bytes = record { reply = reply_in r; buffer = bytes }

-- what checks give, as a reply
unfoldable pub reply_of : Checked ℕ → Reply
reply_of (passed x) = done x
reply_of (refused r) = not_done r

-- a call's result, and the buffer after it, in the definitions' words
abbrev pub given_back : Checked ℕ → List ℕ → Written
given_back given bytes = record { reply = reply_of given; buffer = bytes }

pub replied_by : {r : CReply} (x : Checked ℕ) (bytes : List ℕ) → reply_in r ≡ reply_of x → replied r bytes ≡ given_back x bytes
replied_by x bytes q = ap (λ (y : Reply). record { reply = y; buffer = bytes }) q

-- THE PROMISE of a build: its result and every byte of the lent buffer are what the definition gives
abbrev pub BuildGives : List ℕ → List ℕ → Result ℕ Fault → List ℕ → Type 0
BuildGives links lent r after = given_back (checked_in r) after ≡ build links lent

-- the same of a reply
abbrev pub BuildReplies : List ℕ → List ℕ → CReply → List ℕ → Type 0
BuildReplies links lent r after = replied r after ≡ build links lent

-- what is written for a graph's index, if there is room
abbrev pub finished : ℕ → List Pair → List ℕ → Written
finished n ps out = write (check_room (passed (index_bytes (graph_of n ps))) out) out

abbrev pub FinishGives : ℕ → ℕ → Written → List ℕ → List ℕ → Type 0
FinishGives n m r w out = (ps : List Pair) → SolveAsks n m ps w → r ≡ finished n ps out

-- what it leaves in the work space: the columns as they were solved
abbrev pub FinishLeaves : ℕ → ℕ → List ℕ → List ℕ → Type 0
FinishLeaves n m w w' = (joins : ℕ) × (groups : ℕ) × SolveGives n m joins groups w w'

pub record Replies (r : CReply) (refusal value : ℕ) : Type 0 where
  pub is_refusal : r.refusal ≡ refusal
  pub is_value : r.value ≡ value
  pub is_second : r.second ≡ 0
  pub is_third : r.third ≡ 0

pub reply_same : {r : CReply} {k v : ℕ} → Replies r k v → reply_in r ≡ record { refusal = k; value = v; second = 0; third = 0 }
reply_same R =
    let a = R.is_refusal in
    let b = R.is_value in
    let c = R.is_second in
    let d = R.is_third in
    λ i. record { refusal = a i; value = b i; second = c i; third = d i }

module _ {n m joins groups len : ℕ} {ps : List Pair} {w : List ℕ} (out : List ℕ) (S : Solved n m joins groups ps w) (is-len : len ≡ 6 + m * 8 + joins * 6 + groups * 6) where
  bytes_are : encode (index_in w n m joins groups) ≡ index_bytes (graph_of n ps)
  unfolding index_bytes
  bytes_are = ap encode S.index_is

  long : length (index_bytes (graph_of n ps)) ≡ len
  long = ap length (sym bytes_are) ∙ whole_length w n m joins groups ∙ sym is-len

  pub no_room : length out < len → given_back (refuse 12 0) out ≡ finished n ps out
  unfolding write check_room and_then reply_of
  no_room l = rw (lt-ltb (length out) (length (index_bytes (graph_of n ps))) (omega (arith, long))) refl

  pub wrote : {out' : List ℕ} → len ≤ length out → out' ≡ written out 0 (encode (index_in w n m joins groups)) → given_back (passed len) out' ≡ finished n ps out
  unfolding write check_room and_then reply_of
  wrote {out'} l q =
      let e : out' ≡ index_bytes (graph_of n ps) ++ drop (length (index_bytes (graph_of n ps))) out = q ∙ ap (written out 0) bytes_are ∙ written_start out (index_bytes (graph_of n ps)) in
      let v : done len ≡ done (length (index_bytes (graph_of n ps))) = ap done (sym long) in
      rw (le-ltb (length out) (length (index_bytes (graph_of n ps))) (omega (arith, long))) (λ i. record { reply = v i; buffer = e i })

-- ---- the whole build, by what the head and the records say

module _ (b out : List ℕ) where
  pub head_refused : {r : Refusal} → refused r ≡ read_head kind_head b → given_back (refused r) out ≡ build b out
  unfolding build read_links and_then map_passed check_room write reply_of
  head_refused q = rw (← q, and_then, map_passed, check_room, write) refl

  module _ (n m : ℕ) (head : read_head kind_head b ≡ passed (record { n = n; m = m })) where
    links_are : read_links b ≡ read_pairs b n m 5 []
    unfolding read_links and_then
    links_are = rw (head, and_then) refl

    -- a fault in the records
    pub records_refused : {r : Refusal} → refused r ≡ forget (read_pairs b n m 5 []) → given_back (refused r) out ≡ build b out
    unfolding build map_passed check_room and_then write forget reply_of
    records_refused {r} q = go (read_pairs b n m 5 []) refl
      where
        go : (x : Checked Links) → read_pairs b n m 5 [] ≡ x → given_back (refused r) out ≡ build b out
        go (passed l) e = let z : refused r ≡ passed tt = q ∙ ap forget e in let y : ◌≡◌ {A = ℕ} 0 1 = cc in absurd (omega arith)
        go (refused x) e =
            let z : ◌≡◌ {A = Checked (Unit {0})} (refused r) (refused x) = q ∙ ap forget e in
            let y : ◌≡◌ {A = Refusal} r x = cc in
            rw (links_are ∙ e, map_passed, check_room, and_then, write) (ap {B = Written} (λ z. record { reply = not_done z; buffer = out }) y)

    -- none
    pub records_good : passed tt ≡ forget (read_pairs b n m 5 []) → (ps : List Pair) × (read_pairs b n m 5 [] ≡ accepted n ps)
    unfolding forget
    records_good q = go (read_pairs b n m 5 []) refl
      where
        go : (x : Checked Links) → read_pairs b n m 5 [] ≡ x → (ps : List Pair) × (read_pairs b n m 5 [] ≡ accepted n ps)
        go (passed l) e =
            let q' = (read_good b n m 5 [] (record { fit = λ p k. absurd (in-nil k); distinct = tt }) l.n l.pairs e).0 in
            (l.pairs, e ∙ ap {B = Checked Links} (λ k. accepted k l.pairs) q')
        go (refused x) e =
            let y : passed (tt {0}) ≡ refused x = q ∙ ap forget e in
            let o : ◌≡◌ {A = ℕ} 0 1 = cc in
            absurd (omega arith)

    pub build-finished : {ps : List Pair} {r : Written} → read_pairs b n m 5 [] ≡ accepted n ps → r ≡ finished n ps out → r ≡ build b out
    unfolding build map_passed
    build-finished {ps} h q = q ∙ rw (links_are ∙ h, map_passed) refl

    -- what finishing asks
    pub solve_asks : {ps : List Pair} {w : List ℕ} → read_pairs b n m 5 [] ≡ accepted n ps → Named (graph_of n ps) m n w → SolveAsks n m ps w
    solve_asks {ps} h N = record { accepted = read_named b n ps (links_are ∙ h); named = N }

-- a head that passes names few links
pub few_of : (b : List ℕ) (n m : ℕ) → read_head kind_head b ≡ passed (record { n = n; m = m }) → m ≤ max_links
few_of b n m h = (head_good kind_head b (record { n = n; m = m }) h).links
