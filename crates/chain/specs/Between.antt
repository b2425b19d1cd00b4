-- Question G on the bytes of an index: `lead_in`, `way_between`, `between_in`, `chain_between`. Assumes nothing.
use Rattle.std.specs.Prelude.{Some, None, ◌≡◌, refl, ◌⊎◌, ◌≢◌, true, ℕ, ◌+◌, ◌*◌, ◌-◌, ◌≤◌, ◌<◌, ◌/◌, ◌%◌, length, take, drop}
use Rattle.std.proofs.Common.{sym, ◌∙◌, inl, inr, arith, length-append, length-drop, get_or-drop, get_or-append-add, length-take-le}
use Rattle.std.proofs.Math.Path.{ap}
use mathlib.Core.List.{List, [], ◌∷◌, ◌++◌}
use Rattle.std.proofs.Math.ListN.{get_or}
use Rattle.std.proofs.Math.Seq.{get_or-take}
use Rattle.truss.specs.Graph.{Link, Graph, Triangle, link, member, link_number, link_at}
use Rattle.truss.specs.Chain.{Joined}
use Rattle.truss.specs.Shortest.{IsShortestFirst, shortest_chain}
use Rattle.truss.specs.Question.{chain}
use Rattle.truss.specs.Call.{answer_bytes}
use Rattle.laws.proofs.Lists.{true_not_false}
use Rattle.laws.proofs.Members.{number_lt, link_of_number}
use Rattle.laws.proofs.Numbers.{same_or_not}
use Rattle.laws.proofs.Groups.{size}
use Rattle.laws.proofs.Chains.{at_least_strength, link_of_at_least, joined_sym, joined_first}
use Rattle.laws.proofs.Sides.{InOrder}
use Rattle.laws.proofs.Shortest.{shortest_is, shortest_unique, shortest_none, chain_joined, joined_chain}
use Rattle.laws.proofs.ShortestRoom.{chain_length}
use Rattle.columns.specs.Columns.{cell, KEY, COLUMNS, HALF, link_bound}
use Rattle.columns.specs.Wiping.{Zeros, zeros, zeros_at, zeros-length}
use Rattle.adjacency.specs.State.{Marks}
use Rattle.adjacency.specs.Lists.{ListsDone, named_keyed}
use Rattle.adjacency.specs.Marking.{MarkPre}
use Rattle.stored.specs.Rows.{graph_in, IsIndex, index-order, few_links}
use Rattle.wire.specs.Writing.{written}
use Rattle.thirds.specs.Find.{FindPre, Known, absent, present}
use Rattle.thirds.specs.Look.{Keyed, keyed}
use Rattle.chain.specs.Wave.{dist, Led}
use Rattle.chain.specs.Follow.{followed, followed-length, first_way, no_way}
use Rattle.chain.specs.Search.{nearest, sides, NEAREST, Given, SearchPre, Searched}
use Rattle.chain.specs.Write.{WriteAsks, nothing, something, ChainGives}
use Rattle.chain.specs.Strong.{strong_of, member_strong, strong_heavy, heavy_strong, strong_fewer}
use Rattle.chain.specs.Load.{LoadGives, loaded_given}

-- ---- the entries

pub record LeadPre (G : Graph) (m n e f : ℕ) (w start mark : List ℕ) : Type 0 where
  pub given : Given G m n w
  pub e_in : e < m
  pub f_in : f < m
  pub blank : (y : ℕ) → y < m → nearest w m y ≡ 0
  pub long : length start ≡ n + 1
  pub wide : length mark ≡ n

pub record Leads (G : Graph) (m n e f r : ℕ) (w' : List ℕ) : Type 0 where
  pub given : Given G m n w'
  pub led : Led G f e m (nearest w' m) (sides w' m)
  pub count : r ≡ dist (nearest w' m) e

abbrev pub LeadAsks : ℕ → ℕ → ℕ → ℕ → List ℕ → List ℕ → List ℕ → Type 0
LeadAsks m n e f w start mark = (G : Graph) × LeadPre G m n e f w start mark

abbrev pub LeadGives : ℕ → ℕ → ℕ → ℕ → ℕ → List ℕ → List ℕ → List ℕ → List ℕ → Type 0
LeadGives m n e f r w w' start mark = (G : Graph) → LeadPre G m n e f w start mark → Leads G m n e f r w'

module _ {G : Graph} {m n e f : ℕ} {w start mark : List ℕ} (P : LeadPre G m n e f w start mark) where
  module _ {w₁ start₁ : List ℕ} (L : ListsDone G m w w₁ start₁) where
    pub lead_given : Given G m n w₁
    lead_given = record { named = named_keyed P.given.named L.keyed; order = P.given.order }

    module _ {k : ℕ} (q : k ≡ cell w₁ m KEY f) where
      K : Keyed G f (k / HALF) (k % HALF)
      K = keyed lead_given.named f P.f_in q

      at_in : k / HALF < G.n
      at_in = omega (arith, K.rises, K.below)

      pub lead_mark : (mark₁ : List ℕ) → Zeros n mark₁ → length mark₁ ≡ length mark → MarkPre G m n (k / HALF) w₁ start₁ mark₁
      lead_mark mark₁ Z wide₁ = record {
        named = lead_given.named;
        near = L.near;
        here = at_in;
        blank = record {
          wide = omega (arith, wide₁, P.wide, P.given.named.accounts);
          is = λ c l. Z c (omega (arith, l, P.given.named.accounts));
        };
      }

      pub lead_search : {mark₂ : List ℕ} → Marks G mark₂ (k / HALF) → SearchPre G m n e f (k / HALF) w₁ start₁ mark₂
      lead_search M = record {
        given = lead_given;
        near = L.near;
        marks = M;
        at_in = at_in;
        e_in = P.e_in;
        f_in = P.f_in;
        blank = λ y l. L.keyed.above NEAREST y (omega arith) l ∙ P.blank y l;
      }

  -- link e is not reached
  pub lead_none : {v : ℕ} {w₁ w₂ : List ℕ} → Searched G f e m n w₁ w₂ → v ≡ nearest w₂ m e → v ≡ 0 → Leads G m n e f 0 w₂
  lead_none S q z = record { given = S.given; led = S.led; count = omega (arith, sym z ∙ q) }

  pub lead_done : {v : ℕ} {w₁ w₂ : List ℕ} → Searched G f e m n w₁ w₂ → v ≡ nearest w₂ m e → Leads G m n e f (v / HALF) w₂
  lead_done S q = record { given = S.given; led = S.led; count = ap (λ (x : ℕ). x / HALF) q }

-- ---- the chain between two links, in the graph of the strong ones

pub record WayPre (G : Graph) (k m n a b c d : ℕ) (w : List ℕ) : Type 0 where
  pub order : InOrder G
  pub given : Given (strong_of G k) m n w
  pub a_in : a < n
  pub b_in : b < n
  pub c_in : c < n
  pub d_in : d < n
  pub blank : (y : ℕ) → y < m → nearest w m y ≡ 0

abbrev pub the_way : Graph → ℕ → ℕ → ℕ → ℕ → ℕ → List Triangle
the_way G k a b c d = shortest_chain G k (link a b) (link c d)

pub record WayIs (G : Graph) (k m a b c d from count : ℕ) (w : List ℕ) : Type 0 where
  pub asks : WriteAsks m from count w
  pub long : count ≡ length (the_way G k a b c d)
  pub bytes : (out out' : List ℕ) → ChainGives m from count w out out' → out' ≡ written out 0 (answer_bytes (chain (the_way G k a b c d)))

abbrev pub WayAsks : ℕ → ℕ → ℕ → ℕ → ℕ → ℕ → List ℕ → Type 0
WayAsks m n a b c d w = (G : Graph) × (k : ℕ) × WayPre G k m n a b c d w

abbrev pub WayGives : ℕ → ℕ → ℕ → ℕ → ℕ → ℕ → ℕ → ℕ → List ℕ → List ℕ → Type 0
WayGives m n a b c d from count w w' = (G : Graph) (k : ℕ) → WayPre G k m n a b c d w → WayIs G k m a b c d from count w'

-- no triangles
way-none : (G : Graph) (k m a b c d from : ℕ) (w : List ℕ) → the_way G k a b c d ≡ [] → WayIs G k m a b c d from 0 w
way-none G k m a b c d from w z = record {
  asks = nothing refl;
  long = sym (ap length z);
  bytes = λ out out' C. C.none refl ∙ ap (λ (ts : List Triangle). written out 0 (answer_bytes (chain ts))) (sym z);
}

-- and no link with which it begins
pub way_empty : {G : Graph} {k m a b c d from : ℕ} {w : List ℕ} → WayIs G k m a b c d from 0 w → WayIs G k m a b c d 0 0 w
way_empty {G} {k} {m} {a} {b} {c} {d} {from} {w} W = way-none G k m a b c d 0 w (nil (the_way G k a b c d) W.long)
  where
    nil : (ts : List Triangle) → 0 ≡ length ts → ts ≡ []
    nil [] q = refl
    nil (t ∷ ts) q = absurd (omega (arith, q))

module _ {G : Graph} {k m n a b c d : ℕ} {w : List ℕ} (P : WayPre G k m n a b c d w) where
  abbrev H : Graph
  H = strong_of G k

  below : {x : ℕ} → x < n → x < H.n
  below l = omega (arith, l, P.given.named.accounts)

  pub way-first : FindPre H m n a b w
  way-first = record { named = P.given.named; order = P.given.order; a_in = below P.a_in; c_in = below P.b_in }

  pub way_second : FindPre H m n c d w
  way_second = record { named = P.given.named; order = P.given.order; a_in = below P.c_in; c_in = below P.d_in }

  strong_end : {e f : Link} → Joined G k e f → member H.links e ≡ true
  strong_end {e} j = let s = joined_first G k j in member_strong G P.order k e (link_of_at_least G k e s) (at_least_strength G k e s)

  -- a link that is not there is joined with none
  pub way_no_first : (w' : List ℕ) → Known H a b None → WayIs G k m a b c d 0 0 w'
  way_no_first w' (present h q) = absurd cc
  way_no_first w' (absent h q) = way-none G k m a b c d 0 w' ((shortest_none G P.order k (link a b) (link c d)).1 (λ j. true_not_false (strong_end j) h))

  pub way_no_second : (w' : List ℕ) → Known H c d None → WayIs G k m a b c d 0 0 w'
  way_no_second w' (present h q) = absurd cc
  way_no_second w' (absent h q) = way-none G k m a b c d 0 w' ((shortest_none G P.order k (link a b) (link c d)).1 (λ j. true_not_false (strong_end (joined_sym G k j)) h))

  -- one that is there has a number
  found : (u v : ℕ) {e : ℕ} → Known H u v (Some e) → (e < m) × (link_at H e ≡ link u v)
  found u v (absent h q) = absurd cc
  found u v {e} (present h q) =
      let z : e ≡ link_number H (link u v) = cc in
      (omega (arith, z, number_lt H (link u v) h, P.given.named.count), ap (link_at H) z ∙ link_of_number H (link u v) h)

  module _ {e f : ℕ} (E : Known H a b (Some e)) (F : Known H c d (Some f)) where
    pub way_lead : {start mark : List ℕ} → length start ≡ n + 1 → length mark ≡ n → LeadPre H m n e f w start mark
    way_lead p q = record {
      given = P.given;
      e_in = (found a b E).0;
      f_in = (found c d F).0;
      blank = P.blank;
      long = p;
      wide = q;
    }

    pub way-done : {count : ℕ} {w' : List ℕ} → Leads H m n e f count w' → WayIs G k m a b c d e count w'
    way-done {count} {w'} L = go (same_or_not (nearest w' m e) 0)
      where
        X : ℕ → ℕ
        X = nearest w' m

        tiny : H.n ≤ HALF
        tiny = omega (arith, L.given.named.accounts, L.given.named.small)

        el : e < m
        el = (found a b E).0

        at_e : link_at H e ≡ link a b
        at_e = (found a b E).1

        at_f : link_at H f ≡ link c d
        at_f = (found c d F).1

        go : (nearest w' m e ≡ 0) ⊎ (nearest w' m e ≢ 0) → WayIs G k m a b c d e count w'
        go (inl z) =
            let zero : count ≡ 0 = omega (arith, L.count, z) in
            rw zero (way-none G k m a b c d e w' ((shortest_none G P.order k (link a b) (link c d)).1 none_there))
          where
            none_there : Joined G k (link a b) (link c d) → ⊥
            none_there j =
                let ch = joined_chain j in
                no_way L.given.named.proper L.given.named.count tiny L.led G k (strong_heavy G P.order k) (heavy_strong G P.order k) el z ch.0
                (rw (at_e, at_f) ch.1)
        go (inr n') = record {
          asks = something H f n (record { given = L.given; led = L.led; e_in = el; count_is = L.count });
          long = sym (followed-length H (nearest w' m) (sides w' m) count e) ∙ ap length is;
          bytes = λ out out' C.
              C.some H f n (record { given = L.given; led = L.led; e_in = el; count_is = L.count }) ∙ ap (λ (ts : List Triangle). written out 0 (answer_bytes (chain ts))) is;
        }
          where
            W : IsShortestFirst G k (link a b) (link c d) (followed H (nearest w' m) (sides w' m) count e)
            W = rw (← at_e, ← at_f, L.count)
                (first_way L.given.named.proper L.given.named.count tiny L.led G k (strong_heavy G P.order k) (heavy_strong G P.order k) el n')

            is : followed H (nearest w' m) (sides w' m) count e ≡ the_way G k a b c d
            is = shortest_unique G k (link a b) (link c d) _ _ W (shortest_is G P.order k (link a b) (link c d) (chain_joined W.is_chain))

-- ---- on the bytes of an index

-- THE PROMISE: the length of the answer, and its bytes if they fit
pub record Answered (k a b c d r : ℕ) (s out out' : List ℕ) : Type 0 where
  pub long : r ≡ length (answer_bytes (chain (the_way (graph_in s) k a b c d)))
  pub short : length out < r → out' ≡ out
  pub fits : r ≤ length out → out' ≡ written out 0 (answer_bytes (chain (the_way (graph_in s) k a b c d)))

pub record InAsks (n m h k a b c d : ℕ) (s w : List ℕ) : Type 0 where
  pub is_index : IsIndex s
  pub accounts : (graph_in s).n ≡ n
  pub links : size (graph_in s) ≡ m
  pub strong : h ≡ size (strong_of (graph_in s) k)
  pub room : length w ≡ COLUMNS * h
  pub blank : (y : ℕ) → y < h → nearest w h y ≡ 0
  pub a_in : a < n
  pub b_in : b < n
  pub c_in : c < n
  pub d_in : d < n

module _ {n m h k a b c d : ℕ} {s w : List ℕ} (P : InAsks n m h k a b c d s w) where
  module _ {w₁ : List ℕ} (L : LoadGives k h s w w₁) where
    pub in_way : WayPre (graph_in s) k h n a b c d w₁
    in_way = record {
      order = index-order P.is_index;
      given = rw (← P.accounts) (loaded_given P.is_index P.strong P.room L);
      a_in = P.a_in;
      b_in = P.b_in;
      c_in = P.c_in;
      d_in = P.d_in;
      blank = λ y l. L.others NEAREST y (omega arith) l ∙ P.blank y l;
    }

  module _ {from count : ℕ} {w₂ : List ℕ} (W : WayIs (graph_in s) k h a b c d from count w₂) where
    pub in_long : 2 + 6 * count ≡ length (answer_bytes (chain (the_way (graph_in s) k a b c d)))
    in_long = omega (arith, W.long, chain_length (the_way (graph_in s) k a b c d))

    pub in_short : (out : List ℕ) → length out < 2 + 6 * count → Answered k a b c d (2 + 6 * count) s out out
    in_short out l = record { long = in_long; short = λ _. refl; fits = λ f. absurd (omega (arith, f, l)) }

    pub in_fits : (out out' : List ℕ) → 2 + 6 * count ≤ length out → ChainGives h from count w₂ out out' → Answered k a b c d (2 + 6 * count) s out out'
    in_fits out out' l C = record { long = in_long; short = λ f. absurd (omega (arith, f, l)); fits = λ _. W.bytes out out' C }

pub record BetweenAsks (n m a b c d : ℕ) (s w : List ℕ) : Type 0 where
  pub is_index : IsIndex s
  pub accounts : (graph_in s).n ≡ n
  pub links : size (graph_in s) ≡ m
  pub room : w ≡ zeros (COLUMNS * m)
  pub a_in : a < n
  pub b_in : b < n
  pub c_in : c < n
  pub d_in : d < n

module _ {n m a b c d : ℕ} {s w : List ℕ} (P : BetweenAsks n m a b c d s w) (k : ℕ) {h : ℕ} (hq : h ≡ size (strong_of (graph_in s) k)) where
  pub between_few : h ≤ m
  between_few = omega (arith, hq, strong_fewer (graph_in s) k, P.links)

  pub between_m : m ≤ link_bound
  between_m = omega (arith, P.links, few_links P.is_index)

  pub between_long : length w ≡ COLUMNS * m
  between_long = ap length P.room ∙ zeros-length (COLUMNS * m)

  pub between_part : length (take (COLUMNS * h) w) ≡ COLUMNS * h
  between_part = length-take-le (COLUMNS * h) w (omega (arith, between_long, between_few))

  pub between_in : InAsks n m h k a b c d s (take (COLUMNS * h) w)
  unfolding cell
  between_in = record {
    is_index = P.is_index;
    accounts = P.accounts;
    links = P.links;
    strong = hq;
    room = between_part;
    blank = λ y l. get_or-take (COLUMNS * h) w (NEAREST * h + y) 0 (omega (arith, l)) ∙ ap (λ (v : List ℕ). get_or v (NEAREST * h + y) 0) P.room ∙ zeros_at (COLUMNS * m) (NEAREST * h + y);
    a_in = P.a_in;
    b_in = P.b_in;
    c_in = P.c_in;
    d_in = P.d_in;
  }

-- the work space from the strong links' part on
pub record Beyond (k : ℕ) (s w w' : List ℕ) : Type 0 where
  pub length_is : length w' ≡ length w
  pub stays : (i : ℕ) → COLUMNS * size (strong_of (graph_in s) k) ≤ i → get_or w' i 0 ≡ get_or w i 0

pub between_beyond : {s : List ℕ} (k : ℕ) {h : ℕ} (w ys : List ℕ) → h ≡ size (strong_of (graph_in s) k) → COLUMNS * h ≤ length w → length ys ≡ COLUMNS * h → Beyond k s w (ys ++ drop (COLUMNS * h) w)
between_beyond {s} k {h} w ys hq room q = record {
  length_is = length-append ys (drop (COLUMNS * h) w) ∙ omega (arith, q, length-drop (COLUMNS * h) w);
  stays = λ i l. at i (omega (arith, l, hq));
}
  where
    at : (i : ℕ) → COLUMNS * h ≤ i → get_or (ys ++ drop (COLUMNS * h) w) i 0 ≡ get_or w i 0
    at i l =
        let e : i ≡ length ys + (i - COLUMNS * h) = omega (arith, l, q) in
        let f : COLUMNS * h + (i - COLUMNS * h) ≡ i = omega (arith, l) in
        ap (λ (j : ℕ). get_or (ys ++ drop (COLUMNS * h) w) j 0) e ∙ get_or-append-add ys (drop (COLUMNS * h) w) (i - COLUMNS * h) 0 ∙ get_or-drop (COLUMNS * h) w (i - COLUMNS * h) 0
        ∙ ap (λ (j : ℕ). get_or w j 0) f
