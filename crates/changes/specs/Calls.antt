-- The two calls: what they promise, and the ways to it. Assumes nothing.
use Rattle.std.specs.Prelude.{Option, None, Some, Result, Err, ◌≡◌, ◌⊎◌, ◌≢◌, List, map, ℕ, ◌+◌, ◌*◌, ◌-◌, ◌≤◌, ◌<◌, length}
use Rattle.std.proofs.Math.Path.{sym, ap, subst}
use Rattle.std.proofs.Common.{◌∙◌, inl, inr, arith}
use Rattle.truss.specs.Limits.{max_links}
use Rattle.truss.specs.Graph.{Graph, graph_of, link, link_of}
use Rattle.truss.specs.Refusal.{passed, refuse, and_then, map_passed}
use Rattle.truss.specs.Record.{field_at}
use Rattle.truss.specs.Index.{index_bytes}
use Rattle.truss.specs.IndexFile.{read_index}
use Rattle.truss.specs.Call.{Written, write, check_room}
use Rattle.truss.specs.Change.{Change, put_in, withdraw, with_link, without_link, altered, change}
use Rattle.truss.specs.Changes.{Faulty, put_equal, put_again, put_full, withdraw_none}
use Rattle.laws.proofs.Members.{member_in, in_member}
use Rattle.laws.proofs.Accepted.{graph_in_lem}
use Rattle.laws.proofs.Changes.{Altered, Fits, put_fits, withdraw_fits, accounts_of_lem, altered_pairs, altered-named, faulty_altered, fits_altered, change-read, change_rule}
use Rattle.columns.specs.Columns.{COLUMNS}
use Rattle.columns.specs.Named.{Named}
use Rattle.limits.specs.declared.refusal.Refusal.{Refusal}
use Rattle.limits.specs.Refusals.{number_of, checked}
use Rattle.index.specs.declared.Reply.{Reply as CReply}
use Rattle.index.specs.Build.{FinishGives, given_back, replied, reply_of}
use Rattle.index.specs.Solved.{SolveAsks, SolveGiven}
use Rattle.index.specs.Open.{pairs_in}
use Rattle.stored.specs.Rows.{graph_in, IsIndex, Shape}
use Rattle.stored.specs.Find.{number_there, found_link, no_such_link, found_in}
use Rattle.altering.specs.Keys.{PutAsks, TakeAsks}

-- THE PROMISE of a change: its result and every byte of the second buffer are what the definition gives. The index is lent to read.
abbrev pub ChangeGives : Change → List ℕ → List ℕ → Result ℕ Refusal → List ℕ → Type 0
ChangeGives c bytes lent r after = given_back (checked r) after ≡ change c bytes lent

-- the same of a reply to a C host
abbrev pub ChangeReplies : Change → List ℕ → List ℕ → CReply → List ℕ → Type 0
ChangeReplies c bytes lent r after = replied r after ≡ change c bytes lent

-- the same, of the links that were read
abbrev pub change_of : Change → Graph → List ℕ → Written
change_of c G out = write (check_room (map_passed index_bytes (altered c G)) out) out

abbrev pub Alters : Change → Graph → List ℕ → Result ℕ Refusal → List ℕ → Type 0
Alters c G out r after = given_back (checked r) after ≡ change_of c G out

-- ---- 7, and the call by the links

module _ (c : Change) (b out : List ℕ) where
  pub changes_7 : (r : Result ℕ Refusal) → read_index b ≡ refuse 7 0 → checked r ≡ refuse 7 0 → ChangeGives c b out r out
  unfolding reply_of
  changes_7 r q R = ap (λ x. given_back x out) R ∙ sym (change_rule.no_index c b out q)

  pub changes_of : {G : Graph} (r : Result ℕ Refusal) {after : List ℕ} → read_index b ≡ passed G → Alters c G out r after → ChangeGives c b out r after
  changes_of r q A = A ∙ sym (change-read c b out q)

-- ---- a change with a fault

pub alters_not : {c : Change} {G : Graph} (out : List ℕ) (e : Refusal) → Faulty G c (number_of e) → Alters c G out (Err e) out
unfolding map_passed check_room and_then write checked reply_of
alters_not out e F = sym (ap (λ x. write (check_room (map_passed index_bytes x) out) out) (faulty_altered F))

-- by the numbers that the opening and the look-up give
module _ {s : List ℕ} {n m at count : ℕ} (S : Shape s n m at count) (a b : ℕ) where
  abbrev G : Graph
  G = graph_in s

  pub first_outside : n ≤ a → (G.n ≤ a) ⊎ (G.n ≤ b)
  first_outside l = inl (omega (arith, S.accounts))

  pub second_outside : n ≤ b → (G.n ≤ a) ⊎ (G.n ≤ b)
  second_outside l = inr (omega (arith, S.accounts))

  module _ (la : a < n) (lb : b < n) where
    first_below : a < G.n
    first_below = omega (arith, S.accounts)

    second_below : b < G.n
    second_below = omega (arith, S.accounts)

    pub faulty_5 : a ≡ b → Faulty G (put_in a b) 5
    faulty_5 q = put_equal first_below second_below q

    module _ {r : Option ℕ} (q : r ≡ number_there G (link a b)) where
      pub faulty_14 : {e : ℕ} → a ≢ b → r ≡ Some e → Faulty G (put_in a b) 14
      faulty_14 d f = put_again first_below second_below d (found_link G (link a b) q f).0

      pub faulty_3 : a ≢ b → r ≡ None → max_links ≤ m → Faulty G (put_in a b) 3
      faulty_3 d f l = put_full first_below second_below d (no_such_link G (link a b) q f) (omega (arith, S.links))

      pub faulty_11 : r ≡ None → Faulty G (withdraw a b) 11
      faulty_11 f = withdraw_none first_below second_below (no_such_link G (link a b) q f)

      pub put_asks : {w : List ℕ} → a ≢ b → r ≡ None → m < max_links → length w ≡ COLUMNS * (m + 1) → PutAsks s m a b w
      put_asks d f l z = record {
        is_index = S.groups_at_lem.is_index;
        links = S.links;
        first_below = first_below;
        second_below = second_below;
        apart = d;
        absent = no_such_link G (link a b) q f;
        few = l;
        size_is = z;
      }

  module _ {r : Option ℕ} {e : ℕ} (q : r ≡ number_there G (link a b)) (f : r ≡ Some e) where
    pub found_below : e < m
    found_below = omega (arith, found_in G (link a b) q f, S.links)

    pub take_asks : {w : List ℕ} → length w ≡ COLUMNS * (m - 1) → TakeAsks s m e a b w
    take_asks z = record {
      is_index = S.groups_at_lem.is_index;
      links = S.links;
      there = (found_link G (link a b) q f).0;
      number = (found_link G (link a b) q f).1;
      inside = found_below;
      size_is = z;
    }

-- ---- a change that fits: column 0 names the altered links, which is what finishing asks; and what it gives

pub put_fit : {b : List ℕ} {m x y : ℕ} {w : List ℕ} → PutAsks b m x y w → Fits (graph_in b) (put_in x y) (with_link (graph_in b) (link x y))
put_fit P = put_fits P.first_below P.second_below P.apart P.absent (omega (arith, P.few, P.links))

pub take_fit : {b : List ℕ} {m at x y : ℕ} {w : List ℕ} → TakeAsks b m at x y w → Fits (graph_in b) (withdraw x y) (without_link (graph_in b) (link x y))
unfolding graph_of
take_fit {b} {x = x} {y = y} P =
    let n = field_at b 1 in
    let ps = pairs_in b (field_at b 3) in
    let f = accounts_of_lem x y ps P.is_index.accepted.good (in_member (map link_of ps) (graph_in_lem n ps (member_in (graph_in b).links (link x y) P.there))) in
    withdraw_fits f.0 f.1 P.there

module _ {c : Change} {b : List ℕ} (I : IsIndex b) {H : Graph} (F : Fits (graph_in b) c H) {n m : ℕ} (accounts : (graph_in b).n ≡ n) {w : List ℕ} (N : Named H m (graph_in b).n w) where
  A : Altered (field_at b 1) (pairs_in b (field_at b 3)) c H
  A = altered_pairs I.accepted F

  same_n : field_at b 1 ≡ n
  unfolding graph_of
  same_n = accounts

  asks : SolveAsks n m A.pairs w
  unfolding A graph_of
  asks =
      subst (λ (k : ℕ). SolveAsks k m A.pairs w) same_n
      (record { accepted = altered-named I.accepted F; named = subst (λ (K : Graph). Named K m (field_at b 1) w) (sym A.is_graph) N })

  pub finish_asks : SolveGiven n m w
  finish_asks = (A.pairs, asks)

  pub finish_alters : {r : Written} (out : List ℕ) → FinishGives n m r w out → r ≡ change_of c (graph_in b) out
  unfolding map_passed
  finish_alters out X =
      let g : graph_of n A.pairs ≡ H = ap (λ (k : ℕ). graph_of k A.pairs) (sym same_n) ∙ A.is_graph in
      X A.pairs asks ∙ ap {B = Written} (λ (K : Graph). write (check_room (passed (index_bytes K)) out) out) g ∙ sym (ap {B = Written} (λ x. write (check_room (map_passed index_bytes x) out) out) (fits_altered F))
