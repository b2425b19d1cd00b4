-- A link put in or withdrawn: what a change is refused by, that it writes what a fresh build writes, and what an index tells after any sequence of changes.
use mathlib.Core.Path.{◌≡◌, refl, sym, ap, ◌∙◌, subst}
use mathlib.Core.Logic.{◌⊎◌, inl, inr, ◌≢◌}
use mathlib.Core.Bool.{Bool, true, false, cond, not, ◌&&◌, ◌||◌}
use mathlib.Core.List.{List, ◌∷◌, map}
use mathlib.Core.List.Memᴰ.{cases_cons as in-cons}
use mathlib.Core.List.{Memᴰ as In}
use Prim.Native.Nat.{ℕ, ◌≤◌, ◌<◌, min, max}
use native.Mathlib.Omega.{arith}
use lib.Dec.{ltb}
use lib.ListN.{length, take, drop}
use lib.Seq.{take-append_seam}
use borrow.Author.Tests.{le-leb, lt-leb, eq-eqb, ne_eqb, le-ltb}
use Rattle.truss.specs.Limits.{max_links}
use Rattle.truss.specs.Lists.{filter, any, sort}
use Rattle.truss.specs.Graph.{Link, LinkSet, Pair, Graph, link, link_of, links_of, graph_of, same_link, link_before, member}
use Rattle.truss.specs.Refusal.{Checked, passed, refuse, and_then, map_passed}
use Rattle.truss.specs.LinksFile.{accepted, read_links, write_links}
use Rattle.truss.specs.Index.{index_bytes}
use Rattle.truss.specs.IndexFile.{IsIndexOf, read_index}
use Rattle.truss.specs.Call.{Written, done, write, check_room, build}
use Rattle.truss.specs.Windows.{refused_by}
use Rattle.truss.specs.Demand3.{HasLink, Builds}
use Rattle.truss.specs.Change.{Change, put_in, withdraw, with_link, without_link, altered, change}
use Rattle.truss.specs.Changes.{Names, Tells, moved, Faulty, put_outside, put_equal, put_again, put_full, withdraw_outside, withdraw_none, ChangeRule, last_index, last_set, Changes, none, one, Changed, ChangesTell}
use Rattle.laws.proofs.Lists.{test, true_not_false, filter-length, both, and_left, and_right, bool_same, same_link_eq, same_link_refl}
use Rattle.laws.proofs.Numbers.{same_or_not, less_or_not}
use Rattle.laws.proofs.Members.{filter_in, in_filter, map_in, in_map, sort_in, in_sort, sort_sorted, member_in, in_member}
use Rattle.laws.proofs.Ordering.{NotAfter, not_after_trans, not_after_antisym, before_yes, before_no, sort-distinct, sorted_unique, insert-length}
use Rattle.laws.proofs.Stored.{filter-sorted}
use Rattle.laws.proofs.Answers.{is_outside, not_outside}
use Rattle.laws.proofs.Accepted.{GoodPairs, Named, read_named, graph_in_lem, in_graph, graph_size, links_distinct}
use Rattle.laws.proofs.Agree.{same_graph}
use Rattle.laws.proofs.Reading.{write_read, read-index, read_only}
use Rattle.laws.proofs.Demand3.{only_short_memory}

-- ---- the checks: a change to the links of G has a first fault, or it fits and the altered links are H

pub data Fits (G : Graph) : Change → Graph → Type 0 where
  put_fits : {a b : ℕ} → a < G.n → b < G.n → a ≢ b → member G.links (link a b) ≡ false → length G.links < max_links → Fits G (put_in a b) (with_link G (link a b))
  withdraw_fits : {a b : ℕ} → a < G.n → b < G.n → member G.links (link a b) ≡ true → Fits G (withdraw a b) (without_link G (link a b))

pub faulty_altered : {G : Graph} {c : Change} {k : ℕ} → Faulty G c k → altered c G ≡ refuse k 0
unfolding altered
faulty_altered {G} (put_outside {a} {b} o) = rw (is_outside G a b o) refl
faulty_altered {G} (put_equal {a} {b} l h q) = rw (not_outside G a b l h, eq-eqb a b q) refl
faulty_altered {G} (put_again {a} {b} l h n m) = rw (not_outside G a b l h, ne_eqb a b n, m) refl
faulty_altered {G} (put_full {a} {b} l h n m f) = rw (not_outside G a b l h, ne_eqb a b n, m, le-leb max_links (length G.links) f) refl
faulty_altered {G} (withdraw_outside {a} {b} o) = rw (is_outside G a b o) refl
faulty_altered {G} (withdraw_none {a} {b} l h m) = rw (not_outside G a b l h, m) refl

pub fits_altered : {G H : Graph} {c : Change} → Fits G c H → altered c G ≡ passed H
unfolding altered
fits_altered {G} (put_fits {a} {b} l h n m f) = rw (not_outside G a b l h, ne_eqb a b n, m, lt-leb max_links (length G.links) f) refl
fits_altered {G} (withdraw_fits {a} {b} l h m) = rw (not_outside G a b l h, m) refl

some_number : {G : Graph} {c : Change} {k : ℕ} → Faulty G c k → k ≢ 0
some_number (put_outside o) = omega arith
some_number (put_equal l h q) = omega arith
some_number (put_again l h n m) = omega arith
some_number (put_full l h n m f) = omega arith
some_number (withdraw_outside o) = omega arith
some_number (withdraw_none l h m) = omega arith

-- one of the two holds
judged : (c : Change) (G : Graph) → ((k : ℕ) × Faulty G c k) ⊎ ((H : Graph) × Fits G c H)
judged (put_in a b) G = go (less_or_not a G.n) (less_or_not b G.n) (same_or_not a b) (test (member G.links (link a b))) (less_or_not (length G.links) max_links)
  where
    go : (a < G.n) ⊎ (G.n ≤ a) → (b < G.n) ⊎ (G.n ≤ b) → (a ≡ b) ⊎ (a ≢ b) → (member G.links (link a b) ≡ true) ⊎ (member G.links (link a b) ≡ false)
        → (length G.links < max_links) ⊎ (max_links ≤ length G.links) → ((k : ℕ) × Faulty G (put_in a b) k) ⊎ ((H : Graph) × Fits G (put_in a b) H)
    go (inr l) h q m f = inl (9, put_outside (inl l))
    go (inl l) (inr h) q m f = inl (9, put_outside (inr h))
    go (inl l) (inl h) (inl q) m f = inl (5, put_equal l h q)
    go (inl l) (inl h) (inr q) (inl m) f = inl (14, put_again l h q m)
    go (inl l) (inl h) (inr q) (inr m) (inr f) = inl (3, put_full l h q m f)
    go (inl l) (inl h) (inr q) (inr m) (inl f) = inr (with_link G (link a b), put_fits l h q m f)
judged (withdraw a b) G = go (less_or_not a G.n) (less_or_not b G.n) (test (member G.links (link a b)))
  where
    go : (a < G.n) ⊎ (G.n ≤ a) → (b < G.n) ⊎ (G.n ≤ b) → (member G.links (link a b) ≡ true) ⊎ (member G.links (link a b) ≡ false)
        → ((k : ℕ) × Faulty G (withdraw a b) k) ⊎ ((H : Graph) × Fits G (withdraw a b) H)
    go (inr l) h m = inl (9, withdraw_outside (inl l))
    go (inl l) (inr h) m = inl (9, withdraw_outside (inr h))
    go (inl l) (inl h) (inr m) = inl (11, withdraw_none l h m)
    go (inl l) (inl h) (inl m) = inr (without_link G (link a b), withdraw_fits l h m)

-- ---- the pairs of the altered links

pub record Altered (n : ℕ) (ps : List Pair) (c : Change) (H : Graph) : Type 0 where
  pub pairs : List Pair
  pub good : GoodPairs n pairs
  pub is_graph : graph_of n pairs ≡ H
  pub names : (e : Link) → member (map link_of pairs) e ≡ moved c (member (map link_of ps)) e

module _ (n : ℕ) (ps : List Pair) (good : GoodPairs n ps) (a b : ℕ) where
  abbrev G : Graph
  G = graph_of n ps

  abbrev e : Link
  e = link a b

  -- one more: `graph_of` sorts by insertion, so that its last insertion is that of the new link
  pub put_pairs : a < n → b < n → a ≢ b → member G.links e ≡ false → Altered n ps (put_in a b) (with_link G e)
  unfolding graph_of links_of sort with_link moved member any
  put_pairs l h d m = record {
    pairs = p ∷ ps;
    good = record { fit = fits; distinct = (apart, good.distinct) };
    is_graph = refl;
    names = λ f. turn (same_link f e) (member (map link_of ps) f);
  }
    where
      p : Pair
      p = record { first = a; second = b }

      fits : (r : Pair) → In r (p ∷ ps) → (r.first < n) × (r.second < n) × (r.first ≢ r.second)
      fits r k = at (in-cons k)
        where
          at : (r ≡ p) ⊎ In r ps → (r.first < n) × (r.second < n) × (r.first ≢ r.second)
          at (inl q) = rw q (l, h, d)
          at (inr k) = good.fit r k

      apart : (r : Pair) → In r ps → link_of p ≢ link_of r
      apart r k q = true_not_false (in_member G.links (in_graph n ps (subst (λ (x : Link). In x (map link_of ps)) (sym q) (in_map link_of ps k)))) m

      turn : (s t : Bool) → cond s true t ≡ (t || s)
      turn true true = refl
      turn true false = refl
      turn false true = refl
      turn false false = refl

  abbrev keep : Pair → Bool
  keep r = not (same_link e (link_of r))

  abbrev keep_link : Link → Bool
  keep_link f = not (same_link e f)

  abbrev rest : List Pair
  rest = filter keep ps

  rest_good : GoodPairs n rest
  rest_good = record {
    fit = λ r m. good.fit r (filter_in keep ps m).0;
    distinct = filter-sorted (λ (x y : Pair). link_of x ≢ link_of y) keep ps good.distinct;
  }

  rest_in : (f : Link) → In f (map link_of rest) → In f (map link_of ps) × (keep_link f ≡ true)
  rest_in f m = at (map_in link_of rest m)
    where
      at : (r : Pair) × In r rest × (f ≡ link_of r) → In f (map link_of ps) × (keep_link f ≡ true)
      at (r, mr, w) = let k = filter_in keep ps mr in (subst (λ (x : Link). In x (map link_of ps)) (sym w) (in_map link_of ps k.0), ap keep_link w ∙ k.1)

  in_rest : (f : Link) → In f (map link_of ps) → keep_link f ≡ true → In f (map link_of rest)
  in_rest f m k = at (map_in link_of ps m)
    where
      at : (r : Pair) × In r ps × (f ≡ link_of r) → In f (map link_of rest)
      at (r, mr, w) = subst (λ (x : Link). In x (map link_of rest)) (sym w) (in_map link_of rest (in_filter keep ps mr (sym (ap keep_link w) ∙ k)))

  -- sorted and then filtered is filtered and then sorted
  rest_links : sort link_before (map link_of rest) ≡ filter keep_link (sort link_before (map link_of ps))
  rest_links =
      let sorted = sort link_before (map link_of ps) in
      let in_order = sort_sorted link_before NotAfter not_after_trans before_yes before_no in
      sorted_unique NotAfter not_after_antisym (sort link_before (map link_of rest)) (filter keep_link sorted)
      (in_order (map link_of rest)) (filter-sorted NotAfter keep_link sorted (in_order (map link_of ps)))
      (sort-distinct link_before (map link_of rest) (links_distinct n rest rest_good))
      (filter-sorted (λ (x y : Link). x ≢ y) keep_link sorted (sort-distinct link_before (map link_of ps) (links_distinct n ps good)))
      (λ f m. let k = rest_in f (sort_in link_before (map link_of rest) m) in in_filter keep_link sorted (in_sort link_before (map link_of ps) k.0) k.1)
      (λ f m. let k = filter_in keep_link sorted m in in_sort link_before (map link_of rest) (in_rest f (sort_in link_before (map link_of ps) k.0) k.1))

  turned : (f : Link) → same_link e f ≡ same_link f e
  turned f = bool_same _ _ (at e f) (at f e)
    where
      at : (x y : Link) → same_link x y ≡ true → same_link y x ≡ true
      at x y h = subst (λ (z : Link). same_link z x ≡ true) (same_link_eq x y h) (same_link_refl x)

  -- one less
  pub withdraw_pairs : Altered n ps (withdraw a b) (without_link G e)
  unfolding graph_of links_of without_link moved
  withdraw_pairs = record { pairs = rest; good = rest_good; is_graph = λ i. record { n = n; links = rest_links i }; names = names }
    where
      names : (f : Link) → member (map link_of rest) f ≡ (member (map link_of ps) f && not (same_link f e))
      names f = bool_same _ _ to back
        where
          to : member (map link_of rest) f ≡ true → (member (map link_of ps) f && not (same_link f e)) ≡ true
          to h = let k = rest_in f (member_in (map link_of rest) f h) in both (in_member (map link_of ps) k.0) (ap not (sym (turned f)) ∙ k.1)

          back : (member (map link_of ps) f && not (same_link f e)) ≡ true → member (map link_of rest) f ≡ true
          back h =
              in_member (map link_of rest)
              (in_rest f (member_in (map link_of ps) f (and_left (member (map link_of ps) f) (not (same_link f e)) h)) (ap not (turned f) ∙ and_right (member (map link_of ps) f) (not (same_link f e)) h))

-- the two accounts of a link that a file names
pub accounts_of_lem : {n : ℕ} (x y : ℕ) (ps : List Pair) → GoodPairs n ps → HasLink ps (link x y) → (x < n) × (y < n) × (x ≢ y)
accounts_of_lem {n} x y ps g m = at (map_in link_of ps (member_in (map link_of ps) (link x y) m))
  where
    at : (p : Pair) × In p ps × (link x y ≡ link_of p) → (x < n) × (y < n) × (x ≢ y)
    at (p, k, q) =
        let f = g.fit p k in
        let lo : min x y ≡ min p.first p.second = ap (λ (z : Link). z.lo) q in
        let hi : max x y ≡ max p.first p.second = ap (λ (z : Link). z.hi) q in
        (omega (arith, lo, hi, f.0, f.1), omega (arith, lo, hi, f.0, f.1), λ s. f.2 (omega (arith, lo, hi, s)))

-- what fits has pairs that a links file may name
module _ {n : ℕ} {ps : List Pair} (named : Named n ps) where
  pub altered_pairs : {c : Change} {H : Graph} → Fits (graph_of n ps) c H → Altered n ps c H
  unfolding graph_of
  altered_pairs (put_fits {a} {b} l h d m f) = put_pairs n ps named.good a b l h d m
  altered_pairs (withdraw_fits {a} {b} l h m) = withdraw_pairs n ps named.good a b

  pub altered-named : {c : Change} {H : Graph} (F : Fits (graph_of n ps) c H) → Named n (altered_pairs F).pairs
  unfolding graph_of altered_pairs put_pairs withdraw_pairs
  altered-named F = record { good = (altered_pairs F).good; some_account = named.some_account; accounts = named.accounts; links = few F }
    where
      few : {c : Change} {H : Graph} (F : Fits (graph_of n ps) c H) → length (altered_pairs F).pairs ≤ max_links
      few (put_fits {a} {b} l h d m f) = omega (arith, f, graph_size n ps)
      few (withdraw_fits {a} {b} l h m) = omega (arith, filter-length (keep n ps named.good a b) ps, named.links)

-- ---- what a call writes

-- the whole call, of the links that are read
module _ (c : Change) (bytes buffer : List ℕ) where
  abbrev wrote : Checked Graph → Written
  wrote x = write (check_room (map_passed index_bytes x) buffer) buffer

  no_index : read_index bytes ≡ refuse 7 0 → change c bytes buffer ≡ record { reply = refused_by 7; buffer = buffer }
  unfolding change map_passed check_room and_then write
  no_index q = rw (q, and_then, map_passed, check_room, write) refl

  pub change-read : {G : Graph} → read_index bytes ≡ passed G → change c bytes buffer ≡ wrote (altered c G)
  unfolding change and_then
  change-read q = rw (q, and_then) refl

  faulty : {G : Graph} {k : ℕ} → read_index bytes ≡ passed G → Faulty G c k → change c bytes buffer ≡ record { reply = refused_by k; buffer = buffer }
  unfolding map_passed check_room and_then write
  faulty q F = change-read q ∙ ap wrote (faulty_altered F)

  fitting : {G H : Graph} → read_index bytes ≡ passed G → Fits G c H → change c bytes buffer ≡ wrote (passed H)
  fitting q F = change-read q ∙ ap wrote (fits_altered F)

-- a build is the same call, of the links that the file names
built : (file buffer : List ℕ) (n : ℕ) (ps : List Pair) → read_links file ≡ accepted n ps → build file buffer ≡ write (check_room (map_passed index_bytes (passed (graph_of n ps))) buffer) buffer
unfolding build map_passed
built file buffer n ps h = rw h refl

-- ---- an index that tells a set

graph_member : (n : ℕ) (ps : List Pair) (e : Link) → member (graph_of n ps).links e ≡ member (map link_of ps) e
graph_member n ps e =
    bool_same _ _ (λ h. in_member (map link_of ps) (graph_in_lem n ps (member_in (graph_of n ps).links e h))) (λ h. in_member (graph_of n ps).links (in_graph n ps (member_in (map link_of ps) e h)))

module _ {b : List ℕ} {n : ℕ} {S : LinkSet} (X : Tells b n S) where
  told_named : Named n X.pairs
  told_named = read_named X.is_index.file n X.pairs X.is_index.file_accepted

  told_read : read_index b ≡ passed (graph_of n X.pairs)
  told_read = ap read_index (sym X.is_index.bytes) ∙ read-index X.is_index.file n X.pairs X.is_index.file_accepted

  told_pairs : (e : Link) → member (map link_of X.pairs) e ≡ S e
  told_pairs e = bool_same _ _ (X.names e).0 (X.names e).1

  told_links : (e : Link) → member (graph_of n X.pairs).links e ≡ S e
  told_links e = graph_member n X.pairs e ∙ told_pairs e

tells_passed : (b : List ℕ) (n : ℕ) (S : LinkSet) → Tells b n S → (G : Graph) × (read_index b ≡ passed G) × (G.n ≡ n) × ((e : Link) → member G.links e ≡ S e)
unfolding graph_of
tells_passed b n S X = (graph_of n X.pairs, told_read X, refl, told_links X)

pub passed_tells : (b : List ℕ) (G : Graph) → read_index b ≡ passed G → Tells b G.n (member G.links)
unfolding graph_of
passed_tells b G h = at (read_only b G h)
  where
    at : (n : ℕ) × (ps : List Pair) × IsIndexOf b n ps × (G ≡ graph_of n ps) → Tells b G.n (member G.links)
    at (n, ps, i, q) =
        subst (λ (H : Graph). Tells b H.n (member H.links)) (sym q)
        (record { pairs = ps; is_index = i; names = λ e. ((λ m. graph_member n ps e ∙ m), (λ m. sym (graph_member n ps e) ∙ m)) })

-- two files of one set name one graph
same_named : {n : ℕ} {ps qs : List Pair} {S : LinkSet} → GoodPairs n ps → GoodPairs n qs → Names ps S → Names qs S → graph_of n ps ≡ graph_of n qs
same_named {n} {ps} {qs} g h s t = same_graph n n ps qs g h (record { same_accounts = refl; same_pairs = λ e. ((λ m. (t e).1 ((s e).0 m)), (λ m. (s e).1 ((t e).0 m))) })

written-front : (r lent : List ℕ) → length r ≤ length lent → take (length r) (write (check_room (passed r) lent) lent).buffer ≡ r
unfolding write check_room and_then
written-front r lent l = rw (le-ltb (length lent) (length r) l, and_then) (take-append_seam r (drop (length r) lent))

tells_built : (b file : List ℕ) (n : ℕ) (ps : List Pair) (S : LinkSet) → Tells b n S → read_links file ≡ accepted n ps → Names ps S → Builds file b
unfolding map_passed
tells_built b file n ps S X h s =
    record {
      lent = b;
      not_refused = subst (λ (y : List ℕ). (build file b).reply ≡ done (length y)) same (only_short_memory file n ps b h (omega (arith, ap length same)));
      written = subst (λ (y : List ℕ). take (length y) (build file b).buffer ≡ y) same (rw (built file b n ps h) (written-front (index_bytes (graph_of n ps)) b (omega (arith, ap length same))));
    }
  where
    same : index_bytes (graph_of n ps) ≡ b
    same = ap index_bytes (same_named (read_named file n ps h).good (told_named X).good s X.names) ∙ X.is_index.bytes

-- ---- "The bytes are those of a fresh build of the altered links"

moved_same : (c : Change) (S T : LinkSet) (e : Link) → S e ≡ T e → moved c S e ≡ moved c T e
unfolding moved
moved_same (put_in a b) S T e q = ap (λ (x : Bool). x || same_link e (link a b)) q
moved_same (withdraw a b) S T e q = ap (λ (x : Bool). x && not (same_link e (link a b))) q

module _ {b : List ℕ} {n : ℕ} {S : LinkSet} (X : Tells b n S) where
  altered_names : {c : Change} {H : Graph} (A : Altered n X.pairs c H) → Names A.pairs (moved c S)
  altered_names {c} A e =
      let s = A.names e ∙ moved_same c (member (map link_of X.pairs)) S e (told_pairs X e) in
      ((λ h. sym s ∙ h), (λ h. s ∙ h))

  -- a file that names the altered set names the altered links
  fresh_links : {c : Change} {H : Graph} (A : Altered n X.pairs c H) (file : List ℕ) (ps : List Pair) → read_links file ≡ accepted n ps → Names ps (moved c S) → graph_of n ps ≡ H
  fresh_links A file ps h s = same_named (read_named file n ps h).good A.good s (altered_names A) ∙ A.is_graph

  fresh : {c : Change} {H : Graph} (buffer file : List ℕ) (ps : List Pair) → Fits (graph_of n X.pairs) c H → graph_of n ps ≡ H → read_links file ≡ accepted n ps → change c b buffer ≡ build file buffer
  fresh {c} buffer file ps F q h = fitting c b buffer (told_read X) F ∙ sym (ap (λ (H : Graph). write (check_room (map_passed index_bytes (passed H)) buffer) buffer) q) ∙ sym (built file buffer n ps h)

puts : (x y : ℕ) (b buffer file : List ℕ) (n : ℕ) (ps : List Pair) (S : LinkSet) → Tells b n S → S (link x y) ≡ false
    → read_links file ≡ accepted n ps → Names ps (moved (put_in x y) S) → change (put_in x y) b buffer ≡ build file buffer
unfolding graph_of with_link moved
puts x y b buffer file n ps S X z h s =
    let here : moved (put_in x y) S (link x y) ≡ true = rw (z, same_link_refl (link x y)) refl in
    let f = accounts_of_lem x y ps (read_named file n ps h).good ((s (link x y)).1 here) in
    let absent = told_links X (link x y) ∙ z in
    let A = put_pairs n X.pairs (told_named X).good x y f.0 f.1 f.2 absent in
    let q = fresh_links X A file ps h s in
    -- one link more than before, and the file has no more than there may be
    let few : length (graph_of n X.pairs).links < max_links =
    omega (arith, (read_named file n ps h).links, graph_size n ps, ap (λ (H : Graph). length H.links) q, insert-length link_before (link x y) (graph_of n X.pairs).links) in
    fresh X buffer file ps (put_fits f.0 f.1 f.2 absent few) q h

withdraws : (x y : ℕ) (b buffer file : List ℕ) (n : ℕ) (ps : List Pair) (S : LinkSet) → Tells b n S → S (link x y) ≡ true
    → read_links file ≡ accepted n ps → Names ps (moved (withdraw x y) S) → change (withdraw x y) b buffer ≡ build file buffer
unfolding graph_of
withdraws x y b buffer file n ps S X z h s =
    let f = accounts_of_lem x y X.pairs (told_named X).good ((X.names (link x y)).1 z) in
    let q = fresh_links X (withdraw_pairs n X.pairs (told_named X).good x y) file ps h s in
    fresh X buffer file ps (withdraw_fits f.0 f.1 (told_links X (link x y) ∙ z)) q h

-- no number without its fault
abbrev Only : Change → List ℕ → List ℕ → Graph → Type 0
Only c b buffer G =
    ((k : ℕ) × Faulty G c k)
    ⊎ ((file : List ℕ) × (ps : List Pair) × (read_links file ≡ accepted G.n ps) × Names ps (moved c (member G.links)) × (change c b buffer ≡ build file buffer))

only : (c : Change) (b buffer : List ℕ) (G : Graph) → read_index b ≡ passed G → Only c b buffer G
unfolding graph_of
only c b buffer G h = at (read_only b G h)
  where
    at : (n : ℕ) × (ps : List Pair) × IsIndexOf b n ps × (G ≡ graph_of n ps) → Only c b buffer G
    at (n, ps, i, q) = subst (Only c b buffer) (sym q) (go (judged c (graph_of n ps)))
      where
        X : Tells b n (member (graph_of n ps).links)
        X = record { pairs = ps; is_index = i; names = λ e. ((λ m. graph_member n ps e ∙ m), (λ m. sym (graph_member n ps e) ∙ m)) }

        go : ((k : ℕ) × Faulty (graph_of n ps) c k) ⊎ ((H : Graph) × Fits (graph_of n ps) c H) → Only c b buffer (graph_of n ps)
        go (inl f) = inl f
        go (inr (H, F)) =
            let A = altered_pairs (told_named X) F in
            let h = write_read n A.pairs (altered-named (told_named X) F) in
            inr (write_links n A.pairs, A.pairs, h, altered_names X A, fresh X buffer (write_links n A.pairs) A.pairs F A.is_graph h)

pub change_rule : ChangeRule
change_rule = record {
  no_index = no_index;
  faulty = λ c b buffer G k. faulty c b buffer;
  puts = puts;
  withdraws = withdraws;
  only = only;
  passed_tells = passed_tells;
  tells_passed = tells_passed;
  tells_built = tells_built;
}

-- ---- any sequence

-- after one change the last index tells what the plain set holds
one_tells : (c : Change) (b buffer : List ℕ) (n : ℕ) (S : LinkSet) → Tells b n S → Tells (last_index (change c b buffer) b) n (last_set (change c b buffer) c S)
unfolding write check_room and_then map_passed
one_tells c b buffer n S X = go (judged c (graph_of n X.pairs))
  where
    G : Graph
    G = graph_of n X.pairs

    go : ((k : ℕ) × Faulty G c k) ⊎ ((H : Graph) × Fits G c H) → Tells (last_index (change c b buffer) b) n (last_set (change c b buffer) c S)
    go (inl (k, F)) = rw (faulty c b buffer (told_read X) F) (rw (ne_eqb k 0 (some_number F)) X)
    go (inr (H, F)) = rw (fitting c b buffer (told_read X) F) (at (test (ltb (length buffer) (length (index_bytes H)))))
      where
        at : (ltb (length buffer) (length (index_bytes H)) ≡ true) ⊎ (ltb (length buffer) (length (index_bytes H)) ≡ false) → Tells (last_index (wrote c b buffer (passed H)) b) n (last_set (wrote c b buffer (passed H)) c S)
        at (inl t) = rw t X
        at (inr t) = rw t (rw (take-append_seam (index_bytes H) (drop (length (index_bytes H)) buffer)) told)
          where
            A : Altered n X.pairs c H
            A = altered_pairs (told_named X) F

            told : Tells (index_bytes H) n (moved c S)
            told = record {
              pairs = A.pairs;
              is_index = record { file = write_links n A.pairs; file_accepted = write_read n A.pairs (altered-named (told_named X) F); bytes = ap index_bytes A.is_graph };
              names = altered_names X A;
            }

-- of any calls that do as the definition does
pub all_tell : (Called : Change → List ℕ → List ℕ → Written → Type 0) → ((c : Change) (x buffer : List ℕ) (w : Written) → Called c x buffer w → w ≡ change c x buffer)
    → (b x : List ℕ) (n : ℕ) (S T : LinkSet) → Tells b n S → Changes Called b S x T → Tells x n T
all_tell Called same b x n S T X (none) = X
all_tell Called same b x n S T X (one c buffer w C R) =
    all_tell Called same (last_index w b) x n (last_set w c S) T (subst (λ (v : Written). Tells (last_index v b) n (last_set v c S)) (sym (same c b buffer w C)) (one_tells c b buffer n S X)) R

pub changes_tell : ChangesTell
changes_tell b x G T h R = all_tell Changed (λ c y buffer w q. q) b x G.n (member G.links) T (passed_tells b G h) R
