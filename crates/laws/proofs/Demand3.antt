-- Demand 3, proved: of what builds write that are not refused, whatever memory was lent and whatever that held.
use mathlib.Core.Path.{◌≡◌, refl, sym, ap, ◌∙◌}
use mathlib.Core.Logic.{◌⊎◌, inl, inr}
use mathlib.Core.Bool.{true, false}
use mathlib.Core.List.{List, [], ◌∷◌, ◌++◌}
use Prim.Native.Nat.{ℕ}
use native.Mathlib.Omega.{arith}
use lib.Dec.{ltb}
use lib.ListN.{length, take, drop}
use borrow.Author.Tests.{le-ltb}
use Rattle.truss.specs.Graph.{Pair, graph_of}
use Rattle.truss.specs.Refusal.{passed, and_then, map_passed}
use Rattle.truss.specs.LinksFile.{accepted, read_links}
use Rattle.truss.specs.Index.{index_bytes}
use Rattle.truss.specs.Call.{Reply, done, write, check_room, build}
use Rattle.truss.specs.Demand3.{Builds, Agrees, Demand3, OnlyShortMemory}
use Rattle.laws.proofs.Lists.{test}
use Rattle.laws.proofs.Accepted.{read_named}
use Rattle.laws.proofs.Agree.{decoded, agree, same_bytes}

take-front : (xs ys : List ℕ) → take (length xs) (xs ++ ys) ≡ xs
take-front [] ys = refl
take-front (x ∷ xs) ys = ap {B = List ℕ} (λ zs. x ∷ zs) (take-front xs ys)

-- what is written for a result that passed is that result, if the write is not refused
pub written_is : (r lent b : List ℕ) → (write (check_room (passed r) lent) lent).reply ≡ done (length b) → take (length b) (write (check_room (passed r) lent) lent).buffer ≡ b → b ≡ r
unfolding write check_room and_then
written_is r lent b = go (test (ltb (length lent) (length r)))
  where
    go : (ltb (length lent) (length r) ≡ true) ⊎ (ltb (length lent) (length r) ≡ false)
        → (write (check_room (passed r) lent) lent).reply ≡ done (length b) → take (length b) (write (check_room (passed r) lent) lent).buffer ≡ b → b ≡ r
    go (inl c) = rw (c, and_then) (λ d w. let z : ◌≡◌ {A = ℕ} 12 0 = ap (λ (x : Reply). x.refusal) d in absurd (omega arith))
    go (inr c) = rw (c, and_then) (λ d w. sym w ∙ ap (λ (l : ℕ). take l (r ++ drop (length r) lent)) (sym (ap (λ (x : Reply). x.value) d)) ∙ take-front r (drop (length r) lent))

-- what a build of an accepted file writes is the index of what the file names
pub built : (file : List ℕ) (n : ℕ) (ps : List Pair) (b : List ℕ) → read_links file ≡ accepted n ps → Builds file b → b ≡ index_bytes (graph_of n ps)
unfolding build map_passed
built file n ps b h x =
    written_is (index_bytes (graph_of n ps)) x.lent b
    (rw h at x.not_refused)
    (rw h at x.written)

agrees : (file : List ℕ) (n : ℕ) (ps : List Pair) (b : List ℕ) → read_links file ≡ accepted n ps → b ≡ index_bytes (graph_of n ps) → Agrees n ps b
agrees file n ps b h q e f he hf ne k l _ = rw (q, decoded n ps (read_named file n ps h)) (agree n ps (read_named file n ps h) e f he hf ne k l)

pub demand3 : Demand3
demand3 file file' n n' ps ps' b b' h h' x x' =
    let q = built file n ps b h x in
    let q' = built file' n' ps' b' h' x' in
    record {
      same_index = rw (q, q') (same_bytes n n' ps ps' (read_named file n ps h) (read_named file' n' ps' h'));
      agrees = agrees file n ps b h q;
      agrees' = agrees file' n' ps' b' h' q';
    }

pub only_short_memory : OnlyShortMemory
unfolding build map_passed check_room and_then write
only_short_memory file n ps lent h l = rw (h, le-ltb (length lent) (length (index_bytes (graph_of n ps))) l) refl
