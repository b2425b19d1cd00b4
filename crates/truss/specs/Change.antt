-- One link put in or withdrawn (document 02, request 4): the altered links, and the whole call.
use Rattle.std.specs.Prelude.{not, List, [], ◌∷◌, ℕ, eqb, leb, length}
use Rattle.truss.specs.Limits.{max_links}
use Rattle.truss.specs.Lists.{filter, insert}
use Rattle.truss.specs.Graph.{Link, Graph, link, same_link, link_before, member}
use Rattle.truss.specs.Refusal.{Checked, passed, refuse_if, and_then, map_passed}
use Rattle.truss.specs.Index.{index_bytes}
use Rattle.truss.specs.IndexFile.{read_index}
use Rattle.truss.specs.Question.{outside, no_link}
use Rattle.truss.specs.Call.{Written, write, check_room}

-- "one link can be put in or withdrawn": it is named by its two accounts, in either order
pub data Change : Type 0 where
  put_in : (a b : ℕ) → Change
  withdraw : (a b : ℕ) → Change

-- the links with one more, in its place by lower then higher account, and without one
unfoldable pub with_link : Graph → Link → Graph
unfolding insert
with_link G e = record { n = G.n; links = insert link_before e G.links }

unfoldable pub without_link : Graph → Link → Graph
unfolding filter
without_link G e = record { n = G.n; links = filter (λ f. not (same_link e f)) G.links }

-- "the order is 7, 9, 5, 14, 11, 3, 12": here 9 to 3. "equal ends on putting in are 5 with place 0"; 14, "a pair to put in is there already"; "A link put in at
-- 2,048 links is refused by 3 with place 0"; "a withdrawn link must exist, else 11"
unfoldable pub altered : Change → Graph → Checked Graph
unfolding outside member with_link without_link
altered (put_in a b) G =
    refuse_if (outside G (a ∷ b ∷ [])) 9 0
    (refuse_if (eqb a b) 5 0
    (refuse_if (member G.links (link a b)) 14 0
    (refuse_if (leb max_links (length G.links)) 3 0
    (passed (with_link G (link a b))))))
altered (withdraw a b) G =
    refuse_if (outside G (a ∷ b ∷ [])) 9 0
    (refuse_if (no_link G a b) 11 0
    (passed (without_link G (link a b))))

-- "From an index, one link can be put in or withdrawn, giving the index of the altered set in a second buffer. The bytes are those of a fresh build of the altered
-- links." The index is lent to read; the buffer is the second. No desk is lent: a change is no question, and no tally moves.
unfoldable pub change : Change → List ℕ → List ℕ → Written
unfolding write check_room map_passed index_bytes and_then read_index altered
change c bytes buffer = write (check_room (map_passed index_bytes (and_then (read_index bytes) (altered c))) buffer) buffer
