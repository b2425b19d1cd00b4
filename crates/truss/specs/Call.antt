-- Whole calls: what each gives back and every lent byte afterwards, from its arguments and the lent bytes alone.
use Rattle.std.specs.Prelude.{List, [], ◌∷◌, ◌++◌, ℕ, suc, ◌+◌, ◌*◌, ◌/◌, ◌%◌, min, ltb, leb, length, get_or, take, drop, set}
use Rattle.truss.specs.Limits.{windows, max_tally, tally_length, desk_length}
use Rattle.truss.specs.Lists.{concat_map}
use Rattle.truss.specs.Graph.{Triangle, graph_of}
use Rattle.truss.specs.Refusal.{Refusal, Checked, passed, refused, refuse_if, and_then, map_passed}
use Rattle.truss.specs.Record.{field, byte_at}
use Rattle.truss.specs.LinksFile.{Links, graph_of_links, read_links, read_back}
use Rattle.truss.specs.Index.{index_bytes}
use Rattle.truss.specs.IndexFile.{read_index}
use Rattle.truss.specs.Question.{Question, Answer, two_numbers, number, numbers, chain, answer}

-- The four numbers of a reply, as the C host gets them: refusal 0 is done, with a value; else the refusal's number, with its place as the value.
pub record Reply : Type 0 where
  pub refusal : ℕ
  pub value : ℕ
  pub second : ℕ
  pub third : ℕ

abbrev pub done : ℕ → Reply
done x = record { refusal = 0; value = x; second = 0; third = 0 }

abbrev pub done_with : ℕ → ℕ → Reply
done_with x y = record { refusal = 0; value = x; second = y; third = 0 }

abbrev pub not_done : Refusal → Reply
not_done r = record { refusal = r.number; value = r.place; second = 0; third = 0 }

-- 12: "the whole result is longer than the buffer lent for it"
abbrev pub with_room : {A : Type 0} → List ℕ → List ℕ → A → Checked A
with_room result buffer x = refuse_if (ltb (length buffer) (length result)) 12 0 (passed x)

-- "Bytes of a lent buffer after any result, an index or links file too, stay."
abbrev pub overwrite : {A : Type 0} → List A → List A → List A
overwrite result buffer = result ++ drop (length result) buffer

-- ---- building and reading back

pub record Written : Type 0 where
  pub reply : Reply
  pub buffer : List ℕ

-- the value is the number of bytes written; refused: "All lent memory keeps its bytes."
unfoldable pub write : Checked (List ℕ) → List ℕ → Written
write (passed result) buffer = record { reply = done (length result); buffer = overwrite result buffer }
write (refused r) buffer = record { reply = not_done r; buffer = buffer }

unfoldable pub check_room : Checked (List ℕ) → List ℕ → Checked (List ℕ)
unfolding and_then
check_room result buffer = and_then result (λ b. with_room b buffer b)

-- the index of what an accepted links file names
abbrev pub index_of : Links → List ℕ
index_of l = index_bytes (graph_of_links l)

-- build: a links file into its index. "A build meets 12 after 1 to 6"
unfoldable pub build : List ℕ → List ℕ → Written
unfolding write check_room map_passed index_bytes graph_of read_links
build file buffer = write (check_room (map_passed index_of (read_links file)) buffer) buffer

-- read: an index back into a links file. "a reading after 7"
unfoldable pub read : List ℕ → List ℕ → Written
unfolding write check_room map_passed read_back read_index
read bytes buffer = write (check_room (map_passed read_back (read_index bytes)) buffer) buffer

-- ---- questions

-- "three two-byte accounts, rising, for each triangle"
abbrev pub triangle_bytes : Triangle → List ℕ
triangle_bytes t = field t.a ++ field t.b ++ field t.c

-- "C to F write a two-byte count, then that many two-byte group numbers (F: link numbers)": C to E as `listed`, F rising. G: "a two-byte count and then" its
-- triangles. A and B write nothing.
unfoldable pub answer_bytes : Answer → List ℕ
unfolding concat_map
answer_bytes (two_numbers x y) = []
answer_bytes (number x) = []
answer_bytes (numbers xs) = field (length xs) ++ concat_map field xs
answer_bytes (chain ts) = field (length ts) ++ concat_map triangle_bytes ts

-- the value of the reply: A's strength, B's answer, the number of bytes written by C to G
unfoldable pub answer_value : Answer → ℕ
unfolding answer_bytes
answer_value (two_numbers x y) = x
answer_value (number x) = x
answer_value (numbers xs) = length (answer_bytes (numbers xs))
answer_value (chain ts) = length (answer_bytes (chain ts))

-- its second number: A's triangles, 0 for the others
unfoldable pub answer_second : Answer → ℕ
answer_second (two_numbers x y) = y
answer_second (number x) = 0
answer_second (numbers xs) = 0
answer_second (chain ts) = 0

abbrev pub answer_reply : Answer → Reply
answer_reply a = done_with (answer_value a) (answer_second a)

-- "A question is checked as 7, 8, 9, 10, 11, 12, those that apply."
unfoldable pub checked_answer : List ℕ → Question → List ℕ → Checked Answer
unfolding and_then read_index answer answer_bytes
checked_answer bytes q buffer = and_then (read_index bytes) (λ G. and_then (answer G q) (λ a. with_room (answer_bytes a) buffer a))

-- ---- the desk

-- 13: "window above 31, ahead of all others"
abbrev pub check_window : ℕ → Checked Answer → Checked Answer
check_window w rest = refuse_if (leb windows w) 13 0 rest

-- "one more when answered, unmoved when refused, and resting at 4,294,967,295"
abbrev pub next_tally : ℕ → ℕ
next_tally t = min (suc t) max_tally

pub record Asked : Type 0 where
  pub reply : Reply
  pub buffer : List ℕ
  pub tallies : List ℕ

-- "An answered question moves only that window's tally"; the tallies stand in window order
unfoldable pub settle : Checked Answer → List ℕ → ℕ → List ℕ → Asked
unfolding answer_bytes answer_value answer_second
settle (passed a) buffer w tallies =
    record {
      reply = answer_reply a;
      buffer = overwrite (answer_bytes a) buffer;
      tallies = set tallies w (next_tally (get_or tallies w 0));
    }
settle (refused r) buffer w tallies = record { reply = not_done r; buffer = buffer; tallies = tallies }

-- a question of window w on the bytes of an index, with a lent answer buffer and the desk's tallies: "every question names its window"
unfoldable pub ask : List ℕ → Question → List ℕ → ℕ → List ℕ → Asked
unfolding settle checked_answer
ask bytes q buffer w tallies = settle (check_window w (checked_answer bytes q buffer)) buffer w tallies

-- ---- the desk record as bytes

-- "A call from C lends the record as bytes, four to a tally, high byte first"
abbrev pub tally_bytes : ℕ → List ℕ
tally_bytes t = t / 16777216 % 256 ∷ t / 65536 % 256 ∷ t / 256 % 256 ∷ t % 256 ∷ []

abbrev pub tally_in : List ℕ → ℕ
tally_in d = byte_at d 0 * 16777216 + byte_at d 1 * 65536 + byte_at d 2 * 256 + byte_at d 3

-- the tally of window w in the record, and the record with t in its place
abbrev pub tally_at : ℕ → List ℕ → ℕ
tally_at w desk = tally_in (drop (w * tally_length) desk)

abbrev pub put_tally : ℕ → ℕ → List ℕ → List ℕ
put_tally w t desk = take (w * tally_length) desk ++ overwrite (tally_bytes t) (drop (w * tally_length) desk)

pub record AskedBytes : Type 0 where
  pub reply : Reply
  pub buffer : List ℕ
  pub desk : List ℕ

-- "too few are 12": the last check
unfoldable pub check_desk : Checked Answer → List ℕ → Checked Answer
unfolding and_then
check_desk a desk = and_then a (λ x. refuse_if (ltb (length desk) desk_length) 12 0 (passed x))

unfoldable pub settle_bytes : Checked Answer → List ℕ → ℕ → List ℕ → AskedBytes
unfolding answer_bytes answer_value answer_second
settle_bytes (passed a) buffer w desk =
    record {
      reply = answer_reply a;
      buffer = overwrite (answer_bytes a) buffer;
      desk = put_tally w (next_tally (tally_at w desk)) desk;
    }
settle_bytes (refused r) buffer w desk = record { reply = not_done r; buffer = buffer; desk = desk }

-- the same question from a host that lends the desk record as bytes
unfoldable pub ask_bytes : List ℕ → Question → List ℕ → ℕ → List ℕ → AskedBytes
unfolding settle_bytes check_desk checked_answer
ask_bytes bytes q buffer w desk = settle_bytes (check_window w (check_desk (checked_answer bytes q buffer) desk)) buffer w desk
