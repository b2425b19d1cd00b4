-- Over any sequence of changes, refused ones included, the last index written tells what a plain set of pairs would hold. Of calls by their promises. Assumes nothing.
use Rattle.std.specs.Prelude.{Result, ◌≡◌, refl, ◌≢◌, List, ℕ}
use Rattle.std.proofs.Common.{sym, subst, ◌∙◌}
use Rattle.truss.specs.Graph.{LinkSet, Graph, member}
use Rattle.truss.specs.Refusal.{passed}
use Rattle.truss.specs.IndexFile.{read_index}
use Rattle.truss.specs.Call.{Written}
use Rattle.truss.specs.Change.{Change, change}
use Rattle.truss.specs.Changes.{Tells, Changes}
use Rattle.laws.proofs.Refused.{refusal_keeps}
use Rattle.laws.proofs.Changes.{passed_tells, all_tell}
use Rattle.limits.specs.declared.refusal.Refusal.{Refusal}
use Rattle.limits.specs.Refusals.{checked}
use Rattle.index.specs.declared.Reply.{Reply as CReply}
use Rattle.index.specs.Build.{given_back, replied}
use Rattle.changes.specs.Calls.{ChangeGives, ChangeReplies}

-- what a call of `put_in` or `withdraw` gives back, or one of the two for a C host: it is given the index x, and lent a buffer
pub data Call (c : Change) (x buffer : List ℕ) (w : Written) : Type 0 where
  of_library : (result : Result ℕ Refusal) (buffer' : List ℕ) → ChangeGives c x buffer result buffer' → w ≡ given_back (checked result) buffer' → Call c x buffer w
  of_host : (reply : CReply) (buffer' : List ℕ) → ChangeReplies c x buffer reply buffer' → w ≡ replied reply buffer' → Call c x buffer w

-- what meets the promise is such a call, and nothing more is asked of it
pub call : (c : Change) (x buffer : List ℕ) (r : Result ℕ Refusal) (buffer' : List ℕ) → ChangeGives c x buffer r buffer' → Call c x buffer (given_back (checked r) buffer')
call c x buffer r buffer' g = of_library r buffer' g refl

pub host_call : (c : Change) (x buffer : List ℕ) (r : CReply) (buffer' : List ℕ) → ChangeReplies c x buffer r buffer' → Call c x buffer (replied r buffer')
host_call c x buffer r buffer' g = of_host r buffer' g refl

call_changes : (c : Change) (x buffer : List ℕ) (w : Written) → Call c x buffer w → w ≡ change c x buffer
call_changes c x buffer w (of_library r b g q) = q ∙ g
call_changes c x buffer w (of_host r b g q) = q ∙ g

-- THE THEOREM: at first any bytes that 7 lets pass. What is called in between does not matter, as long as the bytes lent are those last written.
pub library_changes : (b x : List ℕ) (G : Graph) (T : LinkSet) → read_index b ≡ passed G → Changes Call b (member G.links) x T → Tells x G.n T
library_changes b x G T h R = all_tell Call call_changes b x G.n (member G.links) T (passed_tells b G h) R

-- the same from an index of which it is known otherwise what it tells: one that was built from a links file tells the set that the file names
pub library_changes_from : (b x : List ℕ) (n : ℕ) (S T : LinkSet) → Tells b n S → Changes Call b S x T → Tells x n T
library_changes_from b x n S T X R = all_tell Call call_changes b x n S T X R

-- "a refused change leaves both buffers": the second one; the first is lent to read
pub call_leaves : (c : Change) (x buffer : List ℕ) (w : Written) → Call c x buffer w → w.reply.refusal ≢ 0 → w.buffer ≡ buffer
call_leaves c x buffer w C = subst (λ (v : Written). v.reply.refusal ≢ 0 → v.buffer ≡ buffer) (sym (call_changes c x buffer w C)) (refusal_keeps.change c x buffer)
