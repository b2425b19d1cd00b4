-- The question that the code's enum names. Assumes nothing.
use Rattle.std.specs.Prelude.{List, ℕ}
use Rattle.truss.specs.Question.{Question, ask_strength, ask_joined, ask_groups_at, ask_strongest, ask_all, ask_links, ask_chain}
use Rattle.question.specs.declared.answer.Question.{Question as CQuestion}
use Rattle.question.specs.declared.answer.Question.TheVariants.{Strength, Joined, GroupsAt, StrongestGroups, AllGroups, GroupLinks, Chain}

-- each case of the enum is one question of documents 01 and 02; the accounts that C, D and E name are the lent ones
abbrev pub question_of : CQuestion → List ℕ → Question
question_of (Strength a b) named = ask_strength a b
question_of (Joined a b c d) named = ask_joined a b c d
question_of (GroupsAt k) named = ask_groups_at k named
question_of StrongestGroups named = ask_strongest named
question_of AllGroups named = ask_all named
question_of (GroupLinks a b k) named = ask_links k a b
question_of (Chain a b c d k) named = ask_chain k a b c d
