-- `laws` promises demand 3, that a refused call leaves all lent memory as it was, that question A answers with a link's strength and how many triangles of at least that weight hold it, that
-- C, D and E list the groups of before by strength, accounts held and least link, that question G answers with the first of the shortest chains, what document 02 says of lone links, what the window and the record as bytes have to
-- do with a question, what a run of questions leaves in each window's tally, what a change is refused by and writes, what an index tells after any sequence of changes, and what trying a
-- limit on a day's bets gives.
use Rattle.laws.proofs.Demand3.{demand3, only_short_memory}
use Rattle.laws.proofs.Refused.{refusal_keeps}
use Rattle.laws.proofs.Support.{firmness_rule}
use Rattle.laws.proofs.Listed.{order_rule}
use Rattle.laws.proofs.ShortestRoom.{ways}
use Rattle.laws.proofs.Lone.{lone_rule}
use Rattle.laws.proofs.Windows.{window_rule, record_rule}
use Rattle.laws.proofs.Run.{run_tallies, run_record}
use Rattle.laws.proofs.Changes.{change_rule, changes_tell}
use Rattle.laws.proofs.Trial.{trial_rule}
use Rattle.laws.proofs.laws.Goals as goal

pub returns : goal.returns
returns c = (demand3, only_short_memory, refusal_keeps, firmness_rule, order_rule, ways, lone_rule, window_rule, record_rule, run_tallies, run_record, change_rule, changes_tell, trial_rule)
