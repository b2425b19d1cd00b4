-- `question::answer::answer_of` meets its contract. Assumes nothing.
use mathlib.Core.Path.{◌∙◌, ap, subst, sym}
use Rattle.stored.specs.Opening.{graph}
use Rattle.question.specs.Replies.{Answers}
use Rattle.question.specs.Asked.{question_of}
use Rattle.question.specs.declared.answer.Question.{Question as CQuestion}
use lib.ListN.{length}
use Rattle.columns.specs.Wiping.{zeros-length}
use Rattle.question.proofs.answer.answer_of.Goals as goal

pub group_links-requires : goal.group_links-requires
group_links-requires c = ap length c.requires ∙ zeros-length _

pub returns-in-Strength : goal.returns-in-Strength
returns-in-Strength c = subst (λ (q : CQuestion). Answers (graph c.args.index) (question_of q c.args.named.now) c.args.out.now c.strength_of.result c.args.out.now) (sym c.in-Strength.is) (c.strength_of.ensures c.args.out.now)

pub returns-in-Joined : goal.returns-in-Joined
returns-in-Joined c = subst (λ (q : CQuestion). Answers (graph c.args.index) (question_of q c.args.named.now) c.args.out.now c.joined.result c.args.out.now) (sym c.in-Joined.is) (c.joined.ensures c.args.out.now)

pub returns-in-GroupsAt : goal.returns-in-GroupsAt
returns-in-GroupsAt c = subst (λ (q : CQuestion). Answers (graph c.args.index) (question_of q c.args.named.now) c.args.out.now c.groups_at.result c.groups_at.new.out) (sym c.in-GroupsAt.is) c.groups_at.ensures

pub returns-in-StrongestGroups : goal.returns-in-StrongestGroups
returns-in-StrongestGroups c = subst (λ (q : CQuestion). Answers (graph c.args.index) (question_of q c.args.named.now) c.args.out.now c.strongest_groups.result c.strongest_groups.new.out) (sym c.in-StrongestGroups.is) c.strongest_groups.ensures

pub returns-in-AllGroups : goal.returns-in-AllGroups
returns-in-AllGroups c = subst (λ (q : CQuestion). Answers (graph c.args.index) (question_of q c.args.named.now) c.args.out.now c.all_groups.result c.all_groups.new.out) (sym c.in-AllGroups.is) c.all_groups.ensures

pub returns-in-GroupLinks : goal.returns-in-GroupLinks
returns-in-GroupLinks c = subst (λ (q : CQuestion). Answers (graph c.args.index) (question_of q c.args.named.now) c.args.out.now c.group_links.result c.group_links.new.out) (sym c.in-GroupLinks.is) c.group_links.ensures

pub returns-in-Chain : goal.returns-in-Chain
returns-in-Chain c = subst (λ (q : CQuestion). Answers (graph c.args.index) (question_of q c.args.named.now) c.args.out.now c.shortest_chain.result c.shortest_chain.new.out) (sym c.in-Chain.is) c.shortest_chain.ensures
