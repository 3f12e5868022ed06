use Rattle.std.proofs.Common.{◌∙◌, sym}
use Rattle.explanations.proofs.Marked.{topic-found}
use Rattle.explanations.proofs.refusal.topic_in.Goals as goal

pub returns-in-Some : goal.returns-in-Some
returns-in-Some c = topic-found c.args.marks.now c.args.line.now _ (sym c.in-Some.is ∙ c.mark_in.ensures)

pub returns-in-None : goal.returns-in-None
returns-in-None c = topic-found c.args.marks.now c.args.line.now _ (sym c.in-None.is ∙ c.mark_in.ensures)
