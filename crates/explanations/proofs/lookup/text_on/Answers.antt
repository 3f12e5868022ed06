use Rattle.std.proofs.Common.{◌∙◌, sym}
use Rattle.explanations.proofs.Found.{text-found}
use Rattle.explanations.proofs.lookup.text_on.Goals as goal

pub returns-in-Some : goal.returns-in-Some
returns-in-Some c = text-found c.args.rows.now c.args.topic.now _ (sym c.in-Some.is ∙ c.row_on.ensures)

pub returns-in-None : goal.returns-in-None
returns-in-None c = text-found c.args.rows.now c.args.topic.now _ (sym c.in-None.is ∙ c.row_on.ensures)
