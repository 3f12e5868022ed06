use Rattle.std.proofs.Common.{◌∙◌, ap}
use Rattle.explanations.specs.Entry.{text_on}
use Rattle.explanations.proofs.lookup.explanation.Goals as goal

pub returns : goal.returns
returns c = c.text_in.ensures ∙ ap (λ entries. text_on entries c.args.topic.now) c.all_rows.ensures
