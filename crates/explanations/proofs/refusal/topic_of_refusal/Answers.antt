use Rattle.std.proofs.Common.{◌∙◌, ap}
use Rattle.explanations.specs.Refusals.{topic_in}
use Rattle.explanations.proofs.KindLaws.{kinds-are-told, topic-is-one}
use Rattle.explanations.proofs.refusal.topic_of_refusal.Goals as goal

pub returns-then-is_explained-clause-explained : goal.returns-then-is_explained-clause-explained
returns-then-is_explained-clause-explained c =
    topic-is-one c.topic_in.result c.args.line.now (c.topic_in.ensures ∙ ap (λ marks. topic_in marks c.args.line.now) c.marks.ensures)

pub returns-then-is_explained-clause-titles : goal.returns-then-is_explained-clause-titles
returns-then-is_explained-clause-titles c = kinds-are-told

pub returns-else-is_explained-clause-titles : goal.returns-else-is_explained-clause-titles
returns-else-is_explained-clause-titles c = kinds-are-told
