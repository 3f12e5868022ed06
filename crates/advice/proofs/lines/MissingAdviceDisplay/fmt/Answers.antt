use Rattle.std.proofs.Common.{codes}
use Rattle.std.proofs.lemmas.List.{append_assoc}
use Rattle.advice.proofs.lines.MissingAdviceDisplay.fmt.Goals as goal

pub returns-clause-writes : goal.returns-clause-writes
returns-clause-writes g c = λ plain ok. rw (append_assoc c.args.self.now.name.now (codes " is missing: ") c.args.self.now.usage.now) (c.write.ensures.writes plain ok)
