use Rattle.orc_walk.proofs.SayingLemmas.{adds_nothing}
use Rattle.orc_walk.proofs.reading.Reading.add.Goals as goal

pub returns-in-Nothing-clause-adds : goal.returns-in-Nothing-clause-adds
returns-in-Nothing-clause-adds c = λ earlier is. adds_nothing earlier c.args.self.now c.args.statement is c.in-Nothing.is
