use Rattle.orc_walk.specs.ImageFile.{sayings}
use Rattle.orc_walk.specs.Reading.{said_by}
use Rattle.orc_walk.proofs.SayingLemmas.{reads}
use Rattle.orc_walk.proofs.reading.Reading.read.Goals as goal

pub returns-clause-reads : goal.returns-clause-reads
returns-clause-reads c = λ earlier is. reads earlier c.args.line.now (said_by c.in_ok-statement.statement) c.add.new.self c.add.result c.in_ok-statement.ensures.says (c.add.ensures.adds (sayings earlier) is)
