use Rattle.orc_merge.specs.LayoutFile.{files_said}
use Rattle.orc_merge.specs.LayoutReading.{said_by}
use Rattle.orc_merge.proofs.LayoutLemmas.{reads}
use Rattle.orc_merge.proofs.layout.Reading.read.Goals as goal

pub returns : goal.returns
returns c = λ earlier is. reads earlier c.args.line.now (said_by c.in_ok-statement.statement) c.add.new.self c.add.result c.in_ok-statement.ensures (c.add.ensures (files_said earlier) is)
