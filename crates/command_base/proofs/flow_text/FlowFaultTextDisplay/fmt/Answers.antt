use Rattle.std.proofs.Common.{append_assoc}
use Rattle.command_base.proofs.flow_text.FlowFaultTextDisplay.fmt.Goals as goal

pub returns-in-NotBoundary-clause-writes : goal.returns-in-NotBoundary-clause-writes
returns-in-NotBoundary-clause-writes g c = λ plain ok. rw c.in-NotBoundary.is (simp append_assoc (c.write-in-NotBoundary.ensures.writes plain ok))

pub returns-in-NotCall-clause-writes : goal.returns-in-NotCall-clause-writes
returns-in-NotCall-clause-writes g c = λ plain ok. rw c.in-NotCall.is (c.write-in-NotCall.ensures.writes plain ok)

pub returns-in-NotFunction-clause-writes : goal.returns-in-NotFunction-clause-writes
returns-in-NotFunction-clause-writes g c = λ plain ok. rw c.in-NotFunction.is (c.write-in-NotFunction.ensures.writes plain ok)
