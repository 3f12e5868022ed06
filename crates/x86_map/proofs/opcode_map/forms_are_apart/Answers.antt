use Rattle.x86_map.proofs.Apart.{forms-apart}
use Rattle.x86_map.proofs.opcode_map.forms_are_apart.Goals as goal

pub returns : goal.returns
returns c = forms-apart
