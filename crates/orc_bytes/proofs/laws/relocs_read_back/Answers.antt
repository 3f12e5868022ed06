use Rattle.orc_bytes.proofs.ReadBack.{relocs_read}
use Rattle.orc_bytes.proofs.laws.relocs_read_back.Goals as goal

pub returns : goal.returns
returns c = relocs_read
