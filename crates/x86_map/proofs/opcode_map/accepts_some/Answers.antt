use Rattle.x86_map.proofs.Accepting.{stands_is}
use Rattle.x86_map.proofs.opcode_map.accepts_some.Goals as goal

pub returns-clause-some : goal.returns-clause-some
returns-clause-some c = rw c.stands.ensures (stands_is c.args.p c.args.number c.requires.first c.requires.last)
