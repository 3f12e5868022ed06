use Rattle.x86_text.proofs.InsnListLemmas.{moved_insn}
use Rattle.x86_text.proofs.insn_list.InsnList.set_from.Goals as goal

pub returns : goal.returns
returns c = moved_insn c.self.inside.kinds.items c.self.inside.numbers.items c.args.self.now c.self.view_is c.args.to c.args.from c.index.result.now c.requires.from c.index.ensures
