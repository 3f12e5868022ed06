use Rattle.x86_text.proofs.insn_list.InsnList.forget_spellings.Goals as goal

pub invariant_of-self : goal.invariant_of-self
invariant_of-self c = record {
  numbered = c.self.invariant.numbered;
  spelled = c.none.ensures c.self.inside.kinds.items;
}
