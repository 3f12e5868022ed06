use Rattle.std.proofs.Common.{sym, subst}
use Rattle.x86_text.specs.InsnLists.{AreNumbers}
use Rattle.x86_text.proofs.insn_list.InsnList.make_room.Goals as goal

pub invariant_of-self-then-not-has_room : goal.invariant_of-self-then-not-has_room
invariant_of-self-then-not-has_room c = record {
  numbered = subst (AreNumbers c.self.inside.kinds.items) (sym c.in_ok-reserve.ensures.items) c.self.invariant.numbered;
  spelled = c.in_ok-self-inside.ensures c.self.inside.kinds.items;
}
