use Rattle.std.proofs.Common.{List, [], sym, subst, arith}
use Rattle.operation_defs.specs.declared.insn.Insn.{Insn}
use Rattle.x86_text.specs.InsnLists.{AreNumbers}
use Rattle.x86_text.proofs.insn_list.InsnList.new.Goals as goal

none_numbered : (kinds : List Insn) → AreNumbers kinds []
none_numbered kinds = λ k d within. absurd (omega (arith, within))

pub invariant_of-result : goal.invariant_of-result
invariant_of-result c = record {
  numbered = subst (AreNumbers c.new.result.items) (sym c.new-2.ensures.items) (none_numbered c.new.result.items);
  spelled = c.none.ensures c.new.result.items;
}
