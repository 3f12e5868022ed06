use Rattle.std.proofs.Common.{ℕ, List, sym, subst}
use Rattle.operation_defs.specs.declared.insn.Insn.{Insn}
use Rattle.x86_text.specs.InsnLists.{AreNumbered}
use Rattle.x86_text.proofs.InsnListLemmas.{numbered_insns}
use Rattle.x86_text.proofs.insn_list.InsnList.numbered.Goals as goal

pub returns : goal.returns
returns c =
    let kinds : List Insn = c.self.inside.kinds.items in
    let numbers : List ℕ = c.self.inside.numbers.items in
    subst (λ (xs : List Insn). AreNumbered c.args.self.now xs c.deref-2.result.now) (sym c.deref.ensures.value)
    (subst (λ (ns : List ℕ). AreNumbered c.args.self.now kinds ns) (sym c.deref-2.ensures.value)
    (subst (λ (insns : List Insn). AreNumbered insns kinds numbers) c.self.view_is (numbered_insns kinds numbers c.self.invariant.numbered)))
