use Rattle.std.proofs.Common.{sym, subst}
use Rattle.x86_text.specs.InsnLists.{AreNumbers}
use Rattle.x86_text.proofs.InsnListLemmas.{still_numbers, pushed_numbers, pushed_insns}
use Rattle.x86_text.proofs.KnownLemmas.{still_spellings}
use Rattle.x86_text.proofs.insn_list.InsnList.push.Goals as goal

pub invariant_of-self : goal.invariant_of-self
invariant_of-self c = record {
  numbered = still_numbers c.self.inside.kinds.items c.number_of.new.kinds.items c.in_err-number.ensures.kept c.self.inside.numbers.items c.self.invariant.numbered;
  spelled = still_spellings c.self.inside.kinds.items c.number_of.new.kinds.items c.in_err-number.ensures.kept c.self.inside.known c.self.invariant.spelled;
}

pub invariant_of-self-in_err-push : goal.invariant_of-self-in_err-push
invariant_of-self-in_err-push c = record {
  numbered =
      subst (AreNumbers c.number_of.new.kinds.items) (sym c.in_err-push.ensures.items)
      (still_numbers c.self.inside.kinds.items c.number_of.new.kinds.items c.in_ok-number.ensures.kept c.self.inside.numbers.items c.self.invariant.numbered);
  spelled = still_spellings c.self.inside.kinds.items c.number_of.new.kinds.items c.in_ok-number.ensures.kept c.self.inside.known c.self.invariant.spelled;
}

pub invariant_of-self-2 : goal.invariant_of-self-2
invariant_of-self-2 c = record {
  numbered = pushed_numbers c.self.inside.kinds.items c.number_of.new.kinds.items c.in_ok-number.ensures.kept c.self.inside.numbers.items c.self.invariant.numbered c.args.self.now c.self.view_is c.in_ok-number.number c.args.insn c.in_ok-number.ensures.number c.push.new.self.items c.in_ok-push.ensures.items;
  spelled = still_spellings c.self.inside.kinds.items c.number_of.new.kinds.items c.in_ok-number.ensures.kept c.self.inside.known c.self.invariant.spelled;
}

pub returns : goal.returns
returns c = pushed_insns c.self.inside.kinds.items c.number_of.new.kinds.items c.in_ok-number.ensures.kept c.self.inside.numbers.items c.self.invariant.numbered c.args.self.now c.self.view_is c.in_ok-number.number c.args.insn c.in_ok-number.ensures.number c.push.new.self.items c.in_ok-push.ensures.items
