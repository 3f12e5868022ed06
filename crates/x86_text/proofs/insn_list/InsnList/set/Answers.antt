use Rattle.x86_text.proofs.InsnListLemmas.{still_numbers, set_numbers, set_insns}
use Rattle.x86_text.proofs.KnownLemmas.{still_spellings}
use Rattle.x86_text.proofs.insn_list.InsnList.set.Goals as goal

pub invariant_of-self : goal.invariant_of-self
invariant_of-self c = record {
  numbered = still_numbers c.self.inside.kinds.items c.number_of.new.kinds.items c.in_err-number.ensures.kept c.self.inside.numbers.items c.self.invariant.numbered;
  spelled = still_spellings c.self.inside.kinds.items c.number_of.new.kinds.items c.in_err-number.ensures.kept c.self.inside.known c.self.invariant.spelled;
}

pub invariant_of-self-2 : goal.invariant_of-self-2
invariant_of-self-2 c = record {
  numbered = set_numbers c.self.inside.kinds.items c.number_of.new.kinds.items c.in_ok-number.ensures.kept c.self.inside.numbers.items c.self.invariant.numbered c.args.self.now c.self.view_is c.in_ok-number.number c.args.insn c.in_ok-number.ensures.number c.args.n;
  spelled = still_spellings c.self.inside.kinds.items c.number_of.new.kinds.items c.in_ok-number.ensures.kept c.self.inside.known c.self.invariant.spelled;
}

pub returns : goal.returns
returns c = set_insns c.self.inside.kinds.items c.number_of.new.kinds.items c.in_ok-number.ensures.kept c.self.inside.numbers.items c.self.invariant.numbered c.args.self.now c.self.view_is c.in_ok-number.number c.args.insn c.in_ok-number.ensures.number c.args.n
