use Rattle.std.proofs.Common.{refl, sym, subst}
use Rattle.x86_map.specs.declared.map.Map.{Map}
use Rattle.x86_decode.specs.Decoding.{StandsInFront}
use Rattle.x86_text.specs.InsnLists.{AreNumbers}
use Rattle.x86_text.proofs.InsnListLemmas.{still_numbers, pushed_numbers, pushed_insns}
use Rattle.x86_text.proofs.KnownLemmas.{still_spellings}
use Rattle.x86_text.proofs.insn_list.InsnList.push_read.Goals as goal

pub invariant_of-self : goal.invariant_of-self
invariant_of-self c = record {
  numbered = still_numbers c.self.inside.kinds.items c.number_of.new.kinds.items c.in_err-number.ensures.kept c.self.inside.numbers.items c.self.invariant.numbered;
  spelled = still_spellings c.self.inside.kinds.items c.number_of.new.kinds.items c.in_err-number.ensures.kept c.self.inside.known c.self.invariant.spelled;
}

pub invariant_of-self-in_err-push : goal.invariant_of-self-in_err-push
invariant_of-self-in_err-push c = record {
  numbered =
      subst (AreNumbers c.number_of.new.kinds.items) (sym c.in_err-push.ensures.items)
      (still_numbers c.self.inside.kinds.items c.number_of.new.kinds.items c.in_ok-number.ensures.kept c.self.inside.numbers.items c.self.invariant.numbered);
  spelled = still_spellings c.self.inside.kinds.items c.number_of.new.kinds.items c.in_ok-number.ensures.kept c.self.inside.known c.self.invariant.spelled;
}

pub invariant_of-self-then-is_by : goal.invariant_of-self-then-is_by
invariant_of-self-then-is_by c =
    let stands : StandsInFront c.self.inside.known.map c.args.bytes.now c.args.insn = subst (λ (map : Map). StandsInFront map c.args.bytes.now c.args.insn) (sym (c.if-is_by.ensures refl)) c.requires in
    record {
      numbered = pushed_numbers c.self.inside.kinds.items c.number_of.new.kinds.items c.in_ok-number.ensures.kept c.self.inside.numbers.items c.self.invariant.numbered c.args.self.now c.self.view_is c.in_ok-number.number c.args.insn c.in_ok-number.ensures.number c.push.new.self.items c.in_ok-push.ensures.items;
      spelled = c.note.ensures c.number_of.new.kinds.items (still_spellings c.self.inside.kinds.items c.number_of.new.kinds.items c.in_ok-number.ensures.kept c.self.inside.known c.self.invariant.spelled) c.in_ok-number.ensures.number stands;
    }

pub invariant_of-self-else-is_by : goal.invariant_of-self-else-is_by
invariant_of-self-else-is_by c = record {
  numbered = pushed_numbers c.self.inside.kinds.items c.number_of.new.kinds.items c.in_ok-number.ensures.kept c.self.inside.numbers.items c.self.invariant.numbered c.args.self.now c.self.view_is c.in_ok-number.number c.args.insn c.in_ok-number.ensures.number c.push.new.self.items c.in_ok-push.ensures.items;
  spelled = still_spellings c.self.inside.kinds.items c.number_of.new.kinds.items c.in_ok-number.ensures.kept c.self.inside.known c.self.invariant.spelled;
}

pub returns-then-is_by : goal.returns-then-is_by
returns-then-is_by c = pushed_insns c.self.inside.kinds.items c.number_of.new.kinds.items c.in_ok-number.ensures.kept c.self.inside.numbers.items c.self.invariant.numbered c.args.self.now c.self.view_is c.in_ok-number.number c.args.insn c.in_ok-number.ensures.number c.push.new.self.items c.in_ok-push.ensures.items

pub returns-else-is_by : goal.returns-else-is_by
returns-else-is_by c = pushed_insns c.self.inside.kinds.items c.number_of.new.kinds.items c.in_ok-number.ensures.kept c.self.inside.numbers.items c.self.invariant.numbered c.args.self.now c.self.view_is c.in_ok-number.number c.args.insn c.in_ok-number.ensures.number c.push.new.self.items c.in_ok-push.ensures.items
