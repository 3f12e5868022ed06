use Rattle.std.proofs.Common.{refl, subst}
use Rattle.x86_map.specs.declared.map.Map.{Map}
use Rattle.x86_decode.specs.Decoding.{StandsInFront}
use Rattle.x86_text.specs.Known.{IsFoundInFront}
use Rattle.x86_text.proofs.InsnListLemmas.{pushed_numbers, pushed_insns}
use Rattle.x86_text.proofs.insn_list.InsnList.push_known.Goals as goal

pub invariant_of-self-2 : goal.invariant_of-self-2
invariant_of-self-2 c =
    let found : IsFoundInFront c.self.inside.known.map c.self.inside.kinds.items c.args.bytes.now c.in-Some.found = c.in-Some.ensures c.self.inside.kinds.items c.self.invariant.spelled in
    record {
      numbered = pushed_numbers c.self.inside.kinds.items c.self.inside.kinds.items (λ k kind at. at) c.self.inside.numbers.items c.self.invariant.numbered c.args.self.now c.self.view_is c.in-Some.found.number found.kind.insn found.kind.at c.push.new.self.items c.in_ok-push.ensures.items;
      spelled = c.self.invariant.spelled;
    }

pub returns : goal.returns
returns c =
    let found : IsFoundInFront c.self.inside.known.map c.self.inside.kinds.items c.args.bytes.now c.in-Some.found = c.in-Some.ensures c.self.inside.kinds.items c.self.invariant.spelled in
    record {
      insn = found.kind.insn;
      stands = subst (λ (map : Map). StandsInFront map c.args.bytes.now found.kind.insn) (c.if-not-is_by.ensures refl) found.kind.stands;
      long = found.long;
      jumps = found.jumps;
      added = pushed_insns c.self.inside.kinds.items c.self.inside.kinds.items (λ k kind at. at) c.self.inside.numbers.items c.self.invariant.numbered c.args.self.now c.self.view_is c.in-Some.found.number found.kind.insn found.kind.at c.push.new.self.items c.in_ok-push.ensures.items;
    }
