-- What is known is what decoding gives.
use Rattle.std.proofs.Common.{◌≡◌, ◌∙◌, ℕ, ◌-◌, List, length, drop, take, Err, Some, length-drop, arith, refl, sym, subst}
use Rattle.std.specs.Prelude.{slice_get}
use Rattle.std.proofs.lemmas.List.{take_all}
use Rattle.std.proofs.lemmas.Option.{get_or_from_slice_get, slice_get_within}
use Rattle.operation_defs.specs.declared.insn.Insn.{Insn}
use Rattle.x86_map.specs.declared.map.Map.{Map}
use Rattle.x86_decode.specs.Decoding.{Outcome, StandsInFront}
use Rattle.x86_text.specs.Known.{IsKindInFront}
use Rattle.x86_text.proofs.InsnListLemmas.{pushed_numbers, pushed_insns}
use Rattle.x86_text.proofs.KnownLemmas.{stands_decoded, refusal}
use Rattle.x86_text.proofs.insn_list.InsnList.read.Goals as goal

pub index-insn-requires : goal.index-insn-requires
index-insn-requires c =
    let found : IsKindInFront c.self.inside.known.map c.self.inside.kinds.items (take (length c.args.body.now - c.args.off) (drop c.args.off c.args.body.now)) c.in-Some.number = c.in-Some.ensures c.self.inside.kinds.items c.self.invariant.spelled in
    omega (arith, slice_get_within c.self.inside.kinds.items c.in-Some.number found.insn found.at)

pub invariant_of-self-in-Some : goal.invariant_of-self-in-Some
invariant_of-self-in-Some c =
    let found : IsKindInFront c.self.inside.known.map c.self.inside.kinds.items (take (length c.args.body.now - c.args.off) (drop c.args.off c.args.body.now)) c.in-Some.number = c.in-Some.ensures c.self.inside.kinds.items c.self.invariant.spelled in
    let is : c.index-insn.result.now ≡ found.insn = c.index-insn.ensures ∙ get_or_from_slice_get c.self.inside.kinds.items c.in-Some.number found.insn c.index-insn.result.now found.at in
    let told : slice_get c.self.inside.kinds.items c.in-Some.number ≡ Some c.index-insn.result.now = subst (λ (insn : Insn). slice_get c.self.inside.kinds.items c.in-Some.number ≡ Some insn) (sym is) found.at in
    record {
      numbered = pushed_numbers c.self.inside.kinds.items c.self.inside.kinds.items (λ k kind at. at) c.self.inside.numbers.items c.self.invariant.numbered c.args.self.now c.self.view_is c.in-Some.number c.index-insn.result.now told c.push.new.self.items c.in_ok-push.ensures.items;
      spelled = c.self.invariant.spelled;
    }

pub returns-in-Some-clause-insn : goal.returns-in-Some-clause-insn
returns-in-Some-clause-insn c =
    let found : IsKindInFront c.self.inside.known.map c.self.inside.kinds.items (take (length c.args.body.now - c.args.off) (drop c.args.off c.args.body.now)) c.in-Some.number = c.in-Some.ensures c.self.inside.kinds.items c.self.invariant.spelled in
    let is : c.index-insn.result.now ≡ found.insn = c.index-insn.ensures ∙ get_or_from_slice_get c.self.inside.kinds.items c.in-Some.number found.insn c.index-insn.result.now found.at in
    let whole : take (length c.args.body.now - c.args.off) (drop c.args.off c.args.body.now) ≡ drop c.args.off c.args.body.now = take_all _ _ (simp length-drop (omega arith)) in
    let here : StandsInFront c.args.map (take (length c.args.body.now - c.args.off) (drop c.args.off c.args.body.now)) c.index-insn.result.now = subst (λ (map : Map). StandsInFront map (take (length c.args.body.now - c.args.off) (drop c.args.off c.args.body.now)) c.index-insn.result.now) (c.if-is_by.ensures refl) (subst (λ (insn : Insn). StandsInFront c.self.inside.known.map (take (length c.args.body.now - c.args.off) (drop c.args.off c.args.body.now)) insn) (sym is) found.stands) in
    stands_decoded c.args.body.now c.args.off (λ k. omega (arith, c.type_inv.body k)) c.args.map c.index-insn.result.now
    (subst (λ (bytes : List ℕ). StandsInFront c.args.map bytes c.index-insn.result.now) whole here)

pub returns-in-Some-clause-added : goal.returns-in-Some-clause-added
returns-in-Some-clause-added c =
    let found : IsKindInFront c.self.inside.known.map c.self.inside.kinds.items (take (length c.args.body.now - c.args.off) (drop c.args.off c.args.body.now)) c.in-Some.number = c.in-Some.ensures c.self.inside.kinds.items c.self.invariant.spelled in
    let is : c.index-insn.result.now ≡ found.insn = c.index-insn.ensures ∙ get_or_from_slice_get c.self.inside.kinds.items c.in-Some.number found.insn c.index-insn.result.now found.at in
    let told : slice_get c.self.inside.kinds.items c.in-Some.number ≡ Some c.index-insn.result.now = subst (λ (insn : Insn). slice_get c.self.inside.kinds.items c.in-Some.number ≡ Some insn) (sym is) found.at in
    pushed_insns c.self.inside.kinds.items c.self.inside.kinds.items (λ k kind at. at) c.self.inside.numbers.items c.self.invariant.numbered c.args.self.now c.self.view_is c.in-Some.number c.index-insn.result.now told c.push.new.self.items c.in_ok-push.ensures.items

pub returns-in-Err-clause-fault : goal.returns-in-Err-clause-fault
returns-in-Err-clause-fault c =
    let whole : take (length c.args.body.now - c.args.off) (drop c.args.off c.args.body.now) ≡ drop c.args.off c.args.body.now = take_all _ _ (simp length-drop (omega arith)) in
    (c.requires.boundary, subst (λ (bytes : List ℕ). Outcome c.args.map bytes (Err c.in-Err.why)) whole (refusal c.args.map _ c.in-Err.why c.in-Err.ensures.outside c.in-Err.ensures.cut c.in-Err.ensures.long))
