use Rattle.std.proofs.Common.{◌≡◌, ℕ, ◌+◌, ◌<◌, ◌++◌, ◌∷◌, [], Bool, List, Some, length, get_or, sym, ap, ◌∙◌, subst, arith}
use Rattle.std.specs.Prelude.{slice_get}
use Rattle.std.proofs.lemmas.List.{length_push}
use Rattle.std.proofs.lemmas.Option.{slice_get-get_or}
use Rattle.operation_defs.specs.declared.insn.Insn.{Insn}
use Rattle.program_graph.specs.declared.parts.PointKind.{PointKind}
use Rattle.control_flow.specs.Kinds.{AreUsual, usual_kind}
use Rattle.control_flow.proofs.UsualKinds.{usual_more}
use Rattle.control_flow.proofs.kinds.KindTable.new.Goals as goal

pub loop-k-preserved : goal.loop-k-preserved
loop-k-preserved c =
    let insns : List Insn = c.args.insns.now in
    let k : ℕ = c.loop-k.k in
    let kinds : List PointKind = c.loop-k.kinds.items in
    let stay : List Bool = c.loop-k.stay.items in
    let inside : k < length insns = omega arith in
    let insn : Insn = get_or insns k _ in
    let own : slice_get insns k ≡ Some insn = slice_get-get_or insns k _ inside in
    let is_kind : c.usual_kind.result ≡ usual_kind insn = c.usual_kind.ensures in
    let grown : c.push.new.self.items ≡ kinds ++ usual_kind insn ∷ [] = c.in_ok-push.ensures.items ∙ ap (λ (x : PointKind). kinds ++ x ∷ []) is_kind in
    let more : AreUsual insns (kinds ++ usual_kind insn ∷ []) (stay ++ c.stays_decoded.result ∷ []) (k + 1) = usual_more insns kinds stay k insn c.stays_decoded.result c.loop-k.invariant.1 own c.stays_decoded.ensures.exact c.loop-k.invariant.0 in (
      subst (λ (ks : List PointKind). AreUsual insns ks c.push-in-loop-k.new.self.items (k + 1)) (sym grown)
          (subst (λ (bs : List Bool). AreUsual insns (kinds ++ usual_kind insn ∷ []) bs (k + 1)) (sym c.in_ok-push-2.ensures.items) more),
      ap length grown ∙ length_push kinds (usual_kind insn) ∙ ap (λ (m : ℕ). m + 1) c.loop-k.invariant.1,
    )

pub returns : goal.returns
returns c =
    let insns : List Insn = c.args.insns.now in
    let all : c.loop-k.k ≡ length insns = omega (arith, c.loop-k-test.false, c.loop-k.auto.k-end) in
    subst (AreUsual insns c.loop-k.kinds.items c.loop-k.stay.items) all c.loop-k.invariant.0
