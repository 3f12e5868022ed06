use Rattle.std.proofs.Common.{◌≡◌, ◌<◌, ℕ, false, None, List, Some, get_or, length, refl, sym, ap, ◌∙◌, arith}
use Rattle.std.specs.Prelude.{slice_get}
use Rattle.std.proofs.lemmas.Option.{slice_get-get_or, slice_get_within}
use Rattle.operation_defs.specs.declared.insn.Insn.{Insn}
use Rattle.flow_defs.specs.Coded.{Coded}
use Rattle.flow_defs.specs.Arrival.{decoded_insn, is_dead_end}
use Rattle.flow_defs.specs.Code.{point_at}
use Rattle.control_flow.specs.Kinds.{StaysDecoded, usual_kind}
use Rattle.control_flow.specs.declared.rares.TheConstants.{USUAL}
use Rattle.control_flow.proofs.Numbering.{stays}
use Rattle.control_flow.proofs.RareSteps.{more_rares}
use Rattle.control_flow.proofs.UsualKinds.{usual_is}
use Rattle.control_flow.proofs.points.number_kind.Goals as goal

pub stays-requires : goal.stays-requires
stays-requires c =
    let o : Coded = c.args.points.now in
    let n : ℕ = c.args.n in
    let insns : List Insn = c.args.insns.kinds.now in
    let numbers : List ℕ = c.args.insns.numbers.now in
    let k : ℕ = get_or numbers n 0 in
    let decoded : Insn = decoded_insn o (point_at o n) in
    let own : slice_get insns k ≡ Some decoded = c.requires.insns.each n k (slice_get-get_or numbers n 0 (omega (arith, c.requires.point, c.requires.insns.long))) in
    let inside : k < length insns = slice_get_within insns k decoded own in
    omega (arith, inside, c.requires.usual.long)

pub returns-then-stays-clause-kind : goal.returns-then-stays-clause-kind
returns-then-stays-clause-kind c =
    let o : Coded = c.args.points.now in
    let n : ℕ = c.args.n in
    let insns : List Insn = c.args.insns.kinds.now in
    let numbers : List ℕ = c.args.insns.numbers.now in
    let kinds = c.args.shared.now.kinds.kinds.items in
    let rares = c.args.shared.now.rares.rares.items in
    let hinted = c.args.shared.now.rares.hinted.items in
    let k : ℕ = get_or numbers n 0 in
    let decoded : Insn = decoded_insn o (point_at o n) in
    let own : slice_get insns k ≡ Some decoded = c.requires.insns.each n k (slice_get-get_or numbers n 0 (omega (arith, c.requires.point, c.requires.insns.long))) in
    let passed : is_dead_end o (point_at o n) ≡ false = ap (λ (e : Coded). is_dead_end e (point_at e n)) (sym c.arrivals.ensures) ∙ sym c.is_dead_end.ensures ∙ c.if-not-is_dead_end.true in
    let stay : StaysDecoded decoded.op = (c.stays.ensures insns decoded c.requires.usual own).0 c.if-stays.true in
    let here : slice_get kinds k ≡ Some (usual_kind decoded) = c.requires.usual.here k decoded (slice_get_within insns k decoded own) own in
    record {
      rare = 0;
      kind = usual_kind decoded;
      is_kind = usual_is o c.args.switching.lists.now n c.args.told.may_return c.args.told.is_entered c.args.told.transfer stay passed (c.is_told_usual.ensures.0 c.if-is_told_usual.true) c.requires.entered;
      numbered = stays kinds kinds (usual_kind decoded) k refl here;
      rares = λ all are. more_rares o c.args.hints.now.restores rares rares hinted hinted all n None None 0 USUAL are
          (c.is_usual.ensures.hint c.if-is_usual.true) (refl, refl) (c.is_usual.ensures.rare c.if-is_usual.true) (stays rares rares USUAL 0 refl are.usual);
    }
