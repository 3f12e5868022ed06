-- A kind that is found stands there.
use Rattle.std.proofs.Common.{◌≡◌, ◌<◌, ℕ, List, Some, length, refl, sym, ◌∙◌, subst, arith}
use Rattle.std.specs.Prelude.{slice_get}
use Rattle.std.proofs.lemmas.Option.{slice_get_read}
use Rattle.program_graph.specs.declared.parts.PointKind.{PointKind}
use Rattle.control_flow.proofs.SameKinds.{same_kind}
use Rattle.control_flow.proofs.kinds.KindTable.find.Goals as goal

pub returns-then-eq : goal.returns-then-eq
returns-then-eq c =
    let all : List PointKind = c.args.self.now.kinds.items in
    let number : ℕ = c.in_ok-number.field-0.now in
    let inside : number < length all = omega (arith, c.len.ensures, c.if-k-len.false) in
    subst (λ (k : PointKind). slice_get all number ≡ Some k) ((same_kind c.index-2.result.now c.args.kind.now).0 (sym c.eq.ensures ∙ c.if-eq.true))
    (slice_get_read all (length all) number c.index-2.result.now refl inside c.index-2.ensures)
