use Rattle.std.proofs.Common.{◌≡◌, Bool, true, false, not, ◌&&◌, refl, sym, ap, ◌∙◌}
use Rattle.std.proofs.lemmas.Bool.{false≢true}
use Rattle.operation_defs.specs.declared.insn.Insn.{Insn}
use Rattle.flow_defs.specs.Coded.{Coded}
use Rattle.alternatives.specs.declared.point.Point.{Point}
use Rattle.flow_defs.specs.Arrival.{decoded_insn}
use Rattle.flow_defs.specs.Code.{point_at}
use Rattle.flow_defs.specs.Marks.{has_relocated_offset, has_stack_offset}
use Rattle.symbols_relocs.specs.NamedPlaces.{is_relocated}
use Rattle.point_arrivals.specs.Straight.{is_straight_op}
use Rattle.point_arrivals.proofs.straight.is_decoded_straight.Goals as goal

pub returns-then-is_straight_without_offset : goal.returns-then-is_straight_without_offset
returns-then-is_straight_without_offset c =
    let o : Coded = c.args.places.now in
    let p : Point = point_at o c.args.n in
    by (is_straight_op (decoded_insn o p).op) (has_stack_offset (decoded_insn o p).op) (is_relocated o.elf p.place (decoded_insn o p).len)
    (ap (λ (i : Insn). is_straight_op i.op && not (has_stack_offset i.op)) (sym c.decoded_insn-insn.ensures) ∙ sym c.is_straight_without_offset.ensures ∙ c.if-is_straight_without_offset.true)
  where
    by : (straight offset relocated : Bool) → (straight && not offset) ≡ true → true ≡ (straight && not (offset && relocated))
    by true false relocated h = refl
    by true true relocated h = absurd (false≢true h)
    by false offset relocated h = absurd (false≢true h)

pub returns-then-is_straight_op : goal.returns-then-is_straight_op
returns-then-is_straight_op c =
    let o : Coded = c.args.places.now in
    let p : Point = point_at o c.args.n in
    let insn : c.decoded_insn-insn.result ≡ decoded_insn o p = c.decoded_insn-insn.ensures in
    let straight : is_straight_op (decoded_insn o p).op ≡ true = ap (λ (i : Insn). is_straight_op i.op) (sym insn) ∙ sym c.is_straight_op.ensures ∙ c.if-is_straight_op.true in
    ap not (c.has_relocated_offset.ensures ∙ ap (has_relocated_offset o p) insn)
    ∙ ap (λ b. b && not (has_relocated_offset o p (decoded_insn o p))) (sym straight)

pub returns-else-is_straight_op : goal.returns-else-is_straight_op
returns-else-is_straight_op c =
    let o : Coded = c.args.places.now in
    let p : Point = point_at o c.args.n in
    let insn : c.decoded_insn-insn.result ≡ decoded_insn o p = c.decoded_insn-insn.ensures in
    let turns : is_straight_op (decoded_insn o p).op ≡ false = ap (λ (i : Insn). is_straight_op i.op) (sym insn) ∙ sym c.is_straight_op.ensures ∙ c.if-is_straight_op.false in
    c.if-is_straight_op.false ∙ ap (λ b. b && not (has_relocated_offset o p (decoded_insn o p))) (sym turns)
