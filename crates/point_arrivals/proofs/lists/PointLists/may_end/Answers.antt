use Rattle.std.proofs.Common.{◌≡◌, ◌||◌, ap, sym, ◌∙◌}
use Rattle.operation_defs.specs.declared.insn.Insn.{Insn}
use Rattle.flow_defs.specs.Coded.{Coded}
use Rattle.special_sections.specs.Special.{special_of}
use Rattle.alternatives.specs.declared.point.Point.{Point}
use Rattle.flow_defs.specs.Arrival.{decoded_insn, ends_at, is_ud2}
use Rattle.flow_defs.specs.Code.{point_at}
use Rattle.object_points.specs.Places.{is_among}
use Rattle.point_arrivals.proofs.lists.PointLists.may_end.Goals as goal

pub returns-then-is_ud2 : goal.returns-then-is_ud2
returns-then-is_ud2 c =
    let o : Coded = c.args.self.now in
    let p : Point = point_at o c.args.n in
    let ud2 : c.is_ud2.result ≡ is_ud2 (decoded_insn o p).op =
    c.is_ud2.ensures ∙ ap (λ (i : Insn). is_ud2 i.op) (c.decoded_insn.ensures ∙ ap (λ (e : Coded). decoded_insn e (point_at e c.args.n)) c.self.view_is) in
    ap (λ b. b || ends_at o p (special_of o.elf).after_unreachable) (sym c.if-is_ud2.true ∙ ud2)

pub returns : goal.returns
returns c =
    let o : Coded = c.args.self.now in
    let own : Coded = c.self.inside.places in
    let p : Point = point_at o c.args.n in
    let ud2 : c.is_ud2.result ≡ is_ud2 (decoded_insn o p).op =
    c.is_ud2.ensures ∙ ap (λ (i : Insn). is_ud2 i.op) (c.decoded_insn.ensures ∙ ap (λ (e : Coded). decoded_insn e (point_at e c.args.n)) c.self.view_is) in
    let unreached : c.contains.result ≡ ends_at o p (special_of o.elf).after_unreachable =
    c.contains.ensures
    ∙ c.self.invariant.1.unreachable_places.same c.end_of-end.result
    ∙ ap (is_among (special_of own.elf).after_unreachable) c.end_of-end.ensures
    ∙ ap (λ (e : Coded). ends_at e (point_at e c.args.n) (special_of e.elf).after_unreachable) c.self.view_is in
    unreached ∙ ap (λ b. b || ends_at o p (special_of o.elf).after_unreachable) (sym c.if-is_ud2.false ∙ ud2)
