use Rattle.std.proofs.Common.{◌+◌, ◌<◌, ℕ, Bool, List, length, sym, ap, ◌∙◌, subst, arith}
use Rattle.std.proofs.lemmas.List.{get_or_default}
use Rattle.ot_base.specs.NameLists.{NameLists}
use Rattle.flow_defs.specs.Coded.{Coded}
use Rattle.program_graph.specs.declared.parts.GraphPoint.{GraphPoint}
use Rattle.control_flow.specs.Kinds.{AreUsual}
use Rattle.control_flow.specs.Listed.{count_of}
use Rattle.control_flow.specs.Points.{AreMadeAll, IsPlaced}
use Rattle.control_flow.specs.declared.points.Shared.{Shared}
use Rattle.control_flow.proofs.Making.{made_all_more, none_made_all}
use Rattle.control_flow.proofs.UsualKinds.{still_usual}
use Rattle.control_flow.proofs.points.list_points.Goals as goal

pub loop-n-init : goal.loop-n-init
loop-n-init c =
    let o : Coded = c.args.points.now in
    let owners = c.args.owners.now.owners in
    let restores : List ℕ = c.args.hints.now.restores in
    let returns = c.args.returns.now in
    let transfers : List ℕ = c.args.transfers.now in
    let lists = c.args.lists.now in
    let kinds = c.in_ok-new.field-0.kinds.items in
    let table = c.in_ok-new-2.field-0 in (
      subst (λ (items : List GraphPoint). AreMadeAll o lists owners restores returns transfers kinds table items 0) (sym c.in_ok-made.ensures.items)
          (none_made_all o lists owners restores returns transfers kinds table c.in_ok-new-2.ensures.rares c.in_ok-new-2.ensures.hinted),
      c.in_ok-new.ensures,
      c.in_ok-made.ensures.len,
      c.in_ok-made.ensures.exact,
    )

pub loop-n-preserved : goal.loop-n-preserved
loop-n-preserved c =
    let o : Coded = c.args.points.now in
    let owners = c.args.owners.now.owners in
    let restores : List ℕ = c.args.hints.now.restores in
    let returns = c.args.returns.now in
    let transfers : List ℕ = c.args.transfers.now in
    let lists = c.args.lists.now in
    let before : Shared = c.loop-n.shared in
    let after : Shared = c.number_kind.new.shared in
    let n : ℕ = c.loop-n.n in
    let x : GraphPoint = c.point_of.result in
    let number : ℕ = c.in_ok-kind.kind in
    let has = c.in_ok-kind.ensures.kind in
    let insns = c.numbered_insns-insns.result.kinds.now in
    let inside : n < count_of o = omega (arith, c.count_points-count.ensures, ap count_of c.places-places.ensures) in
    let in_may : n < length returns.may_return.items = omega (arith, c.requires.returns.may_return) in
    let in_transfers : n < length transfers = omega (arith, c.requires.transfers) in (
      subst (λ (items : List GraphPoint). AreMadeAll o lists owners restores returns transfers after.kinds.kinds.items after.rares items (n + 1)) (sym c.push_reserved.ensures.items)
          (made_all_more o lists owners restores returns transfers before after number c.loop-n.made.items n x _ _ in_may c.index.ensures (get_or_default transfers n _ 0 in_transfers) c.loop-n.invariant.0 has (subst (λ (named : NameLists). IsPlaced o named owners n number x) c.requires.lists c.point_of.ensures)),
      subst (λ (stay : List Bool). AreUsual insns after.kinds.kinds.items stay (length insns)) (sym c.number_kind.ensures.stay)
          (still_usual insns before.kinds.kinds.items after.kinds.kinds.items before.kinds.stay.items (length insns) has.numbered.kept c.loop-n.invariant.1),
      omega (arith, c.push_reserved.ensures.len, c.loop-n.invariant.2),
      c.push_reserved.ensures.capacity ∙ c.loop-n.invariant.3,
    )
