use Rattle.std.proofs.Common.{◌≡◌, List, [], sym, ◌∙◌, subst}
use Rattle.std.specs.Prelude.{Contains}
use Rattle.machine_defs.specs.declared.flow.Edge.{Edge}
use Rattle.machine_defs.specs.declared.flow.EdgeKind.TheVariants.{Sibling}
use Rattle.machine_defs.specs.Program.{edge}
use Rattle.program_model.specs.Program.{of_point, program_of}
use Rattle.program_model.proofs.Points.{of_point_is}
use Rattle.machine_model.specs.Allowed.{allowances_of}
use Rattle.machine_model.proofs.Siblings.{each_safe, all_safe}
use Rattle.machine_model.proofs.promises.has_safe_siblings.Goals as goal

pub returns-in-Some : goal.returns-in-Some
returns-in-Some c = λ set.
    let here : of_point {A = List Edge} c.args.p.now [] (λ x. x.goes.items) c.args.q ≡ c.as_slice.result.now =
    of_point_is c.args.p.now [] (λ x. x.goes.items) c.args.q c.in-Some.point.now c.in-Some.ensures ∙ sym c.as_slice.ensures.value in (
      λ h r held. each_safe (program_of c.args.p.now set) (allowances_of c.args.allowed.now) c.as_slice.result.now ((c.are_safe_siblings.ensures set).0 h) r (subst (λ (es : List Edge). Contains es (edge r Sibling)) here held),
      λ h. (c.are_safe_siblings.ensures set).1 (all_safe (program_of c.args.p.now set) (allowances_of c.args.allowed.now) c.as_slice.result.now (λ r held. h r (subst (λ (es : List Edge). Contains es (edge r Sibling)) (sym here) held))),
    )
