use Rattle.std.proofs.Common.{List, ap, ◌∙◌}
use Rattle.machine_defs.specs.declared.flow.Edge.{Edge}
use Rattle.program_model.specs.Ways.{lead_to_hints}
use Rattle.machine_model.proofs.Before.{before_hint_at}
use Rattle.machine_model.proofs.acting.is_before_hint.Goals as goal

pub returns-in-Some : goal.returns-in-Some
returns-in-Some c = λ set call.
    c.lead_to_hints.ensures ∙ ap (λ (es : List Edge). lead_to_hints c.args.p.now es) c.as_slice.ensures.value
    ∙ before_hint_at c.args.p.now set c.args.q c.in-Some.point.now c.in-Some.ensures call
