use Rattle.std.proofs.Common.{ap, ◌∙◌}
use Rattle.std.specs.Prelude.{option_and_then}
use Rattle.flow_defs.specs.Coded.{Coded}
use Rattle.special_sections.specs.HintStates.{hint_at, hint_state}
use Rattle.special_sections.specs.Special.{special_of}
use Rattle.object_points.proofs.places.PointPlaces.hint_at.Goals as goal

pub returns : goal.returns
returns c =
    c.hint_at.ensures
    ∙ ap (option_and_then hint_state) (c.self.invariant.hinted.same c.args.place)
    ∙ ap (λ (o : Coded). hint_at (special_of o.elf).hints c.args.place) c.self.view_is
