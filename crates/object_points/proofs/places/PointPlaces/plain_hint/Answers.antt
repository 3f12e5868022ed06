use Rattle.std.proofs.Common.{◌≡◌, Option, Some, None, refl, ◌∙◌}
use Rattle.std.specs.Option.{option_or}
use Rattle.state_defs.specs.declared.state.HintState.{HintState}
use Rattle.special_sections.specs.HintStates.{hint_at}
use Rattle.special_sections.specs.Special.{special_of}
use Rattle.flow_defs.specs.Arrival.{hint_of, own_hint_of}
use Rattle.object_points.proofs.places.PointPlaces.plain_hint.Goals as goal

alone : (own : Option HintState) → own ≡ option_or own None
alone None = refl
alone (Some hint) = refl

pub returns : goal.returns
unfolding hint_of own_hint_of
returns c = c.hint_at.ensures ∙ alone (hint_at (special_of c.args.self.now.elf).hints c.args.place)
