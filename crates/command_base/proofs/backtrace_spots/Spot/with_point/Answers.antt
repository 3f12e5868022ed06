use Rattle.std.proofs.Common.{Some, refl, ap, ◌∙◌}
use Rattle.std.specs.Option.{option_or}
use Rattle.command_base.proofs.SpotLemmas.{met, or_is}
use Rattle.command_base.proofs.backtrace_spots.Spot.with_point.Goals as goal

pub returns-clause-spot : goal.returns-clause-spot
returns-clause-spot c p states here keeps was =
    met p states c.args.n c.args.is_kept c.args.self (record { place = c.args.self.place; first = c.or.result; kept = c.or-2.result }) here keeps refl was
    (c.or.ensures ∙ or_is c.args.self.first (Some c.args.n))
    (c.or-2.ensures ∙ ap (option_or c.args.self.kept) c.kept_number.ensures ∙ or_is c.args.self.kept _)
