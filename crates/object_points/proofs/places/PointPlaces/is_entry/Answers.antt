use Rattle.std.proofs.Common.{sym, ap, ◌∙◌}
use Rattle.flow_defs.specs.Coded.{Coded}
use Rattle.symbols_relocs.specs.Functions.{starts_at}
use Rattle.object_points.proofs.Starts.{no_entry}
use Rattle.object_points.proofs.places.PointPlaces.is_entry.Goals as goal

pub returns-then-not-may_contain : goal.returns-then-not-may_contain
returns-then-not-may_contain c =
    no_entry c.args.self.now.elf c.args.place (ap (λ (e : Coded). starts_at e.elf c.args.place) (sym c.self.view_is) ∙ c.self.invariant.starts c.args.place (c.may_contain.ensures c.if-not-may_contain.true))
