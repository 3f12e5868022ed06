use Rattle.std.proofs.Common.{ap, ◌∙◌}
use Rattle.std.specs.FinSet.{contains}
use Rattle.ot_base.proofs.NameSetLemmas.{set_contains}
use Rattle.ot_base.proofs.name_set.NameSet.contains.Goals as goal

pub returns : goal.returns
returns c =
    c.contains.ensures
    ∙ set_contains (λ name. name.items) c.self.inside.names.keys c.args.name.now
    ∙ ap (λ s. contains s c.args.name.now) c.self.view_is
