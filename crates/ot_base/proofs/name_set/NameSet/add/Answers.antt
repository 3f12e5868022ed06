use Rattle.std.proofs.Common.{map, ap, ◌∙◌}
use Rattle.std.specs.FinSet.{insert, from_list}
use Rattle.ot_base.proofs.NameSetLemmas.{set_insert}
use Rattle.ot_base.proofs.name_set.NameSet.add.Goals as goal

pub returns-clause-ok : goal.returns-clause-ok
returns-clause-ok c =
    ap (λ ks. from_list (map (λ name. name.items) ks)) c.in_ok-insert.ensures.keys
    ∙ set_insert (λ name. name.items) c.self.inside.names.keys c.in_ok-name.name
    ∙ ap (λ name. insert (from_list (map (λ name. name.items) c.self.inside.names.keys)) name) c.in_ok-name.ensures.items
    ∙ ap (λ s. insert s c.args.name.now) c.self.view_is
