use Rattle.std.proofs.Common.{map, ap, ◌∙◌}
use Rattle.std.proofs.lemmas.Result.{IfOk-weaker}
use Rattle.std.proofs.lemmas.Simd.{map-map}
use Rattle.program_graph.specs.Tells.{site_of}
use Rattle.flow_defs.specs.Sites.{sites_of}
use Rattle.object_points.specs.Plain.{plain_site}
use Rattle.object_points.proofs.sites.list_sites.Goals as goal

pub returns-in-Some : goal.returns-in-Some
returns-in-Some c = IfOk-weaker c.plain_sites.result _ _ (λ v is. ap (map site_of) (is ∙ ap (map plain_site) c.sites.ensures) ∙ map-map site_of plain_site c.in-Some.sites.now.sites ∙ c.in-Some.ensures.all.all ∙ ap sites_of c.linked.ensures) c.plain_sites.ensures
