use Rattle.std.proofs.Common.{Some, List, get_or, sym, ap, ◌∙◌}
use Rattle.std.specs.Prelude.{option_map}
use Rattle.flow_defs.specs.Coded.{Coded}
use Rattle.alternatives.specs.declared.site.AlternativesSite.{AlternativesSite}
use Rattle.program_graph.specs.Tells.{site_of}
use Rattle.flow_defs.specs.Sites.{site_holding}
use Rattle.object_points.specs.Plain.{program_site}
use Rattle.object_points.proofs.AllSites.{held_by_none, held_nowhere, held_there}
use Rattle.object_points.proofs.Entries.{no_site}
use Rattle.object_points.proofs.sites.search_site.Goals as goal

pub returns-in_err-sites : goal.returns-in_err-sites
returns-in_err-sites c =
    ap (option_map site_of) c.from_residual.ensures
    ∙ sym (held_by_none c.linked.result.now c.args.place c.in_err-sites.ensures.none)
    ∙ ap (λ (o : Coded). site_holding o c.args.place) c.linked.ensures

pub returns-in_err-n : goal.returns-in_err-n
returns-in_err-n c =
    ap (option_map site_of) c.from_residual-in_err-n.ensures
    ∙ sym (held_nowhere c.linked.result.now c.in_ok-sites.sites.now.sites c.args.place c.in_ok-sites.ensures.all c.in_err-n.ensures)
    ∙ ap (λ (o : Coded). site_holding o c.args.place) c.linked.ensures

pub returns : goal.returns
returns c =
    ap (λ s. Some (site_of s)) (c.plain_site.ensures)
    ∙ ap (λ (sites : List AlternativesSite). Some (program_site (get_or sites c.in_ok-n.n no_site))) c.sites.ensures
    ∙ sym (held_there c.linked.result.now c.in_ok-sites.sites.now.sites c.args.place c.in_ok-sites.ensures.all c.in_ok-n.n c.in_ok-n.ensures.0 c.in_ok-n.ensures.1)
    ∙ ap (λ (o : Coded). site_holding o c.args.place) c.linked.ensures
