use Rattle.std.proofs.Common.{List, ap, subst, ◌∙◌}
use Rattle.alternatives.specs.declared.site.AlternativesSite.{AlternativesSite}
use Rattle.alternatives.specs.Sites.{is_in_site, SiteList}
use Rattle.alternatives.proofs.Held.{Finds, found_is}
use Rattle.alternatives.proofs.sites.Sites.is_in_site.Goals as goal

pub returns : goal.returns
returns c =
    let told : Finds c.self.inside.sites.items c.args.place c.find_site.result =
    subst (λ (list : List AlternativesSite). Finds list c.args.place c.find_site.result) c.as_slice.ensures.value c.find_site.ensures in
    c.is_some.ensures
    ∙ found_is c.self.inside.table.entries c.self.inside.sites.items c.self.inside.entry_numbers.items c.self.invariant.2 c.args.place c.find_site.result told
    ∙ ap (λ (s : SiteList). is_in_site s.entries c.args.place) c.self.view_is
