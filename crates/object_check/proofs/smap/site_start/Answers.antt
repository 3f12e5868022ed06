use Rattle.std.proofs.Common.{◌≡◌, ℕ, List, get_or, Option, Some, None, sym, ap, subst}
use Rattle.ot_base.specs.declared.place.Place.{Place}
use Rattle.flow_defs.specs.Coded.{Coded}
use Rattle.special_sections.specs.declared.entries.AltEntry.{AltEntry}
use Rattle.alternatives.specs.declared.site.AlternativesSite.{AlternativesSite}
use Rattle.alternatives.specs.Sites.{AreSitesOf}
use Rattle.flow_defs.specs.Code.{alternatives_of}
use Rattle.object_points.proofs.Entries.{no_site}
use Rattle.object_check.specs.SmapSites.{IsSiteStart}
use Rattle.object_check.proofs.SmapSites.{starts_nowhere, starts_there}
use Rattle.object_check.proofs.smap.site_start.Goals as goal

-- the sites are those of the object
sites_are : (o own : Coded) (sites : List AlternativesSite) (numbers : List ℕ) → own ≡ o → AreSitesOf (alternatives_of own) sites numbers → AreSitesOf (alternatives_of o) sites numbers
sites_are o own sites numbers same are = subst (λ (e : Coded). AreSitesOf (alternatives_of e) sites numbers) same are

-- the place is the point's address
there : (entries : List AltEntry) (at address : Place) (start found : Option Place) → at ≡ address → found ≡ start → IsSiteStart entries at start → IsSiteStart entries address found
there entries at address start found same is known = subst (λ (place : Place). IsSiteStart entries place found) same (subst (IsSiteStart entries at) (sym is) known)

pub returns-in_err-site : goal.returns-in_err-site
returns-in_err-site c =
    let o : Coded = c.args.places.now in
    let entries : List AltEntry = alternatives_of o in
    let sites : List AlternativesSite = c.sites-sites.result.now.sites in
    let numbers : List ℕ = c.sites-sites.result.now.entry_numbers in
    let are = sites_are o c.linked.result.now sites numbers c.linked.ensures c.sites-sites.ensures.sites in
    there entries c.address.result _ None _ c.address.ensures c.from_residual.ensures (starts_nowhere entries sites numbers are c.address.result c.in_err-site.ensures)

pub returns : goal.returns
returns c =
    let o : Coded = c.args.places.now in
    let entries : List AltEntry = alternatives_of o in
    let sites : List AlternativesSite = c.sites-sites.result.now.sites in
    let numbers : List ℕ = c.sites-sites.result.now.entry_numbers in
    let are = sites_are o c.linked.result.now sites numbers c.linked.ensures c.sites-sites.ensures.sites in
    let n : ℕ = c.in_ok-site.site in
    let start = λ (list : List AlternativesSite). Some (get_or list n no_site).start in
    there entries c.address.result _ (start sites) _ c.address.ensures (ap start c.sites.ensures) (starts_there entries sites numbers are c.address.result n c.in_ok-site.ensures.0 (c.in_ok-site.ensures.1 no_site))
