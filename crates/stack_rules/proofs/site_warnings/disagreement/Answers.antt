-- The site that holds where the point runs is the point's.
use Rattle.std.proofs.Common.{◌≡◌, ◌≤◌, ◌<◌, ◌^◌, ◌+◌, ◌-◌, true, pos, subst, sym, ap, ◌∙◌}
use Rattle.std.proofs.lemmas.Bool.{both_ways}
use Rattle.ot_base.specs.declared.place.Place.{Place}
use Rattle.ot_base.specs.Warnings.{numbered_warning}
use Rattle.machine_defs.specs.Program.{Site, in_site}
use Rattle.table_law.proofs.Equal.{inside_is}
use Rattle.program_graph.specs.Tells.{site_of}
use Rattle.stack_rules.specs.Sites.{in_own_site}
use Rattle.stack_rules.proofs.ListedPoints.{index_apart}
use Rattle.stack_rules.specs.Disagree.{IsSiteOf}
use Rattle.stack_rules.proofs.site_warnings.disagreement.Goals as goal

pub returns-in-Some-clause-some : goal.returns-in-Some-clause-some
returns-in-Some-clause-some c p t index fits =
    let at : c.address-address.result ≡ p.address c.args.point = c.address-address.ensures p t in
    let site : Site = site_of c.in-Some.site in
    let of : IsSiteOf p c.args.point site = (index.listed c.in-Some.site c.in-Some.ensures.held.0, subst (λ (z : Place). in_site site z ≡ true) at c.in-Some.ensures.held.1) in
    let low : site.start.off ≤ c.address-address.result.off = subst (λ (z : Place). site.start.off ≤ z.off) (sym at) (inside_is site (p.address c.args.point) of.1).low in
    let told = c.warning_at.ensures low (subst (λ (z : Place). z.off + c.args.ahead < site.start.off + 2 ^ 63) (sym at) (fits site of)) in
    (site, of, told ∙ ap (λ (z : Place). numbered_warning site.start 12 (pos (z.off + c.args.ahead - site.start.off)) (pos 0)) at)

pub returns-in-None-clause-none : goal.returns-in-None-clause-none
returns-in-None-clause-none c p t index laid site of =
    let own = index.all site (p.address c.args.point) of.0 of.1 in
    let at : c.address-address.result ≡ p.address c.args.point = c.address-address.ensures p t in
    let held : in_own_site own.0 c.address-address.result ≡ true = subst (λ (z : Place). in_own_site own.0 z ≡ true) (sym at) (subst (λ (s : Site). in_site s (p.address c.args.point) ≡ true) (sym own.2) of.1) in
    both_ways (in_own_site own.0 c.address-address.result) (c.in-None.ensures.none (index_apart p c.args.sites.now laid index) own.0 own.1) held
