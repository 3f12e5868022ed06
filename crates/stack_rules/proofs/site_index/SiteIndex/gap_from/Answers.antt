-- No site begins between the place and the end of the gap.
use Rattle.std.proofs.Common.{◌≡◌, ℕ, ◌<◌, List, Contains, sym, ◌∙◌, subst}
use Rattle.program_graph.specs.declared.parts.GraphSite.{GraphSite}
use Rattle.stack_rules.specs.Sites.{AreIndexed}
use Rattle.stack_rules.proofs.Finding.{clear_from, gap_parts}
use Rattle.stack_rules.proofs.site_index.SiteIndex.gap_from.Goals as goal

pub returns-then-is_count : goal.returns-then-is_count
returns-then-is_count c apart none other inside site listed =
    let sites : List GraphSite = c.as_slice-sites.result.now in
    let is : sites ≡ c.args.self.now = c.as_slice-sites.ensures.value ∙ c.self.view_is in
    let parts = gap_parts other.sec c.args.place.sec c.args.place.off other.off c.gap_end.result inside in
    clear_from sites c.args.place other c.args.near (subst AreIndexed (sym c.as_slice-sites.ensures.value) c.self.invariant) parts.0 parts.1
    (c.is_count.ensures.from c.if-is_count.true) (c.is_count.ensures.behind c.if-is_count.true)
    (λ d l section. subst (λ (n : ℕ). other.off < n) (c.gap_end.ensures d l section) parts.2)
    (λ s k. none s (subst (λ (xs : List GraphSite). Contains xs s) is k)) site (subst (λ (xs : List GraphSite). Contains xs site) (sym is) listed)
