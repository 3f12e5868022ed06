use Rattle.std.proofs.Common.{ℕ, ◌<◌, All, Contains, get_or}
use Rattle.program_graph.specs.declared.parts.GraphSite.{GraphSite}
use Rattle.stack_rules.proofs.site_index.SiteIndex.build.Given as goal

abbrev pub invariant-loop-site : goal.invariant-loop-site
invariant-loop-site l = record {
  listed : (site : GraphSite) → Contains l.sites.items site → Contains l.site-items site;
  all : (k : ℕ) (d : GraphSite) → k < l.site-index → 0 < (get_or l.site-items k d).len → Contains l.sites.items (get_or l.site-items k d);
  some : All (λ (site : GraphSite). 0 < site.len) l.sites.items;
}
