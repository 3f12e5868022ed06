-- The last that begins at the place or before it is the only one that may hold it.
use Rattle.std.proofs.Common.{ℕ, ◌-◌, ◌<◌, List, length, get_or, arith, sym, ◌∙◌}
use Rattle.std.proofs.lemmas.List.{get_or_default}
use Rattle.program_graph.specs.declared.parts.GraphSite.{GraphSite}
use Rattle.stack_rules.proofs.Finding.{none_holds}
use Rattle.stack_rules.proofs.site_index.site_before.Goals as goal

none : GraphSite
none = record { start = record { sec = 0; off = 0 }; len = 0 }

pub returns-else-is_in_site-clause-none : goal.returns-else-is_in_site-clause-none
unfolding none
returns-else-is_in_site-clause-none c apart =
    let sites : List GraphSite = c.args.sites.now in
    let n : ℕ = c.args.count - 1 in
    let inside : n < length sites = omega (arith, c.if-count-eq0.false, c.requires.within) in
    let last : GraphSite = get_or sites n none in
    none_holds sites c.args.place n last c.requires.indexed apart inside (get_or_default sites n none last inside)
    (c.requires.from n none (omega (arith, c.if-count-eq0.false)))
    (λ k d above l. c.requires.behind k d (omega arith) l)
    (sym c.is_in_site.ensures ∙ c.if-is_in_site.false)
