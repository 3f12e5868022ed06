-- The last of them begins there or before it, and so all do.
use Rattle.std.proofs.Common.{◌≡◌, ℕ, ◌-◌, ◌<◌, ◌≤◌, false, List, length, get_or, arith, sym, ◌∙◌, subst}
use Rattle.std.proofs.lemmas.Bool.{not-true}
use Rattle.std.proofs.lemmas.List.{get_or_default}
use Rattle.ot_base.specs.Places.{is_before}
use Rattle.program_graph.specs.declared.parts.GraphSite.{GraphSite}
use Rattle.stack_rules.proofs.Finding.{begun}
use Rattle.stack_rules.proofs.site_index.begin_before.Goals as goal

none : GraphSite
none = record { start = record { sec = 0; off = 0 }; len = 0 }

pub returns-else-count-eq0 : goal.returns-else-count-eq0
unfolding none
returns-else-count-eq0 c h k d l =
    let sites : List GraphSite = c.args.sites.now in
    let n : ℕ = c.args.count - 1 in
    let inside : n < length sites = omega (arith, c.if-count-eq0.false, c.requires.within) in
    let below : k ≤ n = omega (arith, l) in
    let last : is_before c.args.place (get_or sites n none).start ≡ false = sym c.is_before.ensures ∙ not-true c.is_before.result h in
    begun sites c.args.place c.requires.indexed n k d below inside (subst (λ (s : GraphSite). is_before c.args.place s.start ≡ false) (get_or_default sites n none d inside) last)
