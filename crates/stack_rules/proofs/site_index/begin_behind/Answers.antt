-- The first of them begins behind the place, and so all do.
use Rattle.std.proofs.Common.{◌≡◌, ℕ, ◌<◌, true, List, length, get_or, arith, sym, ◌∙◌, subst}
use Rattle.std.proofs.lemmas.List.{get_or_default}
use Rattle.ot_base.specs.Places.{is_before}
use Rattle.program_graph.specs.declared.parts.GraphSite.{GraphSite}
use Rattle.stack_rules.proofs.Finding.{unbegun}
use Rattle.stack_rules.proofs.site_index.begin_behind.Goals as goal

none : GraphSite
none = record { start = record { sec = 0; off = 0 }; len = 0 }

pub returns-else-count-sites : goal.returns-else-count-sites
unfolding none
returns-else-count-sites c h k d l inside =
    let sites : List GraphSite = c.args.sites.now in
    let n : ℕ = c.args.count in
    let some : n < length sites = omega (arith, l, inside) in
    let first : is_before c.args.place (get_or sites n none).start ≡ true = sym c.is_before.ensures ∙ h in
    unbegun sites c.args.place c.requires.indexed n k d l inside (subst (λ (s : GraphSite). is_before c.args.place s.start ≡ true) (get_or_default sites n none d some) first)
