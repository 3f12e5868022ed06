-- Sites that compare as equal are equal.
use Rattle.std.proofs.Common.{◌≡◌, Bool, ◌&&◌, eqb, Decides, refl, ap}
use Rattle.std.proofs.lemmas.Bool.{and_parts, eqb-true, eq-eqb}
use Rattle.program_graph.specs.declared.parts.GraphSite.{GraphSite}
use Rattle.stack_rules.proofs.Order.{equal_places}
use Rattle.stack_rules.proofs.ListedPoints.{equal_sites}

abbrev pub same_site : GraphSite → GraphSite → Bool
same_site a b = (eqb a.start.sec b.start.sec && eqb a.start.off b.start.off) && eqb a.len b.len

pub same_site_decides : (a b : GraphSite) → Decides (same_site a b) (a ≡ b)
same_site_decides a b = (
  λ h.
      let k = and_parts (eqb a.start.sec b.start.sec && eqb a.start.off b.start.off) (eqb a.len b.len) h in
      let m = and_parts (eqb a.start.sec b.start.sec) (eqb a.start.off b.start.off) k.0 in
      equal_sites a b (equal_places a.start b.start (eqb-true a.start.sec b.start.sec m.0) (eqb-true a.start.off b.start.off m.1)) (eqb-true a.len b.len k.1),
  λ e. rw (eq-eqb a.start.sec b.start.sec (ap (λ (s : GraphSite). s.start.sec) e), eq-eqb a.start.off b.start.off (ap (λ (s : GraphSite). s.start.off) e), eq-eqb a.len b.len (ap (λ (s : GraphSite). s.len) e)) refl,
)
