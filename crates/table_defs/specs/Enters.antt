-- How control comes into alternatives sites: at their starts alone, whose original code it may then come to too.
use Rattle.std.specs.Prelude.{◌≡◌, ◌⊎◌, ℕ, true, Contains}
use Rattle.machine_defs.specs.declared.flow.EdgeKind.{EdgeKind}
use Rattle.machine_defs.specs.Program.{Program, IsPoint, Site, in_site, entry_points, edge}

-- the point is the first instruction of a site's original code
pub record IsSiteStart (p : Program) (site : Site) (q : ℕ) : Type 0 where
  pub point : IsPoint p q
  pub plain : p.variant q ≡ 0
  pub place : p.place q ≡ site.start

pub record EntersSites (p : Program) : Type 0 where
  -- an edge into a site comes from within it, or one of its kind leads to the site's start too
  pub edges : (q r : ℕ) (kind : EdgeKind) (site : Site)
      → IsPoint p q → Contains (p.goes q) (edge r kind) → Contains p.sites site → in_site site (p.address r) ≡ true
      → (in_site site (p.address q) ≡ true) ⊎ ((start : ℕ) × IsSiteStart p site start × Contains (p.goes q) (edge start kind))
  -- control that comes to an entry in a site may come to the site's start
  pub entries : (entry q : ℕ) (site : Site)
      → Contains p.entries entry → Contains (entry_points p entry) q → Contains p.sites site → in_site site (p.address q) ≡ true
      → (start : ℕ) × IsSiteStart p site start × Contains (entry_points p entry) start
  -- control that comes to a plain point may stand at it, and stands where it runs
  pub arrivals : (q : ℕ) → IsPoint p q → p.variant q ≡ 0
      → Contains (entry_points p q) q × ((r : ℕ) → Contains (entry_points p q) r → p.address r ≡ p.place q)
