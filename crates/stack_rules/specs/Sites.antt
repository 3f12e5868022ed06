-- Sites by place.
use Rattle.std.specs.Prelude.{◌≡◌, ℕ, ◌<◌, ◌≤◌, Bool, true, false, List, All, Contains, length, slice_index_or}
use Rattle.ot_base.specs.declared.place.Place.{Place}
use Rattle.ot_base.specs.Places.{is_before}
use Rattle.machine_defs.specs.Program.{Program, Site, in_site}
use Rattle.program_graph.specs.declared.parts.GraphSite.{GraphSite as OwnSite}
use Rattle.program_graph.specs.Tells.{site_of}

-- a place lies in a site
abbrev pub in_own_site : OwnSite → Place → Bool
in_own_site site place = in_site (site_of site) place

-- the sites ascend by their starts, and each has a byte
pub record AreIndexed (sites : List OwnSite) : Type 0 where
  pub ascend : (i j : ℕ) (d : OwnSite) → i ≤ j → j < length sites → is_before (slice_index_or sites j d).start (slice_index_or sites i d).start ≡ false
  pub some : All (λ site. 0 < site.len) sites

-- no two of them share a byte
abbrev pub AreApart : List OwnSite → Type 0
AreApart sites = (one other : OwnSite) (place : Place) → Contains sites one → Contains sites other → in_own_site one place ≡ true → in_own_site other place ≡ true → one ≡ other

-- the sites are those of the program, but for sites without a byte
pub record IsIndexOf (p : Program) (sites : List OwnSite) : Type 0 where
  pub listed : (site : OwnSite) → Contains sites site → Contains p.sites (site_of site)
  pub all : (site : Site) (place : Place) → Contains p.sites site → in_site site place ≡ true → (own : OwnSite) × Contains sites own × (site_of own ≡ site)
