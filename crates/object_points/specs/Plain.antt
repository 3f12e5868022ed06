-- Sites without their entries.
use Rattle.std.specs.Prelude.{◌≡◌, List, map}
use Rattle.flow_defs.specs.Coded.{Coded}
use Rattle.machine_defs.specs.Program.{Site}
use Rattle.program_graph.specs.declared.parts.GraphSite.{GraphSite}
use Rattle.program_graph.specs.Tells.{site_of}
use Rattle.alternatives.specs.declared.site.AlternativesSite.{AlternativesSite as OwnSite}
use Rattle.alternatives.specs.Sites.{AscendApart}
use Rattle.flow_defs.specs.Sites.{sites_of}

-- where a site begins, and how long it is
abbrev pub plain_site : OwnSite → GraphSite
plain_site s = record { start = s.start; len = s.len }

-- and as a program has it
abbrev pub program_site : OwnSite → Site
program_site s = site_of (plain_site s)

-- the sites of an object, apart from each other
pub record AreAllSites (o : Coded) (sites : List OwnSite) : Type 0 where
  pub all : map program_site sites ≡ sites_of o
  pub apart : AscendApart sites
