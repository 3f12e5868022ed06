-- The places of three site lists.
use Rattle.std.specs.Prelude.{List}
use Rattle.ot_base.specs.declared.place.Place.{Place}
use Rattle.site_lists.specs.declared.lists.SiteLists.{SiteLists}

-- the places of retpoline sites, of return sites and of call sites
pub record Listed : Type 0 where
  pub retpoline : List Place
  pub returns : List Place
  pub calls : List Place

abbrev pub listed : SiteLists → Listed
listed lists = record { retpoline = lists.retpoline.items; returns = lists.returns.items; calls = lists.calls.items }
