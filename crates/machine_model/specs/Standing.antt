-- States of the model, as the definitions have them.
use Rattle.std.specs.Prelude.{◌≡◌, ℕ, ◌<◌, ◌≤◌, ◌^◌, option_map}
use Rattle.state_defs.specs.Region.{Region, hi_of, IsRegion, WritesWord}
use Rattle.state_defs.specs.Frame.{after_save}
use Rattle.state_defs.specs.Effect.{Core, StoresOrdinarily}
use Rattle.machine_defs.specs.Machine.{Standing, Machine, Wrecked, At}
use Rattle.machine_model.specs.declared.standing.Core.{Core as OwnCore}
use Rattle.machine_model.specs.declared.standing.Standing.{Standing as OwnStanding}
use Rattle.machine_model.specs.declared.standing.Machine.{Machine as OwnMachine}
use Rattle.machine_model.specs.declared.standing.Machine.TheVariants as own
use Rattle.machine_model.specs.Frame.{mark_of, frames_of}
use Rattle.program_model.specs.Region.{region_of}

abbrev pub core_of : OwnCore → Core
core_of c = record { rsp = c.rsp; rbp = c.rbp; region = region_of c.region; ac = c.ac; shadow = frames_of c.shadow.items }

abbrev pub standing_of : OwnStanding → Standing
standing_of s = record { point = s.point; core = core_of s.core; ended = s.ended; mark = option_map mark_of s.mark }

abbrev pub machine_of : OwnMachine → Machine
machine_of own.Wrecked = Wrecked
machine_of (own.At s) = At (standing_of s)

-- ordinary stores, and nothing else
pub record StoresOnly (before after : Core) : Type 0 where
  pub stores : StoresOrdinarily before after
  pub others : after ≡ record before { region = after.region }

-- rbp is stored at an address: into its slot, and as an ordinary store
pub record SavesAt (address : ℕ) (before after : Core) : Type 0 where
  pub written : hi_of before.region ≤ 2 ^ 64 → WritesWord address before.rbp before.region after.region
  pub others : after ≡ record before { region = after.region; shadow = after_save before.rbp address before.shadow }

pub record StoresAt (address : ℕ) (before after : Core) : Type 0 where
  pub written : hi_of before.region ≤ 2 ^ 64 → WritesWord address before.rbp before.region after.region
  pub stores : StoresOrdinarily before after
  pub others : after ≡ record before { region = after.region }

-- rbp is a 64-bit number, the region is one, and rsp is in it or right behind it
pub record IsInRegion (sp bp : ℕ) (r : Region) : Type 0 where
  pub rbp : bp < 2 ^ 64
  pub region : IsRegion r
  pub above_lo : r.lo ≤ sp
  pub below_hi : sp ≤ hi_of r
