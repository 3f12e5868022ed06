-- What is kept beside an object whose code is read.
use Rattle.std.specs.Prelude.{◌<◌, ◌≤◌, ℕ, List, length}
use Rattle.ot_base.specs.declared.place.Place.{Place}
use Rattle.flow_defs.specs.Coded.{Coded}
use Rattle.special_sections.specs.declared.entries.HintEntry.{HintEntry}
use Rattle.special_sections.specs.Places.{HaveSameLast}
use Rattle.special_sections.specs.Special.{special_of}
use Rattle.object_points.specs.declared.code_owners.CodeOwner.{CodeOwner}
use Rattle.object_points.specs.CodeOwners.{TellOwners}
use Rattle.object_points.specs.SiteBlocks.{HasUnmarkedNoSite}
use Rattle.object_points.specs.Starts.{AreStarts}
use Rattle.object_points.specs.Unchecked.{AreUnchecked}

-- the starts of its functions, its unchecked owners, whose code its points are, its hints by their places, and marks of the
-- blocks in which its sites lie
pub record IsKept (o : Coded) (places : List Place) (owners : List ℕ) (items : List CodeOwner) (numbers : List ℕ) (hints : List HintEntry) (marks : List ℕ) : Type 0 where
  pub starts : AreStarts o.elf places
  pub unchecked : AreUnchecked o.elf owners
  pub points : TellOwners o items numbers
  pub few_items : length items ≤ 4194305
  pub hinted : HaveSameLast (special_of o.elf).hints hints
  pub some_marks : 0 < length marks
  pub unmarked : HasUnmarkedNoSite o marks
