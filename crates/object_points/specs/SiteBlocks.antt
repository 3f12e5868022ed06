-- The blocks of 16 bytes of code in which alternatives sites lie.
use Rattle.std.specs.Prelude.{◌≡◌, ◌+◌, ◌/◌, ◌<◌, ℕ, true, false, List, None, length, slice_index_or}
use Rattle.ot_base.specs.declared.place.Place.{Place}
use Rattle.alternatives.specs.declared.site.AlternativesSite.{AlternativesSite}
use Rattle.alternatives.specs.Sites.{in_alternatives_site}
use Rattle.flow_defs.specs.Coded.{Coded}
use Rattle.flow_defs.specs.Sites.{site_holding}
use Rattle.object_points.specs.Marks.{is_marked}
use Rattle.object_points.specs.Places.{is_among}

-- the block of a place, by its number in its section
abbrev pub block_of : Place → Place
block_of place = record { sec = place.sec; off = place.off / 16 }

-- the block so many behind it
abbrev pub block_behind : Place → ℕ → Place
block_behind place count = record { sec = place.sec; off = place.off / 16 + count }

-- what is among some is among others
abbrev pub AreKept : List Place → List Place → Type 0
AreKept places others = (place : Place) → is_among places place ≡ true → is_among others place ≡ true

-- the blocks of all places of a site are among these
abbrev pub HaveBlocks : AlternativesSite → List Place → Type 0
HaveBlocks site blocks = (place : Place) → in_alternatives_site site place ≡ true → is_among blocks (block_of place) ≡ true

-- and those of all sites
abbrev pub HaveAllBlocks : List AlternativesSite → List Place → Type 0
HaveAllBlocks sites blocks = (k : ℕ) (d : AlternativesSite) → k < length sites → HaveBlocks (slice_index_or sites k d) blocks

-- no site holds a place of a block whose mark isn't set
abbrev pub HasUnmarkedNoSite : Coded → List ℕ → Type 0
HasUnmarkedNoSite o marks = (place : Place) → is_marked (length marks) marks (block_of place) ≡ false → site_holding o place ≡ None
