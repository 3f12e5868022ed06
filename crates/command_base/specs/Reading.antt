-- What an input file may read as, and why a command stops that can't read it or its object.
use Rattle.std.specs.Prelude.{◌≡◌, ◌⊎◌, ℕ, ◌≤◌, List, length, Option, Some, None, Result, Ok, Err}
use Rattle.ot_files.specs.Causes.{Rose}
use Rattle.ot_files.specs.Content.{Content, reading}
use Rattle.ot_files.specs.declared.access.FileError.{FileError}
use Rattle.ot_files.specs.declared.access.FileError.TheVariants as file
use Rattle.elf_objects.specs.declared.fault.ElfFault.{ElfFault}
use Rattle.elf_objects.specs.declared.fault.ElfFault.TheVariants as elf
use Rattle.ot_base.specs.declared.lists.ListsFault.{ListsFault}
use Rattle.ot_base.specs.declared.lists.ListsFault.TheVariants as lists
use Rattle.orc_bytes.specs.declared.fault.OrcFault.{OrcFault}
use Rattle.orc_bytes.specs.declared.fault.OrcFault.TheVariants as orc
use Rattle.orc_walk.specs.declared.faults.PlaceFault.{PlaceFault}
use Rattle.orc_walk.specs.declared.faults.PlaceFault.TheVariants as place
use Rattle.orc_walk.specs.declared.image_fault.ImageFault.{ImageFault}
use Rattle.orc_walk.specs.declared.image_fault.ImageFault.TheVariants as image
use Rattle.site_lists.specs.declared.fault.SitesFault.{SitesFault}
use Rattle.site_lists.specs.declared.fault.SitesFault.TheVariants as sites
use Rattle.eh_frame.specs.declared.fault.EhFault.{EhFault}
use Rattle.eh_frame.specs.declared.fault.EhFault.TheVariants as frames
use Rattle.orc_merge.specs.declared.faults.LayoutFault.{LayoutFault}
use Rattle.orc_merge.specs.declared.faults.LayoutFault.TheVariants as layout
use Rattle.orc_merge.specs.declared.faults.MergeFault.{MergeFault}
use Rattle.orc_merge.specs.declared.faults.MergeFault.TheVariants as merge
use Rattle.orc_merge.specs.declared.faults.TableFault.{TableFault}
use Rattle.orc_merge.specs.declared.faults.TableFault.TheVariants as table
use Rattle.command_base.specs.declared.refusal.Refusal.TheVariants.{Malformed, Orc, Lists, Image, Unplaced, Sites, Frames, Layout, Merge, Table}
use Rattle.command_base.specs.declared.stop.CommandStop.{CommandStop}
use Rattle.command_base.specs.declared.stop.CommandStop.TheVariants.{Missing, TooLong, Refused, FileFault, NoMemory}
use Rattle.command_base.specs.Outside.{Outside}

-- what a name may read as, at most so many bytes: what the content says, where it is told, and else any file within the
-- limit
abbrev pub MayRead : ℕ → Option Content → List ℕ → Result (List ℕ) FileError → Type 0
MayRead limit (Some content) name read = read ≡ reading content name limit
MayRead limit None name (Ok bytes) = length bytes ≤ limit
MayRead limit None name (Err error) = (error ≡ file.Missing) ⊎ (error ≡ file.TooLong limit)

-- A command stops so that can't read the file of this name: there is none, or it is too long; or reading it failed, and
-- the count of faults rose; or memory ran out.
abbrev pub StopsAtRead : ℕ → List ℕ → Outside → Outside → CommandStop → Type 0
StopsAtRead limit name before after (Missing told) = (told.now ≡ name) × MayRead limit before.content name (Err file.Missing)
StopsAtRead limit name before after (TooLong told at) = (told.now ≡ name) × ((at ≡ limit) × MayRead limit before.content name (Err (file.TooLong limit)))
StopsAtRead limit name before after (FileFault told) = (told.now ≡ name) × Rose before.faults after.faults
StopsAtRead limit name before after NoMemory = Unit {0}
StopsAtRead limit name before after _ = ⊥

-- the file of this name isn't there, or is longer than the limit, and a command that reads it is refused so
abbrev pub IsUnreadable : ℕ → Content → List ℕ → CommandStop → Type 0
IsUnreadable limit held name (Missing told) = (told.now ≡ name) × (reading held name limit ≡ Err file.Missing)
IsUnreadable limit held name (TooLong told at) = (told.now ≡ name) × ((at ≡ limit) × (reading held name limit ≡ Err (file.TooLong limit)))
IsUnreadable limit held name _ = ⊥

-- why a command stops whose input is no object
abbrev pub parse_stop : ElfFault → CommandStop
parse_stop elf.NoMemory = NoMemory
parse_stop fault = Refused (Malformed fault)

-- why a command stops whose input's ORC sections hold no rows
abbrev pub orc_stop : OrcFault → CommandStop
orc_stop orc.NoMemory = NoMemory
orc_stop fault = Refused (Orc fault)

-- why a command stops whose names file isn't one
abbrev pub lists_stop : ListsFault → CommandStop
lists_stop lists.NoMemory = NoMemory
lists_stop fault = Refused (Lists fault)

-- why a command stops whose image isn't one
abbrev pub image_stop : ImageFault → CommandStop
image_stop image.NoMemory = NoMemory
image_stop fault = Refused (Image fault)

-- why a command stops whose rows can't be placed
abbrev pub place_stop : PlaceFault → CommandStop
place_stop place.NoMemory = NoMemory
place_stop fault = Refused (Unplaced fault)

-- why a command stops whose input's site lists can't be read
abbrev pub sites_stop : SitesFault → CommandStop
sites_stop sites.NoMemory = NoMemory
sites_stop fault = Refused (Sites fault)

-- why a command stops whose input's call frame information can't be read
abbrev pub frames_stop : EhFault → CommandStop
frames_stop frames.NoMemory = NoMemory
frames_stop fault = Refused (Frames fault)

-- why a command stops whose layout isn't one
abbrev pub layout_stop : LayoutFault → CommandStop
layout_stop layout.NoMemory = NoMemory
layout_stop fault = Refused (Layout fault)

-- why a command stops whose objects' rows can't be merged
abbrev pub merge_stop : MergeFault → CommandStop
merge_stop merge.NoMemory = NoMemory
merge_stop fault = Refused (Merge fault)

-- why a command stops whose merged table isn't one
abbrev pub table_stop : TableFault → CommandStop
table_stop table.NoMemory = NoMemory
table_stop fault = Refused (Table fault)
