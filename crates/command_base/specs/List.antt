-- What the command `list FILE` prints, on whatever FILE holds, and how it ends.
use Rattle.std.specs.Prelude.{◌≡◌, ℕ, List, ◌++◌, Option, Ok, codes}
use Rattle.std.specs.List.{flat_map}
use Rattle.ot_base.specs.PlaceText.{place_text}
use Rattle.ot_base.specs.declared.place.Place.{Place}
use Rattle.ot_files.specs.Content.{Content}
use Rattle.ot_files.specs.Output.{appending}
use Rattle.elf_objects.specs.declared.TheConstants.{MAX_FILE_BYTES}
use Rattle.elf_objects.specs.declared.fault.ElfFault.{ElfFault}
use Rattle.elf_objects.specs.Elf.{Elf}
use Rattle.elf_objects.specs.Contents.{section_at}
use Rattle.elf_objects.specs.Object as object
use Rattle.elf_objects.specs.Object.{IsObject}
use Rattle.site_lists.specs.Faults as sites
use Rattle.site_lists.specs.Listed.{Listed}
use Rattle.site_lists.specs.Sections.{HoldsSites}
use Rattle.site_lists.specs.declared.fault.SitesFault.{SitesFault}
use Rattle.command_base.specs.Outside.{Outside, Output}
use Rattle.command_base.specs.Printing.{Concludes, Prints}
use Rattle.command_base.specs.Reading.{MayRead, StopsAtRead}
use Rattle.command_base.specs.declared.refusal.Refusal.TheVariants.{Malformed, Sites}
use Rattle.command_base.specs.declared.status.Status.{Status}
use Rattle.command_base.specs.declared.status.Status.TheVariants as status
use Rattle.command_base.specs.declared.stop.CommandStop.{CommandStop}
use Rattle.command_base.specs.declared.stop.CommandStop.TheVariants.{NoMemory, Refused}

-- the line of a site: its list's word, and its place
unfoldable pub site_line : Elf → List ℕ → Place → List ℕ
site_line o word place = word ++ codes " " ++ place_text (section_at o place.sec).name place.off ++ codes "\n"

-- the lines of the places of one list, in their order
abbrev pub list_text : Elf → List ℕ → List Place → List ℕ
list_text o word places = flat_map (site_line o word) places

-- the text of three lists: the lines of retpoline sites, then of return sites, then of call sites
abbrev pub lists_text : Elf → Listed → List ℕ
lists_text o lists =
    list_text o (codes "retpoline") lists.retpoline
    ++ (list_text o (codes "return") lists.returns
    ++ list_text o (codes "call") lists.calls)

-- these bytes are an object, whose site lists hold these places
pub record HoldsLists (bytes : List ℕ) (o : Elf) (lists : Listed) : Type 0 where
  pub object : IsObject bytes o
  pub held : HoldsSites o lists

-- Why bytes aren't read as the site lists of an object: they are no object, and this is their first fault; or one
-- whose site lists hold no places, and this is the first fault of these; or memory ran out.
pub data HoldsNoLists (bytes : List ℕ) : CommandStop → Type 0 where
  malformed : {fault : ElfFault} → object.FirstFault bytes fault → HoldsNoLists bytes (Refused (Malformed fault))
  no_lists : {fault : SitesFault} (o : Elf) → IsObject bytes o → sites.FirstFault o fault → HoldsNoLists bytes (Refused (Sites fault))
  no_memory : HoldsNoLists bytes NoMemory

-- How `list` ends on these bytes of FILE: it prints the site lists that they hold, or tells why they hold none.
pub data ListsBytes (bytes : List ℕ) (out out' : Output) : Status → Type 0 where
  printed : {s : Status} (o : Elf) (lists : Listed) → HoldsLists bytes o lists → Prints status.Done (lists_text o lists) out out' s → ListsBytes bytes out out' s
  stopped : {s : Status} (stop : CommandStop) → HoldsNoLists bytes stop → Concludes stop out out' s → ListsBytes bytes out out' s

-- How `list` ends: FILE isn't read, or is read as some bytes.
pub data EndsList (file : List ℕ) (before after : Outside) (out out' : Output) : Status → Type 0 where
  unread : {s : Status} (stop : CommandStop) → StopsAtRead MAX_FILE_BYTES file before after stop → Concludes stop out out' s → EndsList file before after out out' s
  read : {s : Status} (bytes : List ℕ) → MayRead MAX_FILE_BYTES before.content file (Ok bytes) → ListsBytes bytes out out' s → EndsList file before after out out' s

-- FILE was read as an object whose site lists hold some places, and the lines of these were printed.
pub record IsListed (file : List ℕ) (content : Option Content) (before after : Option (List ℕ)) : Type 0 where
  pub bytes : List ℕ
  pub may : MayRead MAX_FILE_BYTES content file (Ok bytes)
  pub object : Elf
  pub lists : Listed
  pub held : HoldsLists bytes object lists
  pub printed : after ≡ appending before (lists_text object lists)
