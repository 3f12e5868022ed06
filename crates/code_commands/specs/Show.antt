-- What the command `show IN` prints, on whatever its files hold, and how it ends.
use Rattle.std.specs.Prelude.{◌≡◌, ⊤, ℕ, true, List, length, Option, Some, None}
use Rattle.ot_base.specs.NameLists.{NameLists}
use Rattle.ot_files.specs.Content.{Content}
use Rattle.ot_files.specs.Output.{appending}
use Rattle.elf_objects.specs.Elf.{Elf}
use Rattle.x86_map.specs.declared.map.Map.{Map}
use Rattle.flow_defs.specs.Coded.{coded_by}
use Rattle.flow_defs.specs.Program.{program_of}
use Rattle.state_defs.specs.declared.state.State.{State}
use Rattle.machine_defs.specs.Program.{Program, IsPoint}
use Rattle.machine_defs.specs.Kept.{AreKeptStates}
use Rattle.program_graph.specs.Tells.{Tells}
use Rattle.kept_states.specs.LevelStates.{at}
use Rattle.code_listing.specs.Listing.{HasNoFunction, is_listed, listing_text}
use Rattle.code_listing.specs.Points.{NamesPoints}
use Rattle.command_base.specs.Outside.{Outside, Output}
use Rattle.command_base.specs.Printing.{Concludes, Prints}
use Rattle.command_base.specs.declared.refusal.Refusal.TheVariants.{NoFunction}
use Rattle.command_base.specs.declared.status.Status.{Status}
use Rattle.command_base.specs.declared.status.Status.TheVariants as status
use Rattle.command_base.specs.declared.stop.CommandStop.{CommandStop}
use Rattle.command_base.specs.declared.stop.CommandStop.TheVariants.{Refused}
use Rattle.code_commands.specs.Entry.{MayBeChecked, StopsEntry}
use Rattle.code_commands.specs.declared.show_code.ShownCode.{ShownCode}

-- ---- what is shown of an object

-- what is read of a program: its graph, and the states that are kept at its points
pub record IsShownCode (p : Program) (shown : ShownCode) : Type 0 where
  pub tells : Tells p shown.graph.parts
  pub named : NamesPoints p
  pub points : length shown.kept ≡ length shown.graph.parts.points.items
  pub states : AreKeptStates p (at shown.kept)

-- a point is of a function of this name
pub record HasFunction (o : Elf) (p : Program) (name : List ℕ) : Type 0 where
  pub at : ℕ
  pub point : IsPoint p at
  pub listed : is_listed o (Some name) (p.function at) ≡ true

-- where the code of functions of one name alone is asked for, there is some
abbrev pub HasCode : Elf → Program → Option (List ℕ) → Type 0
HasCode o p None = ⊤
HasCode o p (Some name) = HasFunction o p name

-- IN may read as the bytes of this object, which is in order, under these lists of names; these are the states that are kept at the
-- points of its program; and there is code of what is asked for.
pub record MayBeShown (map : Map) (content : Option Content) (input : List ℕ) (names function : Option (List ℕ)) (o : Elf) (lists : NameLists) (states : ℕ → Option State) : Type 0 where
  pub may : MayBeChecked map content input names o lists
  pub kept : AreKeptStates (program_of (coded_by map o) lists) states
  pub code : HasCode o (program_of (coded_by map o) lists) function

-- ---- what stops the command

-- the stop says that there is no function of this name
abbrev pub IsNoFunction : List ℕ → CommandStop → Type 0
IsNoFunction name (Refused (NoFunction told)) = told.now ≡ name
IsNoFunction name _ = ⊥

-- How `show` stops: as `entry` does, before IN is looked at as an object in order; or there is no code of the function that is asked for.
pub data StopsShow (map : Map) (input : List ℕ) (names function : Option (List ℕ)) (before after : Outside) : CommandStop → Type 0 where
  unchecked : {stop : CommandStop} → StopsEntry map input names before after stop → StopsShow map input names function before after stop
  no_function :
      {stop : CommandStop} (o : Elf) (lists : NameLists) (name : List ℕ)
      → MayBeChecked map before.content input names o lists
      → function ≡ Some name
      → HasNoFunction o (program_of (coded_by map o) lists) name
      → IsNoFunction name stop
      → StopsShow map input names function before after stop

-- ---- how it ends

-- How `show` ends: it prints the listing of the program of IN, or stops, and tells why.
pub data EndsShow (map : Map) (input : List ℕ) (names function : Option (List ℕ)) (before after : Outside) (out out' : Output) : Status → Type 0 where
  shown :
      {s : Status} (o : Elf) (lists : NameLists) (states : ℕ → Option State)
      → MayBeShown map before.content input names function o lists states
      → Prints status.Done (listing_text o (program_of (coded_by map o) lists) states function) out out' s
      → EndsShow map input names function before after out out' s
  stopped :
      {s : Status} (stop : CommandStop)
      → StopsShow map input names function before after stop
      → Concludes stop out out' s
      → EndsShow map input names function before after out out' s

-- IN may read as the bytes of an object in order, and exactly the listing of its program was printed.
pub record PrintsListing (map : Map) (input : List ℕ) (names function : Option (List ℕ)) (content : Option Content) (before after : Option (List ℕ)) : Type 0 where
  pub object : Elf
  pub lists : NameLists
  pub states : ℕ → Option State
  pub may : MayBeShown map content input names function object lists states
  pub printed : after ≡ appending before (listing_text object (program_of (coded_by map object) lists) states function)
