-- Why `show` is refused on files that hold this: what the first step finds that fails, in the order of the steps. Faults of files and
-- of the output, and want of memory, are no refusals.
use Rattle.std.specs.Prelude.{◌≡◌, ℕ, List, Option, Some, Ok}
use Rattle.ot_base.specs.NameLists.{NameLists}
use Rattle.ot_files.specs.Content.{Content, reading}
use Rattle.elf_objects.specs.declared.TheConstants.{MAX_FILE_BYTES}
use Rattle.elf_objects.specs.Elf.{Elf}
use Rattle.elf_objects.specs.Object.{IsObject}
use Rattle.x86_map.specs.declared.map.Map.{Map}
use Rattle.flow_defs.specs.Coded.{coded_by}
use Rattle.flow_defs.specs.Program.{program_of}
use Rattle.code_listing.specs.Listing.{HasNoFunction}
use Rattle.command_base.specs.Code.{IsInOrder}
use Rattle.command_base.specs.Names.{HasNames}
use Rattle.command_base.specs.declared.stop.CommandStop.{CommandStop}
use Rattle.code_commands.specs.EntryRefused.{RefusesEntry}
use Rattle.code_commands.specs.Show.{IsNoFunction}

-- `show IN`: the steps of `entry`, up to the code of IN; then the function is looked for, where one is asked for.
pub data RefusesShow (map : Map) (input : List ℕ) (names function : Option (List ℕ)) (held : Content) : CommandStop → Type 0 where
  unchecked : {stop : CommandStop} → RefusesEntry map input names held stop → RefusesShow map input names function held stop
  without_function :
      {stop : CommandStop} (read : List ℕ) (o : Elf) (lists : NameLists) (name : List ℕ)
      → reading held input MAX_FILE_BYTES ≡ Ok read
      → HasNames (Some held) names lists
      → IsObject read o
      → IsInOrder (coded_by map o) lists
      → function ≡ Some name
      → HasNoFunction o (program_of (coded_by map o) lists) name
      → IsNoFunction name stop
      → RefusesShow map input names function held stop
