-- Which objects get call frame information.
use Rattle.std.specs.Prelude.{◌≡◌, ℕ, ◌-◌, ◌≤◌, true, false, List, length, None}
use Rattle.ot_base.specs.NameLists.{NameLists}
use Rattle.ot_base.specs.declared.options.Options.{Options}
use Rattle.ot_base.specs.declared.row.PlacedRow.{PlacedRow}
use Rattle.elf_objects.specs.Elf.{Elf}
use Rattle.elf_objects.specs.declared.TheConstants.{MAX_SECTIONS, MAX_SYMBOLS}
use Rattle.machine_defs.specs.Allowances.{Allowances}
use Rattle.machine_defs.specs.Program.{Program}
use Rattle.x86_map.specs.declared.map.Map.{Map}
use Rattle.flow_defs.specs.Coded.{Coded, coded_by}
use Rattle.flow_defs.specs.Program.{program_of}
use Rattle.object_check.specs.Order.{IsInOrder}
use Rattle.object_check.specs.Outcome.{HasRows, IsUnbroken, allowances_of}
use Rattle.orc_output.specs.Tables.{symbols_needed}
use Rattle.eh_frame.specs.FrameOutput.{first_frame}

-- the rules that are asked for: those that always are, and 14
abbrev pub default_rules : Options
default_rules = record {
  fp = false;
  retpoline = false;
  rethunk = false;
  uaccess = false;
  unreachable = true;
  link = false;
  «module» = false;
}

-- the program of an object, read by an opcode map, under lists of names; and what the object allows code of it
abbrev pub program_under : Map → NameLists → Elf → Program
program_under map lists object = program_of (coded_by map object) lists

abbrev pub allowances_under : Map → NameLists → Elf → Allowances
allowances_under map lists object = allowances_of (coded_by map object) lists default_rules

-- so many sections an object may have, so that the two frame sections still find room
abbrev pub most_sections : ℕ
most_sections = MAX_SECTIONS - 2

-- The object is checked under the lists of names: it is in order, has no frame section yet, and room for two.
pub record IsCheckable (o : Coded) (lists : NameLists) : Type 0 where
  pub in_order : IsInOrder o lists
  pub new : first_frame o.elf ≡ None
  pub few : length o.elf.sections ≤ most_sections

-- The object gets the call frame information of these rows: it is checked, its program breaks no rule, these are the program's rows,
-- and the object has room for the section symbols that they need.
pub record GetsFrames (map : Map) (lists : NameLists) (o : Elf) (rows : List PlacedRow) : Type 0 where
  pub checkable : IsCheckable (coded_by map o) lists
  pub unbroken : IsUnbroken (program_under map lists o) (allowances_under map lists o) default_rules
  pub has_rows : HasRows (program_under map lists o) rows
  pub few_symbols : symbols_needed o rows ≤ MAX_SYMBOLS
