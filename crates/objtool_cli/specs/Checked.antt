-- What `check` makes of the bytes of its input.
use Rattle.std.specs.Prelude.{◌≡◌, ℕ, ℤ, ◌<◌, List}
use Rattle.ot_base.specs.NameLists.{NameLists}
use Rattle.cli_words.specs.declared.options.CheckOptions.{CheckOptions}
use Rattle.ot_base.specs.declared.place.Place.{Place}
use Rattle.ot_base.specs.declared.row.PlacedRow.{PlacedRow}
use Rattle.ot_base.specs.declared.warning.Warning.{Warning}
use Rattle.elf_objects.specs.declared.fault.Counted.TheVariants.{Sections, Symbols}
use Rattle.elf_objects.specs.declared.fault.ElfFault.{ElfFault}
use Rattle.elf_objects.specs.Elf.{Elf}
use Rattle.elf_objects.specs.Object.{FirstFault, IsObject}
use Rattle.elf_objects.specs.declared.TheConstants.{MAX_SYMBOLS}
use Rattle.x86_map.specs.declared.map.Map.{Map}
use Rattle.machine_defs.specs.Allowances.{Allowances}
use Rattle.machine_defs.specs.Asked.{IsWarned}
use Rattle.machine_defs.specs.Program.{Program}
use Rattle.flow_defs.specs.Coded.{Coded, coded_by}
use Rattle.flow_defs.specs.Program.{program_of}
use Rattle.object_check.specs.Allowances.{allowances_of}
use Rattle.object_check.specs.Order.{IsCheckable, IsCheckFault}
use Rattle.object_check.specs.Outcome.{AreWarnings, HasRows, IsUnbroken}
use Rattle.object_check.specs.declared.fault.CheckFault.TheVariants as fault
use Rattle.orc_output.specs.Tables.{symbols_needed}
use Rattle.command_base.specs.Code.{IsWorded}
use Rattle.command_base.specs.declared.refusal.Refusal.{Refusal}
use Rattle.command_base.specs.declared.refusal.Refusal.TheVariants.{Malformed, Unlinked, Unflowed, HasOrc, TooMany}
use Rattle.command_base.specs.declared.stop.CommandStop.{CommandStop}
use Rattle.command_base.specs.declared.stop.CommandStop.TheVariants.{Refused, NoMemory}
use Rattle.objtool_cli.specs.Writing.{IsTable}

-- the program of an object, read by the opcode map that the options ask for, under lists of names; and what the object allows
-- code of it
abbrev pub program_under : CheckOptions → NameLists → Elf → Program
program_under options lists object = program_of (coded_by options.map object) lists

abbrev pub allowances_under : CheckOptions → NameLists → Elf → Allowances
allowances_under options lists object = allowances_of (coded_by options.map object) lists options.rules

-- An input of these bytes is accepted under these lists of names and these options, and OUT is to hold the bytes `table`: the
-- bytes are an object that is checked, whose program, read by the opcode map that the options ask for, breaks no rule that they
-- ask for; and `table` is this object with the tables of the rows of its program.
pub record Accepts (bytes : List ℕ) (lists : NameLists) (options : CheckOptions) (table : List ℕ) : Type 0 where
  pub object : Elf
  pub is : IsObject bytes object
  pub checkable : IsCheckable (coded_by options.map object) lists
  pub unbroken : IsUnbroken (program_under options lists object) (allowances_under options lists object) options.rules
  pub rows : List PlacedRow
  pub has_rows : HasRows (program_under options lists object) rows
  pub table_is : IsTable object rows table

-- They are this object, which is checked, and whose program breaks rules that are asked for: these are all warnings, in
-- their order.
pub record HasWarnings (bytes : List ℕ) (lists : NameLists) (options : CheckOptions) (o : Elf) (warnings : List Warning) : Type 0 where
  pub is : IsObject bytes o
  pub checkable : IsCheckable (coded_by options.map o) lists
  pub are : AreWarnings (program_under options lists o) (allowances_under options lists o) options.rules warnings

-- they are an object that is checked, and whose program breaks a rule that is asked for
pub record BreaksRule (bytes : List ℕ) (lists : NameLists) (options : CheckOptions) : Type 0 where
  pub object : Elf
  pub is : IsObject bytes object
  pub checkable : IsCheckable (coded_by options.map object) lists
  pub place : Place
  pub rule : ℕ
  pub a : ℤ
  pub b : ℤ
  pub broken : IsWarned (program_under options lists object) (allowances_under options lists object) options.rules place rule a b

-- the refusal tells why the object isn't checked, under lists of names
abbrev pub TellsCheckFault : Coded → NameLists → Refusal → Type 0
TellsCheckFault o lists (Unlinked told) = IsCheckFault o lists (fault.Link told.fault) × IsWorded o.elf told
TellsCheckFault o lists (Unflowed told) = IsCheckFault o lists (fault.Flow told.fault)
TellsCheckFault o lists (HasOrc sec) = IsCheckFault o lists (fault.HasOrc sec)
TellsCheckFault o lists (TooMany Sections count) = IsCheckFault o lists (fault.TooManySections count)
TellsCheckFault o lists _ = ⊥

-- the stop tells this, or want of memory
abbrev pub IsUnchecked : Coded → NameLists → CommandStop → Type 0
IsUnchecked o lists (Refused refusal) = TellsCheckFault o lists refusal
IsUnchecked o lists NoMemory = Unit {0}
IsUnchecked o lists _ = ⊥

-- These bytes can't be checked by this opcode map, under these lists of names, and this is why: they are no object, and this is their first fault; or an
-- object that isn't checked.
pub data IsUncheckable (map : Map) (bytes : List ℕ) (lists : NameLists) : Refusal → Type 0 where
  malformed : {fault : ElfFault} → FirstFault bytes fault → IsUncheckable map bytes lists (Malformed fault)
  unchecked : {refusal : Refusal} (o : Elf) → IsObject bytes o → TellsCheckFault (coded_by map o) lists refusal → IsUncheckable map bytes lists refusal

-- the stop tells this, or want of memory
abbrev pub IsUncheckableStop : Map → List ℕ → NameLists → CommandStop → Type 0
IsUncheckableStop map bytes lists (Refused refusal) = IsUncheckable map bytes lists refusal
IsUncheckableStop map bytes lists NoMemory = Unit {0}
IsUncheckableStop map bytes lists _ = ⊥

-- An input of these bytes is refused so, in this order: they can't be checked, and this is why; or they are an object that
-- breaks no rule, and whose tables need too many symbols.
pub data Refuses (bytes : List ℕ) (lists : NameLists) (options : CheckOptions) : Refusal → Type 0 where
  uncheckable : {refusal : Refusal} → IsUncheckable options.map bytes lists refusal → Refuses bytes lists options refusal
  crowded :
      {count : ℕ} (o : Elf) (rows : List PlacedRow)
      → IsObject bytes o
      → IsCheckable (coded_by options.map o) lists
      → IsUnbroken (program_under options lists o) (allowances_under options lists o) options.rules
      → HasRows (program_under options lists o) rows
      → MAX_SYMBOLS < symbols_needed o rows
      → count ≡ symbols_needed o rows
      → Refuses bytes lists options (TooMany Symbols count)

-- the stop is a refusal of these bytes, or want of memory
abbrev pub IsRefusal : List ℕ → NameLists → CheckOptions → CommandStop → Type 0
IsRefusal bytes lists options (Refused refusal) = Refuses bytes lists options refusal
IsRefusal bytes lists options NoMemory = Unit {0}
IsRefusal bytes lists options _ = ⊥
