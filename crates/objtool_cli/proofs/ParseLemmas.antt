-- Why bytes can't be checked, and are refused.
use Rattle.std.proofs.Common.{ℕ, List}
use Rattle.ot_base.specs.NameLists.{NameLists}
use Rattle.cli_words.specs.declared.options.CheckOptions.{CheckOptions}
use Rattle.elf_objects.specs.Elf.{Elf}
use Rattle.elf_objects.specs.Object.{FirstFault, IsObject, Refuses}
use Rattle.elf_objects.specs.declared.fault.ElfFault.{ElfFault}
use Rattle.x86_map.specs.declared.map.Map.{Map}
use Rattle.flow_defs.specs.Coded.{coded_by}
use Rattle.command_base.specs.declared.stop.CommandStop.{CommandStop}
use Rattle.command_base.specs.declared.stop.CommandStop.TheVariants as stop
use Rattle.command_base.specs.Reading.{parse_stop}
use Rattle.command_base.proofs.FaultStops.{of_parse}
use Rattle.objtool_cli.specs.Checked.{IsRefusal, IsUnchecked, IsUncheckableStop, malformed, uncheckable, unchecked}

pub parse_uncheckable : (map : Map) (bytes : List ℕ) (lists : NameLists) (e : ElfFault) → Refuses (FirstFault bytes) e → IsUncheckableStop map bytes lists (parse_stop e)
parse_uncheckable map bytes lists e h = of_parse (IsUncheckableStop map bytes lists) bytes e (λ first fault. malformed fault) tt h

-- what is told of an object that isn't checked is why its bytes can't be
pub check_uncheckable : (map : Map) (bytes : List ℕ) (lists : NameLists) (o : Elf) (s : CommandStop) → IsObject bytes o → IsUnchecked (coded_by map o) lists s → IsUncheckableStop map bytes lists s
check_uncheckable map bytes lists o (stop.Refused refusal) is h = unchecked o is h
check_uncheckable map bytes lists o stop.NoMemory is h = tt
check_uncheckable map bytes lists o (stop.Usage usage) is h = absurd h
check_uncheckable map bytes lists o (stop.PartMissing part file) is h = absurd h
check_uncheckable map bytes lists o (stop.PartTooLong part file limit) is h = absurd h
check_uncheckable map bytes lists o (stop.PartRefused part refusal) is h = absurd h
check_uncheckable map bytes lists o (stop.Missing file) is h = absurd h
check_uncheckable map bytes lists o (stop.TooLong file limit) is h = absurd h
check_uncheckable map bytes lists o (stop.FileFault file) is h = absurd h

-- an input is refused whose bytes can't be checked
pub uncheckable_refusal : (bytes : List ℕ) (lists : NameLists) (options : CheckOptions) (s : CommandStop) → IsUncheckableStop options.map bytes lists s → IsRefusal bytes lists options s
uncheckable_refusal bytes lists options (stop.Refused refusal) h = uncheckable h
uncheckable_refusal bytes lists options stop.NoMemory h = tt
uncheckable_refusal bytes lists options (stop.Usage usage) h = absurd h
uncheckable_refusal bytes lists options (stop.PartMissing part file) h = absurd h
uncheckable_refusal bytes lists options (stop.PartTooLong part file limit) h = absurd h
uncheckable_refusal bytes lists options (stop.PartRefused part refusal) h = absurd h
uncheckable_refusal bytes lists options (stop.Missing file) h = absurd h
uncheckable_refusal bytes lists options (stop.TooLong file limit) h = absurd h
uncheckable_refusal bytes lists options (stop.FileFault file) h = absurd h
