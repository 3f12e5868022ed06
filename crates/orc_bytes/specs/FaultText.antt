-- How a fault of ORC sections is told.
use Rattle.std.specs.Prelude.{ℕ, List, [], ◌++◌, codes, ◌==◌, if◌then◌else◌}
use Rattle.std.specs.Fmt.{decimal}
use Rattle.orc_bytes.specs.declared.fault.SlotWhy.{SlotWhy}
use Rattle.orc_bytes.specs.declared.fault.SlotWhy.TheVariants.{NoReloc, Kind, Offset, Symbol, Range, NotZero}
use Rattle.orc_bytes.specs.declared.fault.OrcFault.{OrcFault}
use Rattle.orc_bytes.specs.declared.fault.OrcFault.TheVariants.{NoSection, BadLength, Counts, BadBits, BadSlot, NoMemory}

abbrev pub why_text : SlotWhy → List ℕ
why_text NoReloc = codes "NoReloc"
why_text Kind = codes "Kind"
why_text Offset = codes "Offset"
why_text Symbol = codes "Symbol"
why_text Range = codes "Range"
why_text NotZero = codes "NotZero"

-- the section that a fault tells of
abbrev pub section_name : ℕ → List ℕ
section_name which = if which == 0 then codes ".orc_unwind" else codes ".orc_unwind_ip"

abbrev pub slot_text : ℕ → SlotWhy → List ℕ
slot_text row why = codes "row " ++ decimal row ++ codes ": bad slot: " ++ why_text why

abbrev pub fault_text : OrcFault → List ℕ
fault_text (NoSection which) = codes "no section " ++ section_name which
fault_text (BadLength which len) = codes "section " ++ section_name which ++ codes ": bad length " ++ decimal len
fault_text (Counts rows ips) = decimal rows ++ codes " rows, " ++ decimal ips ++ codes " places"
fault_text (BadBits row) = codes "row " ++ decimal row ++ codes ": bad bits"
fault_text (BadSlot row why) = slot_text row why
fault_text NoMemory = []
