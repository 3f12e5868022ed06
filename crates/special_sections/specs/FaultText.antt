-- The printed text of a fault.
use Rattle.std.specs.Prelude.{ℕ, List, ◌++◌, codes}
use Rattle.std.specs.Fmt.{decimal}
use Rattle.special_sections.specs.declared.fault.Why.{Why}
use Rattle.special_sections.specs.declared.fault.Why.TheVariants.{Compressed, Size, NoReloc, NotText, Length, HintType, HintBase, HintOffset, HintSignal}
use Rattle.special_sections.specs.declared.fault.SpecialFault.{SpecialFault}
use Rattle.special_sections.specs.declared.fault.SpecialFault.TheVariants.{At, NoMemory}

abbrev pub why_text : Why → List ℕ
why_text Compressed = codes "Compressed"
why_text Size = codes "Size"
why_text NoReloc = codes "NoReloc"
why_text NotText = codes "NotText"
why_text Length = codes "Length"
why_text HintType = codes "HintType"
why_text HintBase = codes "HintBase"
why_text HintOffset = codes "HintOffset"
why_text HintSignal = codes "HintSignal"

abbrev pub fault_text : SpecialFault → List ℕ
fault_text (At sec entry why) = codes "section " ++ decimal sec ++ codes ": entry " ++ decimal entry ++ codes ": " ++ why_text why
fault_text NoMemory = codes "no memory"
