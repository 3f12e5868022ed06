-- How it is told why the code of an object isn't read.
use Rattle.std.specs.Prelude.{ℕ, List, []}
use Rattle.x86_text.specs.FaultText as texts
use Rattle.special_sections.specs.FaultText as specials
use Rattle.symbols_relocs.specs.FaultText as indices
use Rattle.alternatives.specs.FaultText as sites
use Rattle.object_points.specs.declared.fault.LinkFault.{LinkFault}
use Rattle.object_points.specs.declared.fault.LinkFault.TheVariants.{Text, Special, Index, Site, NoMemory}

-- as the reader that refuses the object tells it; a text section by its name and its body
abbrev pub fault_text : LinkFault → List ℕ → List ℕ → List ℕ
fault_text (Text sec fault) section body = texts.fault_text fault section body
fault_text (Special fault) section body = specials.fault_text fault
fault_text (Index fault) section body = indices.fault_text fault
fault_text (Site fault) section body = sites.fault_text fault
fault_text NoMemory section body = []
