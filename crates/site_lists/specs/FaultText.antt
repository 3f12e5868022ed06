-- How a fault of site lists is told.
use Rattle.std.specs.Prelude.{ℕ, List, [], ◌++◌, codes}
use Rattle.std.specs.Fmt.{decimal}
use Rattle.orc_bytes.specs.FaultText.{why_text}
use Rattle.site_lists.specs.declared.fault.SitesFault.{SitesFault}
use Rattle.site_lists.specs.declared.fault.SitesFault.TheVariants.{NoSection, BadLength, BadSlot, NoMemory}
use Rattle.site_lists.specs.Sections.{list_name}

abbrev pub fault_text : SitesFault → List ℕ
fault_text (NoSection which) = codes "no section " ++ list_name which
fault_text (BadLength which len) = codes "section " ++ list_name which ++ codes ": bad length " ++ decimal len
fault_text (BadSlot which slot why) = codes "section " ++ list_name which ++ codes ": slot " ++ decimal slot ++ codes ": " ++ why_text why
fault_text NoMemory = []
