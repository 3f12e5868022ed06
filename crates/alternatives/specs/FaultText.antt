-- The printed text of a fault.
use Rattle.std.specs.Prelude.{ℕ, List, ◌++◌, codes}
use Rattle.std.specs.Fmt.{decimal}
use Rattle.alternatives.specs.declared.fault.SiteWhy.{SiteWhy}
use Rattle.alternatives.specs.declared.fault.SiteWhy.TheVariants.{NotBoundary, Overlap, Replacement}
use Rattle.alternatives.specs.declared.fault.SiteFault.{SiteFault}
use Rattle.alternatives.specs.declared.fault.SiteFault.TheVariants.{At, NoMemory}

abbrev pub why_text : SiteWhy → List ℕ
why_text NotBoundary = codes "NotBoundary"
why_text Overlap = codes "Overlap"
why_text Replacement = codes "Replacement"

abbrev pub fault_text : SiteFault → List ℕ
fault_text (At entry why) = codes "alternative " ++ decimal entry ++ codes ": " ++ why_text why
fault_text NoMemory = codes "no memory"
