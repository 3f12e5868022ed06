-- How a refused placement is printed.
use Rattle.std.specs.Prelude.{ℕ, List, ◌++◌, codes}
use Rattle.std.specs.Fmt.{decimal}
use Rattle.orc_walk.specs.declared.faults.PlaceWhy.{PlaceWhy}
use Rattle.orc_walk.specs.declared.faults.PlaceWhy.TheVariants.{Missing, Wraps, Overlaps}
use Rattle.orc_walk.specs.declared.faults.PlaceFault.{PlaceFault}
use Rattle.orc_walk.specs.declared.faults.PlaceFault.TheVariants.{At, NoMemory}

abbrev pub why_text : PlaceWhy → List ℕ
why_text Missing = codes "not placed"
why_text Wraps = codes "wraps"
why_text (Overlaps other) = codes "overlaps " ++ decimal other

abbrev pub fault_text : PlaceFault → List ℕ
fault_text (At sec why) = codes "section " ++ decimal sec ++ codes ": " ++ why_text why
fault_text NoMemory = codes "no memory"
