-- How a fault of an image is told.
use Rattle.std.specs.Prelude.{ℕ, List, [], ◌++◌, codes}
use Rattle.std.specs.Fmt.{decimal}
use Rattle.orc_walk.specs.declared.image_fault.ImageWhy.{ImageWhy}
use Rattle.orc_walk.specs.declared.image_fault.ImageWhy.TheVariants.{Word, Number, Repeated, Wraps, Overlaps, NoRegs}
use Rattle.orc_walk.specs.declared.image_fault.ImageFault.{ImageFault}
use Rattle.orc_walk.specs.declared.image_fault.ImageFault.TheVariants.{Line, NoMemory}

abbrev pub why_text : ImageWhy → List ℕ
why_text Word = codes "bad word"
why_text Number = codes "bad number"
why_text Repeated = codes "repeated"
why_text Wraps = codes "wraps"
why_text Overlaps = codes "overlaps"
why_text NoRegs = codes "no regs"

abbrev pub fault_text : ImageFault → List ℕ
fault_text (Line line why) = codes "image line " ++ decimal line ++ codes ": " ++ why_text why
fault_text NoMemory = []
