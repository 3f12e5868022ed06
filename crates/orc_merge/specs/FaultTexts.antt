-- How faults are told.
use Rattle.std.specs.Prelude.{ℕ, List, [], ◌++◌, codes}
use Rattle.std.specs.Fmt.{decimal}
use Rattle.orc_walk.specs.FaultText.{fault_text}
use Rattle.orc_merge.specs.declared.faults.MergeFault.{MergeFault}
use Rattle.orc_merge.specs.declared.faults.MergeFault.TheVariants as merge
use Rattle.orc_merge.specs.declared.faults.TableFault.{TableFault}
use Rattle.orc_merge.specs.declared.faults.TableFault.TheVariants as table
use Rattle.orc_merge.specs.declared.faults.LayoutWhy.{LayoutWhy}
use Rattle.orc_merge.specs.declared.faults.LayoutWhy.TheVariants.{Word, Number, Repeated}
use Rattle.orc_merge.specs.declared.faults.LayoutFault.{LayoutFault}
use Rattle.orc_merge.specs.declared.faults.LayoutFault.TheVariants as layout

abbrev pub merge_text : MergeFault → List ℕ
merge_text (merge.Place part fault) = codes "file " ++ decimal part ++ codes ": " ++ fault_text fault
merge_text (merge.NotEnded part sec) = codes "file " ++ (decimal part ++ (codes " section " ++ (decimal sec ++ codes ": not ended")))
merge_text (merge.Overlaps part sec other_part other_sec) = codes "file " ++ (decimal part ++ (codes " section " ++ (decimal sec ++ (codes ": overlaps file " ++ (decimal other_part ++ (codes " section " ++ decimal other_sec))))))
merge_text (merge.TooMany count) = codes "too many rows: " ++ decimal count
merge_text merge.NoMemory = []

abbrev pub table_text : TableFault → List ℕ
table_text (table.Bad off) = codes "table: bad at byte " ++ decimal off
table_text table.NoMemory = []

abbrev pub why_text : LayoutWhy → List ℕ
why_text Word = codes "Word"
why_text Number = codes "Number"
why_text Repeated = codes "Repeated"

abbrev pub layout_text : LayoutFault → List ℕ
layout_text (layout.Line line why) = codes "layout line " ++ decimal line ++ codes ": " ++ why_text why
layout_text layout.NoMemory = []
