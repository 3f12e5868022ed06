-- When a names file is refused, and how that is printed.
use Rattle.std.specs.Prelude.{ℕ, List, ◌++◌, codes}
use Rattle.std.specs.Fmt.{decimal}
use Rattle.ot_base.specs.declared.lists.ListsWhy.{ListsWhy}
use Rattle.ot_base.specs.declared.lists.ListsWhy.TheVariants.{Word, Name}
use Rattle.ot_base.specs.declared.lists.ListsFault.{ListsFault}
use Rattle.ot_base.specs.declared.lists.ListsFault.TheVariants.{Line, NoMemory}
use Rattle.ot_base.specs.NamesFile.{IsFirstFault}

-- the line is the first faulty one; want of memory says nothing of the file
abbrev pub IsListsFault : List ℕ → ListsFault → Type 0
IsListsFault text (Line line why) = IsFirstFault text line why
IsListsFault text NoMemory = Unit {0}

abbrev pub why_text : ListsWhy → List ℕ
why_text Word = codes "bad word"
why_text Name = codes "bad name"

abbrev pub fault_text : ListsFault → List ℕ
fault_text (Line line why) = codes "names file line " ++ decimal line ++ codes ": " ++ why_text why
fault_text NoMemory = codes "no memory"
