-- A layout while its lines are read.
use Rattle.std.specs.Prelude.{◌≡◌, ℕ, ◌==◌, List, [], ◌∷◌, ◌++◌, map, string_bytes, Option, Some, None, Result, Ok, Err, MatchResult}
use Rattle.std.specs.List.{list_any}
use Rattle.std.specs.Ordering.{nat_cmp}
use Rattle.std.specs.BTreeSet.{contains}
use Rattle.orc_merge.specs.declared.faults.LayoutWhy.{LayoutWhy}
use Rattle.orc_merge.specs.declared.faults.LayoutFault.{LayoutFault}
use Rattle.orc_merge.specs.declared.faults.LayoutFault.TheVariants.{Line, NoMemory as NoLayout}
use Rattle.orc_merge.specs.declared.faults.LineFault.{LineFault}
use Rattle.orc_merge.specs.declared.faults.LineFault.TheVariants.{Why, NoMemory}
use Rattle.orc_merge.specs.declared.layout_lines.Statement.{Statement}
use Rattle.orc_merge.specs.declared.layout_lines.Statement.TheVariants.{Nothing, File, Place}
use Rattle.orc_merge.specs.declared.layout.LayoutFile.{LayoutFile}
use Rattle.orc_merge.specs.declared.layout.Reading.{Reading}
use Rattle.orc_merge.specs.LayoutLines.{Said, nothing, file, place}
use Rattle.orc_merge.specs.LayoutFile.{FileSaid, with_saying, last_places, saying_fault, files_said, line_fault}

-- what a statement says
abbrev pub said_by : Statement → Said
said_by Nothing = nothing
said_by (File name) = file (string_bytes name)
said_by (Place section base) = place section base

-- what a line says is read, or what is wrong with it; want of memory says nothing of it
abbrev pub IsReadAs : Result Said LayoutWhy → Result Statement LineFault → Type 0
IsReadAs says (Ok statement) = says ≡ Ok (said_by statement)
IsReadAs says (Err (Why why)) = says ≡ Err why
IsReadAs says (Err NoMemory) = Unit {0}

-- a line's fault is what is wrong; want of memory says nothing of the line
abbrev pub IsLineFault : Option LayoutWhy → LineFault → Type 0
IsLineFault fault (Why why) = fault ≡ Some why
IsLineFault fault NoMemory = Unit {0}

-- a line's fault, with the line
abbrev pub fault_at_line : ℕ → LineFault → LayoutFault
fault_at_line line (Why why) = Line line why
fault_at_line line NoMemory = NoLayout

-- a file as it is said
abbrev pub file_of : LayoutFile → FileSaid
file_of one = record { name = string_bytes one.name; places = one.places.items }

abbrev pub files_of : List LayoutFile → List FileSaid
files_of files = map file_of files

-- the files that were read, and the sections of the last of them
pub record Holds (said : List FileSaid) (reading : Reading) : Type 0 where
  pub files : files_of reading.files.items ≡ said
  pub sections : (section : ℕ) → contains nat_cmp reading.sections section ≡ list_any (λ other. other.0 == section) (last_places said)

-- the answer, where a saying is added to files
abbrev pub Adds : List FileSaid → Said → Reading → Result (Unit {0}) LineFault → Type 0
Adds files saying new result = MatchResult result (λ _. (saying_fault files saying ≡ None) × Holds (with_saying files saying) new) (λ fault. IsLineFault (saying_fault files saying) fault)

-- the answer, where a line is read behind earlier ones
abbrev pub ReadsLine : List (List ℕ) → List ℕ → Reading → Result (Unit {0}) LineFault → Type 0
ReadsLine earlier line new result = MatchResult result (λ _. (line_fault earlier line ≡ None) × Holds (files_said (earlier ++ line ∷ [])) new) (λ fault. IsLineFault (line_fault earlier line) fault)
