-- A layout: which files there are, and where the sections of each lie.
use Rattle.std.specs.Prelude.{◌≡◌, ℕ, ◌+◌, ◌-◌, ◌<◌, ◌≤◌, ◌==◌, List, [], ◌∷◌, ◌++◌, length, take, filter_map, fold, slice_index_or, Option, Some, None, Result, Ok, Err, if◌then◌else◌}
use Rattle.std.specs.List.{list_any}
use Rattle.std.specs.Result.{result_ok}
use Rattle.ot_base.specs.NamesFile.{lines}
use Rattle.orc_merge.specs.declared.faults.LayoutWhy.{LayoutWhy}
use Rattle.orc_merge.specs.declared.faults.LayoutWhy.TheVariants.{Number, Repeated}
use Rattle.orc_merge.specs.declared.faults.LayoutFault.{LayoutFault}
use Rattle.orc_merge.specs.declared.faults.LayoutFault.TheVariants.{Line, NoMemory}
use Rattle.orc_merge.specs.LayoutLines.{Said, nothing, file, place, said}

-- a file's name, and its sections by number, each with its base, in the order of the lines
pub record FileSaid : Type 0 where
  pub name : List ℕ
  pub places : List (ℕ × ℕ)

-- a file of which nothing is said but its name
abbrev pub new_file : List ℕ → FileSaid
new_file name = record { name = name; places = [] }

-- the files with a place more in the last of them
abbrev pub with_place : List FileSaid → ℕ × ℕ → List FileSaid
with_place [] at = []
with_place (one ∷ []) at = record { name = one.name; places = one.places ++ at ∷ [] } ∷ []
with_place (one ∷ other ∷ files) at = one ∷ with_place (other ∷ files) at

-- the places of the last file
abbrev pub last_places : List FileSaid → List (ℕ × ℕ)
last_places [] = []
last_places (one ∷ []) = one.places
last_places (one ∷ other ∷ files) = last_places (other ∷ files)

-- the files with what one more line says
abbrev pub with_saying : List FileSaid → Said → List FileSaid
with_saying files nothing = files
with_saying files (file name) = files ++ new_file name ∷ []
with_saying files (place section base) = with_place files (section, base)

-- the files that those of these lines say that can be read, in their order
abbrev pub files_said : List (List ℕ) → List FileSaid
files_said lines = fold with_saying [] (filter_map (λ line. result_ok (said line)) lines)

-- What is wrong with a saying behind earlier files: it is a place, and there is no file, or the last file has one of this section.
abbrev pub saying_fault : List FileSaid → Said → Option LayoutWhy
saying_fault files nothing = None
saying_fault files (file name) = None
saying_fault files (place section base) = if length files == 0 then Some Number else (if list_any (λ other. other.0 == section) (last_places files) then Some Repeated else None)

abbrev pub fault_behind : List FileSaid → Result Said LayoutWhy → Option LayoutWhy
fault_behind files (Err why) = Some why
fault_behind files (Ok saying) = saying_fault files saying

-- what is wrong with a line behind earlier ones: it can't be read, or else what it says doesn't fit
abbrev pub line_fault : List (List ℕ) → List ℕ → Option LayoutWhy
line_fault earlier line = fault_behind (files_said earlier) (said line)

-- what is wrong with one of these lines, counted from 0
abbrev pub fault_at : List (List ℕ) → ℕ → Option LayoutWhy
fault_at lines k = line_fault (take k lines) (slice_index_or lines k [])

-- nothing is wrong with any line
abbrev pub IsLayout : List ℕ → Type 0
IsLayout text = (k : ℕ) → k < length (lines text) → fault_at (lines text) k ≡ None

-- the first faulty line, counted from 1
pub record IsFirstFault (text : List ℕ) (line : ℕ) (why : LayoutWhy) : Type 0 where
  pub counted : 0 < line
  pub there : line ≤ length (lines text)
  pub fault : fault_at (lines text) (line - 1) ≡ Some why
  pub first : (k : ℕ) → k + 1 < line → fault_at (lines text) k ≡ None

-- the line is the first faulty one; want of memory says nothing of the text
abbrev pub IsLayoutFault : List ℕ → LayoutFault → Type 0
IsLayoutFault text (Line line why) = IsFirstFault text line why
IsLayoutFault text NoMemory = Unit {0}

-- the files of a text
abbrev pub layout_files : List ℕ → List FileSaid
layout_files text = files_said (lines text)
