-- An image while its lines are read.
use Rattle.std.specs.Prelude.{◌≡◌, ℕ, ◌<◌, ◌==◌, List, [], ◌∷◌, ◌++◌, length, IsPermutation, Option, Some, None, Result, Ok, Err, MatchResult}
use Rattle.std.specs.List.{list_any}
use Rattle.std.specs.Option.{option_to_list}
use Rattle.std.specs.Ordering.{nat_cmp}
use Rattle.std.specs.BTreeSet.{contains}
use Rattle.orc_walk.specs.Memory.{IsMemory, pieces_of}
use Rattle.orc_walk.specs.declared.image_fault.ImageWhy.{ImageWhy}
use Rattle.orc_walk.specs.declared.image_fault.ImageWhy.TheVariants.{NoRegs}
use Rattle.orc_walk.specs.declared.image_fault.ImageFault.{ImageFault}
use Rattle.orc_walk.specs.declared.image_fault.ImageFault.TheVariants.{Line, NoMemory as NoImage}
use Rattle.orc_walk.specs.declared.image_fault.LineFault.{LineFault}
use Rattle.orc_walk.specs.declared.image_fault.LineFault.TheVariants.{Why, NoMemory}
use Rattle.orc_walk.specs.declared.statements.Statement.{Statement}
use Rattle.orc_walk.specs.declared.statements.Statement.TheVariants.{Nothing, Registers, Place, Memory}
use Rattle.orc_walk.specs.declared.reading.Reading.{Reading}
use Rattle.orc_walk.specs.Statements.{Said, nothing, registers, place, memory}
use Rattle.orc_walk.specs.ImageFile.{StackImage, registers_in, places_in, pieces_in, saying_fault, sayings, line_fault, IsSaid}

-- what a statement says
abbrev pub said_by : Statement → Said
said_by Nothing = nothing
said_by (Registers regs) = registers regs
said_by (Place section base) = place section base
said_by (Memory base bytes) = memory (record { base = base; bytes = bytes.items })

-- memory that is said has a byte at least
abbrev pub HasBytes : Said → Type 0
HasBytes nothing = Unit {0}
HasBytes (registers regs) = Unit {0}
HasBytes (place section base) = Unit {0}
HasBytes (memory piece) = 0 < length piece.bytes

-- what a line says is read, or what is wrong with it; want of memory says nothing of it
abbrev pub IsReadAs : Result Said ImageWhy → Result Statement LineFault → Type 0
IsReadAs says (Ok statement) = says ≡ Ok (said_by statement)
IsReadAs says (Err (Why why)) = says ≡ Err why
IsReadAs says (Err NoMemory) = Unit {0}

-- a line's fault is what is wrong; want of memory says nothing of the line
abbrev pub IsLineFault : Option ImageWhy → LineFault → Type 0
IsLineFault fault (Why why) = fault ≡ Some why
IsLineFault fault NoMemory = Unit {0}

-- the sections are those of the places, and the ranges are memory
pub record IsSound (reading : Reading) : Type 0 where
  pub sections : (section : ℕ) → contains nat_cmp reading.sections section ≡ list_any (λ other. other.0 == section) reading.places.items
  pub ascending : IsMemory (pieces_of reading.ranges.entries)

-- what was read is all that was said
pub record Holds (all : List Said) (reading : Reading) : Type 0 where
  pub regs : registers_in all ≡ option_to_list reading.regs
  pub places : reading.places.items ≡ places_in all
  pub pieces : IsPermutation (pieces_in all) (pieces_of reading.ranges.entries)

-- the answer, where a saying is added behind earlier ones
abbrev pub Adds : List Said → Said → Reading → Result (Unit {0}) LineFault → Type 0
Adds earlier saying new result = MatchResult result (λ _. (saying_fault earlier saying ≡ None) × Holds (earlier ++ saying ∷ []) new) (λ fault. IsLineFault (saying_fault earlier saying) fault)

-- the answer, where a line is read behind earlier ones
abbrev pub ReadsLine : List (List ℕ) → List ℕ → Reading → Result (Unit {0}) LineFault → Type 0
ReadsLine earlier line new result = MatchResult result (λ _. (line_fault earlier line ≡ None) × Holds (sayings (earlier ++ line ∷ [])) new) (λ fault. IsLineFault (line_fault earlier line) fault)

-- the image of all that was said, or that the registers weren't, told of this line
abbrev pub Finishes : List Said → ℕ → Result StackImage ImageFault → Type 0
Finishes all line (Ok image) = IsSaid all image
Finishes all line (Err (Line at why)) = (registers_in all ≡ []) × (at ≡ line) × (why ≡ NoRegs)
Finishes all line (Err NoImage) = Unit {0}

-- a line's fault, with the line
abbrev pub fault_at_line : ℕ → LineFault → ImageFault
fault_at_line line (Why why) = Line line why
fault_at_line line NoMemory = NoImage
