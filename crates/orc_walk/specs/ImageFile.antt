-- An image of a stopped thread: its registers, where sections lie, and pieces of its memory.
use Rattle.std.specs.Prelude.{◌≡◌, ℕ, ◌+◌, ◌-◌, ◌^◌, ◌<◌, ◌≤◌, ◌⊎◌, Bool, ◌&&◌, nat_lt, ◌==◌, List, [], ◌∷◌, length, take, filter_map, slice_index_or, IsPermutation, Option, Some, None, Result, Ok, Err, if◌then◌else◌}
use Rattle.std.specs.List.{list_any}
use Rattle.std.specs.Result.{result_ok}
use Rattle.table_defs.specs.declared.frame.Regs.{Regs}
use Rattle.orc_walk.specs.Memory.{Piece, IsMemory, end_of}
use Rattle.orc_walk.specs.declared.image_fault.ImageWhy.{ImageWhy}
use Rattle.orc_walk.specs.declared.image_fault.ImageWhy.TheVariants.{Repeated, Wraps, Overlaps, NoRegs}
use Rattle.orc_walk.specs.declared.image_fault.ImageFault.{ImageFault}
use Rattle.orc_walk.specs.declared.image_fault.ImageFault.TheVariants.{Line, NoMemory}
use Rattle.orc_walk.specs.Lines.{lines}
use Rattle.orc_walk.specs.Statements.{Said, nothing, registers, place, memory, said}

-- the registers, the numbers of sections with their bases, and the memory
pub record StackImage : Type 0 where
  pub regs : Regs
  pub places : List (ℕ × ℕ)
  pub memory : List Piece

-- what those of these lines say that can be read
abbrev pub sayings : List (List ℕ) → List Said
sayings lines = filter_map (λ line. result_ok (said line)) lines

abbrev pub registers_of : Said → Option Regs
registers_of (registers regs) = Some regs
registers_of nothing = None
registers_of (place section base) = None
registers_of (memory piece) = None

abbrev pub place_of : Said → Option (ℕ × ℕ)
place_of (place section base) = Some (section, base)
place_of nothing = None
place_of (registers regs) = None
place_of (memory piece) = None

abbrev pub piece_of : Said → Option Piece
piece_of (memory piece) = Some piece
piece_of nothing = None
piece_of (registers regs) = None
piece_of (place section base) = None

-- the registers, the places and the pieces of memory among what is said, in its order
abbrev pub registers_in : List Said → List Regs
registers_in all = filter_map registers_of all

abbrev pub places_in : List Said → List (ℕ × ℕ)
places_in all = filter_map place_of all

abbrev pub pieces_in : List Said → List Piece
pieces_in all = filter_map piece_of all

-- two pieces of memory, neither of them empty, share an address
abbrev pub overlap : Piece → Piece → Bool
overlap one other = nat_lt one.base (end_of other) && nat_lt other.base (end_of one)

-- what is wrong with a piece of memory behind earlier ones: an address of it has more than 64 bits, or else
-- it shares an address with one of them
abbrev pub piece_fault : List Piece → Piece → Option ImageWhy
piece_fault earlier piece = if nat_lt (2 ^ 64) (end_of piece) then Some Wraps else (if list_any (λ other. overlap other piece) earlier then Some Overlaps else None)

-- What is wrong with a saying behind earlier ones: the registers are said again, or a section's place is, or
-- a piece of memory doesn't fit.
abbrev pub saying_fault : List Said → Said → Option ImageWhy
saying_fault earlier nothing = None
saying_fault earlier (registers regs) = if length (registers_in earlier) == 0 then None else Some Repeated
saying_fault earlier (place section base) = if list_any (λ other. other.0 == section) (places_in earlier) then Some Repeated else None
saying_fault earlier (memory piece) = piece_fault (pieces_in earlier) piece

abbrev pub fault_behind : List Said → Result Said ImageWhy → Option ImageWhy
fault_behind earlier (Err why) = Some why
fault_behind earlier (Ok saying) = saying_fault earlier saying

-- what is wrong with a line behind earlier ones: it can't be read, or else what it says doesn't fit
abbrev pub line_fault : List (List ℕ) → List ℕ → Option ImageWhy
line_fault earlier line = fault_behind (sayings earlier) (said line)

-- what is wrong with one of these lines, counted from 0
abbrev pub fault_at : List (List ℕ) → ℕ → Option ImageWhy
fault_at lines k = line_fault (take k lines) (slice_index_or lines k [])

-- the first faulty line of a text, counted from 1
pub record IsFirstFault (text : List ℕ) (line : ℕ) (why : ImageWhy) : Type 0 where
  pub counted : 0 < line
  pub there : line ≤ length (lines text)
  pub fault : fault_at (lines text) (line - 1) ≡ Some why
  pub first : (k : ℕ) → k + 1 < line → fault_at (lines text) k ≡ None

-- nothing is wrong with any line
abbrev pub HasNoFault : List (List ℕ) → Type 0
HasNoFault lines = (k : ℕ) → k < length lines → fault_at lines k ≡ None

-- Nothing is wrong with any line, but none says the registers, which is told of the line behind the last.
pub record LacksRegisters (text : List ℕ) (line : ℕ) (why : ImageWhy) : Type 0 where
  pub no_fault : HasNoFault (lines text)
  pub none : registers_in (sayings (lines text)) ≡ []
  pub behind : line ≡ length (lines text) + 1
  pub why_is : why ≡ NoRegs

-- why a text is no image; want of memory says nothing of the text
abbrev pub IsImageFault : List ℕ → ImageFault → Type 0
IsImageFault text (Line line why) = IsFirstFault text line why ⊎ LacksRegisters text line why
IsImageFault text NoMemory = Unit {0}

-- The image that is said: the registers, said once, the places in their order, and the pieces of memory by
-- their addresses.
pub record IsSaid (all : List Said) (image : StackImage) : Type 0 where
  pub regs : registers_in all ≡ image.regs ∷ []
  pub places : image.places ≡ places_in all
  pub pieces : IsPermutation (pieces_in all) image.memory
  pub ascending : IsMemory image.memory

-- the image that a text without a fault says
pub record IsImage (text : List ℕ) (image : StackImage) : Type 0 where
  pub no_fault : HasNoFault (lines text)
  pub says : IsSaid (sayings (lines text)) image
