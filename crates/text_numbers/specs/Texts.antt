-- Texts of a table by their numbers.
use Rattle.std.specs.Prelude.{◌≡◌, ◌<◌, ◌≤◌, ◌+◌, ◌%◌, ◌^◌, ◌==◌, ◌&&◌, ℕ, Bool, List, [], ◌∷◌, ◌++◌, Some, map, length, bytes_eq, slice_get, slice_range}
use Rattle.std.specs.Map.{keys_of}
use Rattle.text_numbers.specs.declared.marks.Mark.{Mark}
use Rattle.text_numbers.specs.declared.piece.Piece.{Piece}
use Rattle.text_numbers.specs.declared.piece.Span.{Span}

-- a table, and the texts that have numbers, in the order of their numbers from 0 on
pub record Numbered : Type 0 where
  pub table : List ℕ
  pub texts : List (List ℕ)

-- no text has two numbers
abbrev pub AreDifferent : List (List ℕ) → Type 0
AreDifferent texts = (i j : ℕ) (text : List ℕ) → slice_get texts i ≡ Some text → slice_get texts j ≡ Some text → i ≡ j

-- each text keeps its number
abbrev pub AreKept : List (List ℕ) → List (List ℕ) → Type 0
AreKept old new = (n : ℕ) (text : List ℕ) → slice_get old n ≡ Some text → slice_get new n ≡ Some text

-- the empty text, and those of the places of pieces
abbrev pub texts_of : List ℕ → List (Piece × Span) → List (List ℕ)
texts_of table pieces = [] ∷ map (λ p. slice_range table p.1.start p.1.end) pieces

-- two pieces are the same bytes before one text
abbrev pub is_same : Piece → Piece → Bool
is_same piece other = bytes_eq piece.bytes.now other.bytes.now && piece.rest == other.rest

-- a text is the 1 to 64 bytes of a piece and one with a number, whose length is a multiple of 64
pub record IsMade (texts : List (List ℕ)) (piece : Piece) (text : List ℕ) : Type 0 where
  pub rest : List ℕ
  pub has_rest : slice_get texts piece.rest ≡ Some rest
  pub whole : length rest % 64 ≡ 0
  pub some : 0 < length piece.bytes.now
  pub few : length piece.bytes.now ≤ 64
  pub is : text ≡ piece.bytes.now ++ rest

-- the text of each piece has the number behind the place of that piece
pub record ArePieces (table : List ℕ) (pieces : List (Piece × Span)) : Type 0 where
  pub short : length table < 2 ^ 32
  pub few : length pieces + 1 < 2 ^ 32
  pub different : AreDifferent (texts_of table pieces)
  pub made : (i : ℕ) (piece : Piece) (text : List ℕ) → slice_get (keys_of pieces) i ≡ Some piece → slice_get (texts_of table pieces) (i + 1) ≡ Some text → IsMade (texts_of table pieces) piece text

-- what a mark says: from its start to its end stands the text with its number
abbrev pub IsMark : Numbered → Mark → Type 0
IsMark n mark = slice_get n.texts mark.number ≡ Some (slice_range n.table mark.start mark.end)

abbrev pub AreMarks : Numbered → List Mark → Type 0
AreMarks n marks = (i : ℕ) (mark : Mark) → slice_get marks i ≡ Some mark → IsMark n mark
