-- The memory that a walk reads.
use Rattle.std.specs.Prelude.{ℕ, zero, suc, ◌+◌, ◌-◌, ◌<◌, ◌≤◌, ◌^◌, List, [], ◌∷◌, ◌++◌, Vec, Option, Some, None, option_map, length, map, slice_get, nat_le, if◌then◌else◌, All, AllPairs}
use Rattle.std.specs.Option.{option_or, option_and_then}
use Rattle.std.specs.Int.{from_le_bytes, w64}
use Rattle.std.specs.declared.alloc.Global.{Global}

-- a piece of memory: the address of its first byte, and its bytes
pub record Piece : Type 0 where
  pub base : ℕ
  pub bytes : List ℕ

abbrev pub piece_of : ℕ × Vec ℕ Global → Piece
piece_of range = record { base = range.0; bytes = range.1.items }

-- the pieces that a list of ranges holds
abbrev pub pieces_of : List (ℕ × Vec ℕ Global) → List Piece
pieces_of ranges = map piece_of ranges

-- the address right behind a piece's last byte
abbrev pub end_of : Piece → ℕ
end_of piece = piece.base + length piece.bytes

-- Pieces of memory as they are looked up: none is empty, each lies within the 64-bit addresses, and each
-- ends at or below the beginning of those behind it.
pub record IsMemory (pieces : List Piece) : Type 0 where
  pub not_empty : All (λ piece. 0 < length piece.bytes) pieces
  pub in_memory : All (λ piece. end_of piece ≤ 2 ^ 64) pieces
  pub ascending : AllPairs (λ one other. end_of one ≤ other.base) pieces

-- the byte at an address, where the piece has one
abbrev pub byte_in : Piece → ℕ → Option ℕ
byte_in piece address = if nat_le piece.base address then slice_get piece.bytes (address - piece.base) else None

-- the byte at an address, where one of the pieces has one
abbrev pub byte_at : List Piece → ℕ → Option ℕ
byte_at [] address = None
byte_at (piece ∷ pieces) address = option_or (byte_in piece address) (byte_at pieces address)

-- the first n bytes from an address on, where all of them are there
unfoldable pub bytes_at : List Piece → ℕ → ℕ → Option (List ℕ)
bytes_at pieces address zero = Some []
bytes_at pieces address (suc n) = option_and_then (λ bytes. option_map (λ byte. bytes ++ byte ∷ []) (byte_at pieces (address + n))) (bytes_at pieces address n)

-- the word at an address: its 8 bytes, low byte first, each of them in some piece
abbrev pub word_at : List Piece → ℕ → Option ℕ
word_at pieces address = option_map (from_le_bytes w64) (bytes_at pieces address 8)
