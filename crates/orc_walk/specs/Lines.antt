-- The lines of an image's text, and the words of a line.
use Rattle.std.specs.Prelude.{ℕ, Bool, ◌-◌, ◌==◌, List, [], length, take, slice_index_or, if◌then◌else◌}
use Rattle.std.specs.List.{slice_split}

-- whether the last of these parts of a text is empty
abbrev pub ends_empty : List (List ℕ) → Bool
ends_empty parts = length (slice_index_or parts (length parts - 1) []) == 0

-- all these parts but the last, if that is empty
abbrev pub without_empty_end : List (List ℕ) → List (List ℕ)
without_empty_end parts = if ends_empty parts then take (length parts - 1) parts else parts

-- The lines of a text. Each ends in LF, and the last may lack it: behind a last LF stands no line.
unfoldable pub lines : List ℕ → List (List ℕ)
lines text = without_empty_end (slice_split (λ b. b == 10) text)

-- the words of a line, which single spaces part
abbrev pub words : List ℕ → List (List ℕ)
words line = slice_split (λ b. b == 32) line

-- a word of these, counted from 0
abbrev pub word : ℕ → List (List ℕ) → List ℕ
word k words = slice_index_or words k []
