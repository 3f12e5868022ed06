-- The known word that a word at fault may stand for.
use Rattle.std.specs.Prelude.{◌≡◌, ℕ, ◌≤◌, ◌&&◌, Bool, true, false, List, [], length, nat_eq, nat_le, nat_lt, Option, Some, None, All, Contains}
use Rattle.std.specs.Str.{chars}
use Rattle.strsim.specs.Edits.{levenshtein_row}
use Rattle.cli_words.specs.Words.{Word}
use Rattle.advice.specs.declared.nearest.Candidate.{Candidate}

-- how many characters have to be put in, left out or changed to make the other word of the one
abbrev pub edits : Word → Word → ℕ
edits word other = levenshtein_row nat_eq (chars word) (chars other) (length (chars other))

-- so many are few: at most two, and fewer than the word has characters
abbrev pub are_few : Word → ℕ → Bool
are_few word count = nat_le count 2 && nat_lt count (length (chars word))

-- a word is near
abbrev pub is_near : Word → Word → Bool
is_near word known = are_few word (edits word known)

-- of these words one is near and none is nearer; or none is near
abbrev pub IsNearest : Word → List Word → Option Word → Type 0
IsNearest word known (Some near) = (Contains known near × (is_near word near ≡ true)) × All (λ other. edits word near ≤ edits word other) known
IsNearest word known None = All (λ other. is_near word other ≡ false) known

-- the candidate is one of these words, and none is nearer; without one there are none
abbrev pub IsClosest : Word → List Word → Option Candidate → Type 0
IsClosest word known (Some best) = (Contains known best.known.now × (best.edits ≡ edits word best.known.now)) × All (λ other. best.edits ≤ edits word other) known
IsClosest word known None = known ≡ []
