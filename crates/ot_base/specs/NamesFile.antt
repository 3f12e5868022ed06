-- A names file. Its lines end in LF, and the last may lack it. A line is empty, or begins with `#`, or is a
-- list's word, a space and a function's name.
use Rattle.std.specs.Prelude.{◌≡◌, ℕ, ◌+◌, ◌-◌, ◌<◌, ◌≤◌, ◌==◌, Bool, ◌&&◌, ◌||◌, not, nat_le, List, length, map, filter, slice_index, slice_index_or, [], All, Option, Some, None, codes, if◌then◌else◌}
use Rattle.std.specs.List.{slice_split, before_first, after_first, list_all}
use Rattle.std.specs.Str.{bytes_eq}
use Rattle.ot_base.specs.declared.lists.ListsWhy.{ListsWhy}
use Rattle.ot_base.specs.declared.lists.ListsWhy.TheVariants.{Word, Name}

-- the lines of a text; behind a last LF stands an empty line, which says nothing
abbrev pub lines : List ℕ → List (List ℕ)
lines text = slice_split (λ b. b == 10) text

-- the lines of a text that may be there, and how many bytes it has, with one more for the end of the text
abbrev pub lines_in : Option (List ℕ) → List (List ℕ)
lines_in None = []
lines_in (Some text) = lines text

abbrev pub bytes_left : Option (List ℕ) → ℕ
bytes_left None = 0
bytes_left (Some text) = length text + 1

-- what stands before the first space of a line, and what stands behind it
abbrev pub first_word : List ℕ → List ℕ
first_word line = before_first (λ b. b == 32) line

abbrev pub rest_of : List ℕ → List ℕ
rest_of line = after_first (λ b. b == 32) line

-- an empty line, and a line that begins with `#`
abbrev pub says_nothing : List ℕ → Bool
says_nothing line = length line == 0 || slice_index line 0 == 35

-- the words of the four lists
abbrev pub is_list_word : List ℕ → Bool
is_list_word word = bytes_eq word (codes "noreturn") || (bytes_eq word (codes "uaccess") || (bytes_eq word (codes "loose") || bytes_eq word (codes "switch")))

-- one or more bytes from 21 to 7E
abbrev pub is_name_byte : ℕ → Bool
is_name_byte b = nat_le 0x21 b && nat_le b 0x7E

abbrev pub is_name : List ℕ → Bool
is_name name = not (length name == 0) && list_all is_name_byte name

-- what is wrong with a line: its first word is no list's, or what follows isn't one name
unfoldable pub line_fault : List ℕ → Option ListsWhy
line_fault line =
    if says_nothing line then None
    else (if not (is_list_word (first_word line)) then Some Word
    else (if is_name (rest_of line) then None else Some Name))

-- nothing is wrong with any line
abbrev pub IsNamesFile : List ℕ → Type 0
IsNamesFile text = All (λ line. line_fault line ≡ None) (lines text)

-- the first faulty line, counted from 1
pub record IsFirstFault (text : List ℕ) (line : ℕ) (why : ListsWhy) : Type 0 where
  pub counted : 0 < line
  pub there : line ≤ length (lines text)
  pub fault : line_fault (slice_index_or (lines text) (line - 1) []) ≡ Some why
  pub first : (k : ℕ) → k + 1 < line → line_fault (slice_index_or (lines text) k []) ≡ None

-- the names that a file's lines add to the list with this word
unfoldable pub names_added : List ℕ → List (List ℕ) → List (List ℕ)
names_added word ls = map rest_of (filter (λ line. bytes_eq (first_word line) word) ls)
