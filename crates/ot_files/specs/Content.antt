-- What names hold, and what reading and writing a name mean on it.
use Rattle.std.specs.Prelude.{◌≡◌, ◌≢◌, ℕ, List, length, ⊤, Option, None, Some, Result, Ok, Err, if◌then◌else◌, nat_lt, option_map}
use Rattle.std.specs.Ordering.{nat_cmp}
use Rattle.std.specs.Cmp.Lexicographic.{slice_cmp}
use Rattle.std.specs.FinMap.{FinMap, get, insert}
use Rattle.ot_files.specs.declared.access.FileError.{FileError}
use Rattle.ot_files.specs.declared.access.FileError.TheVariants.{Failed, Missing, TooLong, NoMemory}

-- a finite map from names to byte lists; a name is the bytes of its UTF-8 text
abbrev pub Content : Type 0
Content = FinMap (slice_cmp nat_cmp) (List ℕ)

-- what a read of at most `limit` bytes gives of a name that holds this, where nothing fails
abbrev pub reading_of : Option (List ℕ) → ℕ → Result (List ℕ) FileError
reading_of None limit = Err Missing
reading_of (Some bytes) limit = if nat_lt limit (length bytes) then Err (TooLong limit) else Ok bytes

-- the same of a name in this content
abbrev pub reading : Content → List ℕ → ℕ → Result (List ℕ) FileError
reading content name limit = reading_of (get content name) limit

-- the answer and what `into` holds are the expected ones, unless a fault or want of memory is answered
abbrev pub Answers : {U : Type 0} → Result U FileError → List ℕ → Result (List ℕ) FileError → Type 0
Answers (Ok _) into expected = expected ≡ Ok into
Answers (Err Missing) into expected = expected ≡ Err Missing
Answers (Err (TooLong limit)) into expected = expected ≡ Err (TooLong limit)
Answers (Err Failed) into expected = ⊤
Answers (Err NoMemory) into expected = ⊤

-- the name holds exactly these bytes after the write, and every other name what it held
abbrev pub writing : Option Content → List ℕ → List ℕ → Option Content
writing told name bytes = option_map (λ content. insert content name bytes) told

-- every other name holds what it held, and what is told of the content stays told
abbrev pub ChangesAtMost : List ℕ → Option Content → Option Content → Type 0
ChangesAtMost name None None = ⊤
ChangesAtMost name None (Some new) = ⊥
ChangesAtMost name (Some old) None = ⊥
ChangesAtMost name (Some old) (Some new) = (other : List ℕ) → other ≢ name → get new other ≡ get old other

-- a limit that was passed over is the limit of the call
abbrev pub IsLimit : ℕ → FileError → Type 0
IsLimit limit (TooLong passed) = passed ≡ limit
IsLimit limit Failed = ⊤
IsLimit limit Missing = ⊤
IsLimit limit NoMemory = ⊤
