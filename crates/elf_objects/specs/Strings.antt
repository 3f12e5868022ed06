-- The texts of a string table.
use Rattle.std.specs.Prelude.{◌≡◌, ℕ, ◌==◌, not, List, length, take}
use Rattle.std.specs.List.{take_while}

-- the bytes before the first zero byte, or all of them
unfoldable pub up_to_zero : List ℕ → List ℕ
up_to_zero bytes = take_while (λ c. not (c == 0)) bytes

-- a text begins with these bytes
abbrev pub BeginsWith : List ℕ → List ℕ → Type 0
BeginsWith text prefix = take (length prefix) text ≡ prefix
