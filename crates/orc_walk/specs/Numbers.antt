-- The numbers of an image's text.
use Rattle.std.specs.Prelude.{ℕ, ◌^◌, Bool, ◌&&◌, ◌||◌, nat_le, nat_lt, List, length, Option, Some, None, if◌then◌else◌}
use Rattle.std.specs.List.{list_all}
use Rattle.std.specs.Result.{result_ok}
use Rattle.std.specs.Str.Parse.{digits_value}
use Rattle.hex.specs.Hex.{decode_of}

-- a lower-case hexadecimal digit: 0 to 9, or a to f
abbrev pub is_hexadecimal_digit : ℕ → Bool
is_hexadecimal_digit c = (nat_le 48 c && nat_le c 57) || (nat_le 97 c && nat_le c 102)

-- a decimal digit
abbrev pub is_decimal_digit : ℕ → Bool
is_decimal_digit c = nat_le 48 c && nat_le c 57

-- from 1 to so many digits, and nothing else
abbrev pub is_numeral : (ℕ → Bool) → ℕ → List ℕ → Bool
is_numeral is_digit most word = (nat_lt 0 (length word) && nat_le (length word) most) && list_all is_digit word

-- the number that a word of 1 to 16 hexadecimal digits writes
unfoldable pub hexadecimal : List ℕ → Option ℕ
hexadecimal word = if is_numeral is_hexadecimal_digit 16 word then Some (digits_value 16 word) else None

-- the number below 2^32 that a word of 1 to 10 decimal digits writes
unfoldable pub decimal : List ℕ → Option ℕ
decimal word = if is_numeral is_decimal_digit 10 word && nat_lt (digits_value 10 word) (2 ^ 32) then Some (digits_value 10 word) else None

-- the bytes that a word of hexadecimal digits writes: one byte or more, each by two digits, its high four
-- bits first
unfoldable pub bytes : List ℕ → Option (List ℕ)
bytes word = if nat_lt 0 (length word) && list_all is_hexadecimal_digit word then result_ok (decode_of word) else None
