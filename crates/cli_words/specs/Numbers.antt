-- The number of `demo N`, and the address of `find TABLE ADDR`.
use Rattle.std.specs.Prelude.{ℕ, ◌==◌, ◌&&◌, ◌||◌, not, Bool, nat_le, nat_lt, List, length, slice_index, Option, Some, None, if◌then◌else◌}
use Rattle.std.specs.List.{list_all}
use Rattle.std.specs.Str.Parse.{digits_value}

-- a decimal digit
abbrev pub is_digit : ℕ → Bool
is_digit c = nat_le 48 c && nat_le c 57

-- one to six digits, with no zero in front of another digit
abbrev pub is_numeral : List ℕ → Bool
is_numeral word =
    (nat_lt 0 (length word) && nat_le (length word) 6)
    && (list_all is_digit word && (length word == 1 || not (slice_index word 0 == 48)))

-- the number that a word writes, where it is one from 0 to 100,000
unfoldable pub number_of : List ℕ → Option ℕ
number_of word =
    if is_numeral word && nat_le (digits_value 10 word) 100000 then Some (digits_value 10 word) else None

-- a lower-case hexadecimal digit: 0 to 9, or a to f
abbrev pub is_hexadecimal_digit : ℕ → Bool
is_hexadecimal_digit c = is_digit c || (nat_le 97 c && nat_le c 102)

-- 1 to 16 of them, also with zeros in front
abbrev pub is_address : List ℕ → Bool
is_address word = (nat_lt 0 (length word) && nat_le (length word) 16) && list_all is_hexadecimal_digit word

-- the address that a word of 1 to 16 lower-case hexadecimal digits writes
unfoldable pub address_of : List ℕ → Option ℕ
address_of word = if is_address word then Some (digits_value 16 word) else None
