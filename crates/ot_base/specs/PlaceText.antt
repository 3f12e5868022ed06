-- How names, codes, numbers and places are printed.
use Rattle.std.specs.Prelude.{ℕ, suc, ℤ, pos, negsuc, ◌/◌, ◌%◌, ◌==◌, Bool, false, ◌&&◌, not, nat_le, List, [], ◌∷◌, ◌++◌, codes, if◌then◌else◌}
use Rattle.std.specs.List.{flat_map}
use Rattle.std.specs.Fmt.{decimal, digits, digit_glyph}

-- the text at a number in a table, or nothing
abbrev pub text_at : List (ℕ × List ℕ) → ℕ → List ℕ
text_at [] rule = []
text_at (entry ∷ entries) rule = if rule == entry.0 then entry.1 else text_at entries rule

-- in lower-case hexadecimal digits, with no leading zero
abbrev pub hexadecimal : ℕ → List ℕ
hexadecimal n = digits 16 false n

-- with a sign, and in decimal digits
abbrev pub with_sign : ℤ → List ℕ
with_sign (pos n) = 43 ∷ decimal n
with_sign (negsuc n) = 45 ∷ decimal (suc n)

-- a byte in two lower-case hexadecimal digits
abbrev pub hexadecimal_byte : ℕ → List ℕ
hexadecimal_byte b = digit_glyph false (b / 16) ∷ digit_glyph false (b % 16) ∷ []

-- a byte from 21 to 7E other than the backslash
abbrev pub is_plain : ℕ → Bool
is_plain b = nat_le 0x21 b && nat_le b 0x7E && not (b == 0x5C)

-- a plain byte as it is, another one as a backslash and its two digits
abbrev pub escaped_byte : ℕ → List ℕ
escaped_byte b = if is_plain b then b ∷ [] else 0x5C ∷ hexadecimal_byte b

-- a name, byte by byte
abbrev pub escaped : List ℕ → List ℕ
escaped name = flat_map escaped_byte name

-- a section's name and an offset in it
abbrev pub place_text : List ℕ → ℕ → List ℕ
place_text section off = escaped section ++ codes "+0x" ++ hexadecimal off
