-- The prefixes VEX (SDM, volume 2, section 2.3) and EVEX (section 2.7). The bits R, X and B and the field vvvv are inverted in them.
use Rattle.std.specs.Prelude.{ℕ, ◌+◌, ◌-◌, ◌/◌, ◌%◌, Bool, false, not, ◌&&◌, ◌==◌, nat_le, if◌then◌else◌, List, [], ◌∷◌}
use Rattle.x86_map.specs.declared.vector.Vector.{Vector}
use Rattle.x86_map.specs.declared.vector.Vector.TheVariants.{Vex2, Vex3, Evex}

-- whether the byte has the bit of this weight
abbrev pub has_bit : ℕ → ℕ → Bool
has_bit weight byte = byte / weight % 2 == 1

-- the first byte
abbrev pub escape : Vector → ℕ
escape (Vex2 a) = 0xC5
escape (Vex3 a b) = 0xC4
escape (Evex a b c) = 0x62

-- Those behind it: R vvvv L pp; or R X B mmmmm, W vvvv L pp; or R X B R' 0 mmm, W vvvv 1 pp, z L' L b V' aaa.
abbrev pub payload : Vector → List ℕ
payload (Vex2 a) = a ∷ []
payload (Vex3 a b) = a ∷ b ∷ []
payload (Evex a b c) = a ∷ b ∷ c ∷ []

abbrev pub vector_w : Vector → Bool
vector_w (Vex2 a) = false
vector_w (Vex3 a b) = has_bit 128 b
vector_w (Evex a b c) = has_bit 128 b

abbrev pub vector_r : Vector → Bool
vector_r (Vex2 a) = not (has_bit 128 a)
vector_r (Vex3 a b) = not (has_bit 128 a)
vector_r (Evex a b c) = not (has_bit 128 a)

abbrev pub vector_x : Vector → Bool
vector_x (Vex2 a) = false
vector_x (Vex3 a b) = not (has_bit 64 a)
vector_x (Evex a b c) = not (has_bit 64 a)

abbrev pub vector_b : Vector → Bool
vector_b (Vex2 a) = false
vector_b (Vex3 a b) = not (has_bit 32 a)
vector_b (Evex a b c) = not (has_bit 32 a)

-- the byte with vvvv and pp
abbrev pub vvvv_byte : Vector → ℕ
vvvv_byte (Vex2 a) = a
vvvv_byte (Vex3 a b) = b
vvvv_byte (Evex a b c) = b

-- the register that vvvv names
abbrev pub vvvv : Vector → ℕ
vvvv v = 15 - vvvv_byte v / 8 % 16

-- what stands in the place of a prefix: 1 for 66, 2 for F3, 3 for F2
abbrev pub pp : Vector → ℕ
pp v = vvvv_byte v % 4

-- ---- the map that follows

-- by the byte R X B mmmmm: the maps 1 to 3 of VEX are 5 to 7; 0 where it names none
abbrev pub vex_number : ℕ → ℕ
vex_number a = if nat_le 1 (a % 32) && nat_le (a % 32) 3 then a % 32 + 4 else 0

-- by the byte R X B R' 0 mmm: the maps 1, 2, 3, 5 and 6 of EVEX are 8 to 12
abbrev pub evex_number : ℕ → ℕ
evex_number a =
    if nat_le 1 (a % 16) && nat_le (a % 16) 3 then a % 16 + 7
    else (if nat_le 5 (a % 16) && nat_le (a % 16) 6 then a % 16 + 6 else 0)

-- the byte W vvvv 1 pp has its 1
abbrev pub is_evex_second : ℕ → Bool
is_evex_second b = has_bit 4 b

abbrev pub number_of : Vector → ℕ
number_of (Vex2 a) = 5
number_of (Vex3 a b) = vex_number a
number_of (Evex a b c) = if is_evex_second b then evex_number a else 0
