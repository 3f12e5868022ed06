-- What stands before an opcode: legacy prefixes, REX (0100WRXB; SDM, volume 2, section 2.2.1), or VEX or EVEX.
use Rattle.std.specs.Prelude.{ℕ, ◌/◌, ◌%◌, Bool, true, false, not, ◌&&◌, ◌==◌, nat_le, nat_lt, Option, Some, None}
use Rattle.x86_map.specs.declared.vector.Vector.{Vector}
use Rattle.x86_map.specs.declared.prefixes.Prefixes.{Prefixes}
use Rattle.x86_map.specs.Vector.{vector_w, vector_r, vector_x, vector_b, vvvv, pp, number_of}

-- whether there is a REX with the bit of this weight
abbrev pub has_rex_bit : ℕ → Option ℕ → Bool
has_rex_bit weight None = false
has_rex_bit weight (Some rex) = rex / weight % 2 == 1

-- VEX and EVEX tell it in the place of REX or a legacy prefix
abbrev pub told_by : Option Vector → (Vector → Bool) → Bool → Bool
told_by None by_vector otherwise = otherwise
told_by (Some v) by_vector otherwise = by_vector v

-- REX.W, or the W of VEX or EVEX; likewise R, X and B
abbrev pub rex_w : Prefixes → Bool
rex_w p = told_by p.vector vector_w (has_rex_bit 8 p.rex)

abbrev pub rex_r : Prefixes → Bool
rex_r p = told_by p.vector vector_r (has_rex_bit 4 p.rex)

abbrev pub rex_x : Prefixes → Bool
rex_x p = told_by p.vector vector_x (has_rex_bit 2 p.rex)

abbrev pub rex_b : Prefixes → Bool
rex_b p = told_by p.vector vector_b (has_rex_bit 1 p.rex)

-- 66, or the pp of VEX or EVEX in its place; likewise F3 and F2
abbrev pub under_66 : Prefixes → Bool
under_66 p = told_by p.vector (λ v. pp v == 1) p.has_66

abbrev pub under_F3 : Prefixes → Bool
under_F3 p = told_by p.vector (λ v. pp v == 2) p.has_f3

abbrev pub under_F2 : Prefixes → Bool
under_F2 p = told_by p.vector (λ v. pp v == 3) p.has_f2

-- the register that vvvv names; 0 where there is no VEX and no EVEX
abbrev pub vvvv_number : Option Vector → ℕ
vvvv_number None = 0
vvvv_number (Some v) = vvvv v

abbrev pub vvvv_register : Prefixes → ℕ
vvvv_register p = vvvv_number p.vector

abbrev pub is_rex : ℕ → Bool
is_rex byte = nat_le 0x40 byte && nat_le byte 0x4F

-- a REX byte is one of 40 to 4F
abbrev pub is_rex_valid : Option ℕ → Bool
is_rex_valid None = true
is_rex_valid (Some rex) = is_rex rex

abbrev pub is_without : Option ℕ → Bool
is_without None = true
is_without (Some rex) = false

-- no 66, F3, F2 and F0 and no REX, behind which VEX and EVEX can't stand
abbrev pub is_bare : Prefixes → Bool
is_bare p = not p.has_66 && not p.has_f3 && not p.has_f2 && not p.has_f0 && is_without p.rex

-- Whether the prefixes lead to the map of this number: VEX and EVEX name theirs, and the other prefixes stand before the opcodes of the first four.
abbrev pub leads : Option Vector → Prefixes → ℕ → Bool
leads None p number = nat_lt number 5 && is_rex_valid p.rex
leads (Some v) p number = is_bare p && (number_of v == number)

abbrev pub leads_to : Prefixes → ℕ → Bool
leads_to p number = leads p.vector p number
