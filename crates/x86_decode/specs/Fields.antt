-- The fields of an instruction, as its operation asks for them (SDM, volume 2, sections 2.1 and 2.2.1).
use Rattle.std.specs.Prelude.{ℕ, ◌+◌, ◌/◌, ◌%◌, Bool, true, false, not, ◌&&◌, ◌||◌, ◌==◌, nat_lt, if◌then◌else◌, Option, Some, None, unwrap_or, List, length, slice_index, ℤ, pos}
use Rattle.std.specs.Int.{w8, w32, cast_signed}
use Rattle.byteorder.specs.Endian.{little_number}
use Rattle.x86_map.specs.declared.shape.Write.{Write}
use Rattle.x86_map.specs.declared.shape.Write.TheVariants.{Nothing, Rm, Reg, Both, Opcode, Vvvv, RegAndVvvv}
use Rattle.x86_map.specs.Prefixes.{rex_r, rex_x, rex_b, vvvv_register}
use Rattle.x86_map.specs.Form.{modrm_mod, modrm_reg, modrm_rm}
use Rattle.x86_decode.specs.declared.fields.Fields.{Fields}

-- The SIB byte: scale in the two high bits, then index, then base.
abbrev pub sib_scale : ℕ → ℕ
sib_scale sib = sib / 64

abbrev pub sib_index : ℕ → ℕ
sib_index sib = sib / 8 % 8

abbrev pub sib_base : ℕ → ℕ
sib_base sib = sib % 8

-- A displacement or immediate of one or four bytes, with its sign. No operation reads one of another length.
abbrev pub signed : List ℕ → ℤ
signed bytes =
    if length bytes == 1 then cast_signed w8 (slice_index bytes 0)
    else (if length bytes == 4 then cast_signed w32 (little_number 4 bytes) else pos 0)

-- ---- fields of ModRM and SIB; an instruction that lacks the byte isn't asked

abbrev pub modrm : Fields → ℕ
modrm f = unwrap_or f.modrm 0

abbrev pub sib : Fields → ℕ
sib f = unwrap_or f.sib 0

-- mod 3: the operand E is a register
abbrev pub is_register : Fields → Bool
is_register f = modrm_mod (modrm f) == 3

-- the reg field as part of the opcode
abbrev pub digit : Fields → ℕ
digit f = modrm_reg (modrm f)

-- a register's number: three bits, and a bit of REX, VEX or EVEX above them
abbrev pub extended : Bool → ℕ → ℕ
extended bit field = if bit then field + 8 else field

abbrev pub reg_register : Fields → ℕ
reg_register f = extended (rex_r f.prefixes) (modrm_reg (modrm f))

abbrev pub rm_register : Fields → ℕ
rm_register f = extended (rex_b f.prefixes) (modrm_rm (modrm f))

abbrev pub opcode_register : Fields → ℕ
opcode_register f = extended (rex_b f.prefixes) (f.opcode % 8)

-- ---- addresses

-- none of 67, 64 and 65
abbrev pub is_plain_address : Fields → Bool
is_plain_address f = not f.prefixes.has_67 && not f.prefixes.has_fs_gs

-- memory at rsp plus a displacement: rm 4, and a SIB byte with base 4 and no index
abbrev pub is_at_rsp : Fields → Bool
is_at_rsp f =
    nat_lt (modrm_mod (modrm f)) 3 && (modrm_rm (modrm f) == 4) && (sib_base (sib f) == 4) && (sib_index (sib f) == 4)
    && not (rex_b f.prefixes) && not (rex_x f.prefixes) && is_plain_address f

-- memory at rbp plus a displacement: rm 5 with mod 1 or 2
abbrev pub is_at_rbp : Fields → Bool
is_at_rbp f =
    ((modrm_mod (modrm f) == 1) || (modrm_mod (modrm f) == 2)) && (modrm_rm (modrm f) == 5)
    && not (rex_b f.prefixes) && is_plain_address f

-- memory at a 32-bit address plus an index times 8: rm 4 with mod 0, and a SIB byte with base 5, scale 8 and an index
abbrev pub is_table_entry : Fields → Bool
is_table_entry f =
    (modrm_mod (modrm f) == 0) && (modrm_rm (modrm f) == 4) && (sib_base (sib f) == 5) && (sib_scale (sib f) == 3)
    && (not (sib_index (sib f) == 4) || rex_x f.prefixes) && is_plain_address f

-- ---- written registers

-- Whether the instruction writes the register of this number, 4 for rsp or 5 for rbp, beside what it does to the stack.
-- The byte registers 4 and 5 without a REX are AH and CH.
abbrev pub writes_number : Write → Fields → ℕ → Bool
writes_number Nothing f n = false
writes_number Rm f n = is_register f && (rm_register f == n)
writes_number Reg f n = reg_register f == n
writes_number Both f n = (reg_register f == n) || (is_register f && (rm_register f == n))
writes_number Opcode f n = opcode_register f == n
writes_number Vvvv f n = vvvv_register f.prefixes == n
writes_number RegAndVvvv f n = (reg_register f == n) || (vvvv_register f.prefixes == n)

abbrev pub is_none : Option ℕ → Bool
is_none None = true
is_none (Some rex) = false

abbrev pub writes : Fields → ℕ → Bool
writes f n = not (f.shape.written.byte && is_none f.prefixes.rex) && writes_number f.shape.written.write f n
