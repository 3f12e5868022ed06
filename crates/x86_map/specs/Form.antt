-- What the forms of the opcode map mean.
use Rattle.std.specs.Prelude.{ℕ, ◌/◌, ◌%◌, Bool, true, false, not, ◌&&◌, ◌==◌, nat_le, nat_lt, if◌then◌else◌, Option, Some, None}
use Rattle.x86_map.specs.declared.prefixes.Prefixes.{Prefixes}
use Rattle.x86_map.specs.declared.shape.Shape.{Shape}
use Rattle.x86_map.specs.declared.shape.Look.{Look}
use Rattle.x86_map.specs.declared.shape.Look.TheVariants.{Refused, NeedModrm, Fits}
use Rattle.x86_map.specs.declared.form.Mode.{Mode}
use Rattle.x86_map.specs.declared.form.Mode.TheVariants.{Either, Memory, Register}
use Rattle.x86_map.specs.declared.form.Operand.{Operand}
use Rattle.x86_map.specs.declared.form.Operand.TheVariants.{NoModrm, Digits, Bytes}
use Rattle.x86_map.specs.declared.form.Immediate.{Immediate}
use Rattle.x86_map.specs.declared.form.Immediate.TheVariants.{NoImmediate, Ib, Iw, IwIb, Iz, Iv, Moffs}
use Rattle.x86_map.specs.declared.form.PrefixUse.{PrefixUse}
use Rattle.x86_map.specs.declared.form.PrefixUse.TheVariants.{Allowed, Required, Forbidden}
use Rattle.x86_map.specs.declared.form.PrefixUses.{PrefixUses}
use Rattle.x86_map.specs.declared.form.Form.{Form}
use Rattle.x86_map.specs.Prefixes.{rex_w, rex_b, under_66, under_F3, under_F2}

-- The ModRM byte: mod in the two high bits, then reg, then rm (SDM, volume 2, section 2.1.3).
abbrev pub modrm_mod : ℕ → ℕ
modrm_mod modrm = modrm / 64

abbrev pub modrm_reg : ℕ → ℕ
modrm_reg modrm = modrm / 8 % 8

abbrev pub modrm_rm : ℕ → ℕ
modrm_rm modrm = modrm % 8

-- a prefix that may stand, must or must not
abbrev pub allows : PrefixUse → Bool → Bool
allows Allowed present = true
allows Required present = present
allows Forbidden present = not present

abbrev pub accepts : PrefixUses → Prefixes → Bool
accepts uses p =
    allows uses.of_66 (under_66 p) && allows uses.of_67 p.has_67 && allows uses.of_f3 (under_F3 p)
    && allows uses.of_f2 (under_F2 p) && allows uses.of_rex_b (rex_b p)

-- mod 3 is a register, the others are memory
abbrev pub is_in_mode : Mode → ℕ → Bool
is_in_mode Either field = true
is_in_mode Memory field = nat_lt field 3
is_in_mode Register field = field == 3

-- the number is the first, the last or one between
abbrev pub is_from_to : ℕ → ℕ → ℕ → Bool
is_from_to first last n = nat_le first n && nat_le n last

-- whether the operand takes this ModRM byte
abbrev pub takes : Operand → ℕ → Bool
takes NoModrm modrm = false
takes (Digits mode first last) modrm = is_in_mode mode (modrm_mod modrm) && is_from_to first last (modrm_reg modrm)
takes (Bytes first last) modrm = is_from_to first last modrm

abbrev pub has_modrm : Operand → Bool
has_modrm NoModrm = false
has_modrm (Digits mode first last) = true
has_modrm (Bytes first last) = true

-- how many bytes the immediate has
abbrev pub imm_len : Immediate → Prefixes → ℕ
imm_len NoImmediate p = 0
imm_len Ib p = 1
imm_len Iw p = 2
imm_len IwIb p = 3
imm_len Iz p = if under_66 p && not (rex_w p) then 2 else 4
imm_len Iv p = if rex_w p then 8 else (if under_66 p then 2 else 4)
imm_len Moffs p = 8

abbrev pub shape_of : Form → Prefixes → Shape
shape_of form p = record {
  modrm = has_modrm form.operand;
  imm = imm_len form.immediate p;
  written = form.written;
}

-- what an operand says of a ModRM byte or of none
abbrev pub look_operand : Operand → Option ℕ → Shape → Look
look_operand operand None shape = if has_modrm operand then NeedModrm else Fits shape
look_operand operand (Some modrm) shape = if takes operand modrm then Fits shape else Refused

-- what a form says of prefixes, and of a ModRM byte or of none
unfoldable pub look_form : Form → Prefixes → Option ℕ → Look
look_form form p modrm =
    if accepts form.prefixes p then look_operand form.operand modrm (shape_of form p) else Refused
