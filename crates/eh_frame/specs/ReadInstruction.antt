-- One instruction read from the left: it and how many bytes it takes, where it is one of the profile.
use Rattle.std.specs.Prelude.{ℕ, ℤ, ◌+◌, ◌-◌, ◌^◌, ◌==◌, ◌&&◌, nat_lt, nat_le, Bool, true, false, if◌then◌else◌, List, [], ◌∷◌, length, take, Option, Some, None}
use Rattle.byteorder.specs.Endian.{little_number}
use Rattle.eh_frame.specs.declared.groups.Number.{Number}
use Rattle.eh_frame.specs.declared.rule.CfaReg.{CfaReg}
use Rattle.eh_frame.specs.declared.rule.CfaReg.TheVariants.{Rsp, Rbp}
use Rattle.eh_frame.specs.declared.instruction.Read.{Read}
use Rattle.eh_frame.specs.declared.instruction.Instruction.{Instruction}
use Rattle.eh_frame.specs.declared.instruction.Instruction.TheVariants.{Nop, AdvanceLoc, DefCfa, SavedReturn, UndefinedReturn, SavedRbp, SameRbp}
use Rattle.eh_frame.specs.ReadGroups.{read_number}
use Rattle.eh_frame.specs.Spelling.{offset}

abbrev pub read_pair : List ℕ → ℕ → Instruction → Option Read
read_pair [] operand i = None
read_pair (byte ∷ bytes) operand i = if byte == operand then Some (record { instruction = i; len = 2 }) else None

abbrev pub read_advance : List ℕ → ℕ → Option Read
read_advance rest width = if nat_lt (length rest) width then None else Some (record { instruction = AdvanceLoc (little_number width rest); len = 1 + width })

abbrev pub register_of : ℕ → Option CfaReg
register_of number = if number == 6 then Some Rbp else (if number == 7 then Some Rsp else None)

abbrev pub def_cfa_by : CfaReg → Option Number → Option Read
def_cfa_by reg None = None
def_cfa_by reg (Some n) = if nat_lt n.bits (2 ^ 32) then Some (record { instruction = DefCfa reg (offset false n.bits); len = 2 + n.len }) else None

abbrev pub def_cfa_in : Option CfaReg → List ℕ → Option Read
def_cfa_in None operand = None
def_cfa_in (Some reg) operand = def_cfa_by reg (read_number operand 128)

abbrev pub read_def_cfa : List ℕ → Option Read
read_def_cfa [] = None
read_def_cfa (register ∷ operand) = def_cfa_in (register_of register) operand

abbrev pub signed_offset : Number → ℤ
signed_offset n = if n.turned then offset false (n.bits + 1) else offset true n.bits

abbrev pub def_cfa_sf_by : CfaReg → Option Number → Option Read
def_cfa_sf_by reg None = None
def_cfa_sf_by reg (Some n) = if nat_lt n.bits (2 ^ 31) then Some (record { instruction = DefCfa reg (signed_offset n); len = 2 + n.len }) else None

abbrev pub def_cfa_sf_in : Option CfaReg → List ℕ → Option Read
def_cfa_sf_in None operand = None
def_cfa_sf_in (Some reg) operand = def_cfa_sf_by reg (read_number operand 64)

abbrev pub read_def_cfa_sf : List ℕ → Option Read
read_def_cfa_sf [] = None
read_def_cfa_sf (register ∷ operand) = def_cfa_sf_in (register_of register) operand

abbrev pub saved_rbp_by : Option Number → Option Read
saved_rbp_by None = None
saved_rbp_by (Some n) = if nat_lt n.bits (2 ^ 32) then Some (record { instruction = SavedRbp (offset true n.bits); len = 1 + n.len }) else None

abbrev pub read_saved_rbp : List ℕ → Option Read
read_saved_rbp rest = saved_rbp_by (read_number rest 128)

-- behind its code
abbrev pub read_operands : ℕ → List ℕ → Option Read
read_operands code rest =
    if code == 0x00 then Some (record { instruction = Nop; len = 1 })
    else (if nat_le 0x41 code && nat_le code 0x7F then Some (record { instruction = AdvanceLoc (code - 64); len = 1 })
    else (if code == 0x02 then read_advance rest 1
    else (if code == 0x03 then read_advance rest 2
    else (if code == 0x04 then read_advance rest 4
    else (if code == 0x0C then read_def_cfa rest
    else (if code == 0x12 then read_def_cfa_sf rest
    else (if code == 0x90 then read_pair rest 0x08 SavedReturn
    else (if code == 0x07 then read_pair rest 0x10 UndefinedReturn
    else (if code == 0x08 then read_pair rest 0x06 SameRbp
    else (if code == 0x86 then read_saved_rbp rest
    else None))))))))))

unfoldable pub read_instruction : List ℕ → Option Read
read_instruction [] = None
read_instruction (code ∷ rest) = read_operands code rest
