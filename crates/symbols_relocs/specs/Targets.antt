-- The targets of direct calls and branches (Intel SDM volume 2, CALL, JMP, Jcc; x86-64 psABI, "Relocation").
use Rattle.std.specs.Prelude.{ℕ, ℤ, pos, ◌+ℤ◌, ◌+◌, ◌-◌, ◌==◌, ◌||◌, not, Bool, List, Option, Some, None, is_some, length, take, bytes_eq, codes, if◌then◌else◌}
use Rattle.ot_base.specs.declared.place.Place.{Place}
use Rattle.operation_defs.specs.declared.insn.Insn.{Insn}
use Rattle.operation_defs.specs.declared.op.Op.{Op}
use Rattle.operation_defs.specs.declared.op.Op.TheVariants.{Call, Jmp, Jcc}
use Rattle.elf_objects.specs.declared.symbol.Home.{Home}
use Rattle.elf_objects.specs.declared.symbol.Home.TheVariants as homes
use Rattle.elf_objects.specs.declared.symbol.Reloc.{Reloc}
use Rattle.elf_objects.specs.Elf.{Elf}
use Rattle.elf_objects.specs.Contents.{symbol_at}
use Rattle.elf_objects.specs.declared.TheConstants.{STB_WEAK, R_X86_64_PC32, R_X86_64_PLT32}
use Rattle.symbols_relocs.specs.NamedPlaces.{offset_of, reloc_at}
use Rattle.symbols_relocs.specs.declared.target.Target.{Target}
use Rattle.symbols_relocs.specs.declared.target.Target.TheVariants.{Inside, Either, Outside, ThunkIndirect, ThunkReturn, Bad}
use Rattle.symbols_relocs.specs.Places.{is_in_text}

abbrev pub thunk_prefix : List ℕ
thunk_prefix = codes "__x86_indirect_thunk_"

abbrev pub return_thunk : List ℕ
return_thunk = codes "__x86_return_thunk"

-- a relocation of a branch has the type R_X86_64_PC32 or R_X86_64_PLT32
abbrev pub is_branch_kind : ℕ → Bool
is_branch_kind kind = (kind == R_X86_64_PC32) || (kind == R_X86_64_PLT32)

abbrev pub is_indirect_thunk : List ℕ → Bool
is_indirect_thunk name = bytes_eq (take (length thunk_prefix) name) thunk_prefix

-- the place at an offset of a section, where it is in a text section, below its size
abbrev pub inside : Elf → ℕ → Option ℕ → Target
inside o sec None = Bad
inside o sec (Some off) = let place : Place = record { sec = sec; off = off } in if is_in_text o place then Inside place else Bad

-- the same of a WEAK symbol: there, or at another definition of the symbol
abbrev pub either : Elf → ℕ → ℕ → Option ℕ → Target
either o sym sec None = Bad
either o sym sec (Some off) = let place : Place = record { sec = sec; off = off } in if is_in_text o place then Either place sym else Bad

-- the target at the symbol of a relocation, by where the symbol is defined. The addend counts from the field, which ends 4
-- bytes behind, where the branch counts from.
abbrev pub symbol_target : Elf → Reloc → Home → Target
symbol_target o r homes.Undefined = Outside r.sym
symbol_target o r (homes.Section i) =
    let off = offset_of (pos (symbol_at o r.sym).value +ℤ r.addend +ℤ pos 4) in
    if (symbol_at o r.sym).bind == STB_WEAK then either o r.sym i off else inside o i off
symbol_target o r homes.Absolute = Bad
symbol_target o r homes.Common = Bad

-- the target that a relocation on the displacement names: the first of these that fits
abbrev pub reloc_target : Elf → Reloc → Target
reloc_target o r =
    let s = symbol_at o r.sym in
    if not (is_branch_kind r.kind) then Bad
    else if is_indirect_thunk s.name then ThunkIndirect
    else if bytes_eq s.name return_thunk then ThunkReturn
    else symbol_target o r s.home

-- the target without a relocation: in the same section, so far from the instruction's end
abbrev pub relative_target : Elf → Place → ℕ → ℤ → Target
relative_target o place len rel = inside o place.sec (offset_of (pos (place.off + len) +ℤ rel))

-- the last bytes of the instruction at a place
abbrev pub last_bytes : Place → ℕ → ℕ → Place
last_bytes place len bytes = record { sec = place.sec; off = place.off + len - bytes }

abbrev pub wide_target_by : Elf → Place → ℕ → ℤ → Option Reloc → Target
wide_target_by o place len rel (Some r) = reloc_target o r
wide_target_by o place len rel None = relative_target o place len rel

-- of a branch whose displacement has 32 bits
abbrev pub wide_target : Elf → Place → ℕ → ℤ → Target
wide_target o place len rel = wide_target_by o place len rel (reloc_at o (last_bytes place len 4))

-- of one whose displacement has 8 bits: no relocation may stand there
abbrev pub short_target : Elf → Place → ℕ → ℤ → Target
short_target o place len rel =
    if is_some (reloc_at o (last_bytes place len 1)) then Bad else relative_target o place len rel

abbrev pub jump_target : Elf → Place → ℕ → ℤ → Bool → Target
jump_target o place len rel wide = if wide then wide_target o place len rel else short_target o place len rel

-- the target of an instruction by what it does; Bad of one that is no direct call or branch
abbrev pub target_by : Elf → Place → ℕ → Op → Target
target_by o place len (Call rel) = wide_target o place len rel
target_by o place len (Jmp rel wide) = jump_target o place len rel wide
target_by o place len (Jcc rel wide) = jump_target o place len rel wide
target_by o place len _ = Bad

-- the target of the instruction at a place
abbrev pub branch_target : Elf → Place → Insn → Target
branch_target o place insn = target_by o place insn.len insn.op
