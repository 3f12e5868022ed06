-- The symbols by which direct calls and branches name their targets.
use Rattle.std.specs.Prelude.{ℕ, negsuc, ◌==◌, ◌&&◌, ◌||◌, true, Bool, Option, Some, None, option_and_then, if◌then◌else◌}
use Rattle.std.specs.Ordering.{int_eq}
use Rattle.ot_base.specs.declared.place.Place.{Place}
use Rattle.operation_defs.specs.declared.insn.Insn.{Insn}
use Rattle.elf_objects.specs.declared.symbol.Reloc.{Reloc}
use Rattle.elf_objects.specs.declared.TheConstants.{STB_GLOBAL, STB_WEAK}
use Rattle.elf_objects.specs.Contents.{symbol_at}
use Rattle.elf_objects.specs.Elf.{Elf}
use Rattle.symbols_relocs.specs.declared.displacement.Displacement.{Displacement}
use Rattle.symbols_relocs.specs.Displacements.{displacement_of, field_of}
use Rattle.symbols_relocs.specs.NamedPlaces.{reloc_at}
use Rattle.symbols_relocs.specs.Targets.{is_branch_kind}

-- other objects know the symbol: it is GLOBAL or WEAK
abbrev pub is_shared : Elf → ℕ → Bool
is_shared o k = ((symbol_at o k).bind == STB_GLOBAL) || ((symbol_at o k).bind == STB_WEAK)

-- The relocation names the place of such a symbol itself: it has the type R_X86_64_PC32 or R_X86_64_PLT32, and the addend -4, as
-- the addend counts from the field, which ends 4 bytes behind, where the branch counts from.
abbrev pub named_symbol : Elf → Reloc → Option ℕ
named_symbol o r = if is_branch_kind r.kind && (int_eq r.addend (negsuc 3) && is_shared o r.sym) then Some r.sym else None

-- the symbol by which a branch with a displacement names its target: only one of 32 bits does
abbrev pub name_by : Elf → Place → ℕ → Displacement → Option ℕ
name_by o place len d = if d.wide then option_and_then (named_symbol o) (reloc_at o (field_of place len true)) else None

-- the symbol by which the instruction at a place names its target: a call, or a jump by a displacement of 32 bits
abbrev pub branch_name : Elf → Place → Insn → Option ℕ
branch_name o place insn = option_and_then (name_by o place insn.len) (displacement_of insn.op)
