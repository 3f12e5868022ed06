-- The bytes of a relocation (ELF-64 gABI, `Elf64_Rela`).
use Rattle.std.specs.Prelude.{ℕ, ◌+◌, ◌*◌, ◌^◌, ◌<◌, List, ◌++◌, FitsSigned}
use Rattle.std.specs.Int.{cast_unsigned, w64}
use Rattle.byteorder.specs.Endian.{little_bytes}
use Rattle.elf_objects.specs.declared.symbol.Reloc.{Reloc}

-- 24 bytes, each field low byte first: r_offset, r_info with the symbol in its high half, r_addend
unfoldable pub bytes_of_reloc : Reloc → List ℕ
bytes_of_reloc reloc = little_bytes 8 reloc.offset ++ (little_bytes 8 (reloc.kind + reloc.sym * 2 ^ 32) ++ little_bytes 8 (cast_unsigned w64 reloc.addend))

-- what 24 bytes can hold
pub record IsReloc (reloc : Reloc) : Type 0 where
  pub offset : reloc.offset < 2 ^ 64
  pub kind : reloc.kind < 2 ^ 32
  pub sym : reloc.sym < 2 ^ 32
  pub addend : FitsSigned w64 reloc.addend
