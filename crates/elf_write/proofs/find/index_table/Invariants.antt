use Rattle.std.proofs.Common.{◌≡◌, ℕ, ◌<◌, false}
use Rattle.std.specs.Prelude.{◌==◌}
use Rattle.elf_objects.specs.Contents.{section_at}
use Rattle.elf_objects.specs.declared.TheConstants.{SHT_SYMTAB_SHNDX}
use Rattle.elf_write.proofs.find.index_table.Given as goal

abbrev pub invariant-loop-i : goal.invariant-loop-i
invariant-loop-i l = (j : ℕ) → j < l.i → ((section_at l.object j).kind == SHT_SYMTAB_SHNDX) ≡ false
