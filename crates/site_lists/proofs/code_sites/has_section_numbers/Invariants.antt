use Rattle.std.proofs.Common.{◌≡◌, ◌<◌, ℕ, false}
use Rattle.std.specs.Prelude.{◌==◌}
use Rattle.elf_objects.specs.Contents.{section_at}
use Rattle.elf_objects.specs.declared.TheConstants.{SHT_SYMTAB_SHNDX}
use Rattle.site_lists.proofs.code_sites.has_section_numbers.Given as goal

abbrev pub invariant-loop-i : goal.invariant-loop-i
invariant-loop-i l = (k : ℕ) → k < l.i → ((section_at l.object k).kind == SHT_SYMTAB_SHNDX) ≡ false
