use Rattle.std.proofs.Common.{sym, ◌∙◌}
use Rattle.elf_objects.proofs.Found.{symtab-has_body, symtab_shndx-has_body}
use Rattle.elf_objects.proofs.LeastBelow.{least_below-some}
use Rattle.elf_objects.proofs.symbols.Symbols.new.Goals as goal

pub header_or_null-header-requires : goal.header_or_null-header-requires
header_or_null-header-requires c = record {
  known = λ i e. (least_below-some _ _ i (sym c.requires.found.symbols ∙ e)).below;
  body = λ i e. symtab-has_body _ i (least_below-some _ _ i (sym c.requires.found.symbols ∙ e)).passes;
  bodies = c.requires.bodies;
}

pub header_or_null-requires : goal.header_or_null-requires
header_or_null-requires c = record {
  known = λ i e. (least_below-some _ _ i (sym c.requires.found.indices ∙ e)).below;
  body = λ i e. symtab_shndx-has_body _ i (least_below-some _ _ i (sym c.requires.found.indices ∙ e)).passes;
  bodies = c.requires.bodies;
}
