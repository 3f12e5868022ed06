use Rattle.std.proofs.Common.{sym, refl, below_more, arith}
use Rattle.elf_objects.specs.declared.TheConstants.{SHT_SYMTAB, SHT_SYMTAB_SHNDX}
use Rattle.elf_objects.specs.Table.{is_kind}
use Rattle.elf_objects.proofs.LeastBelow.{least_below-zero}
use Rattle.elf_objects.proofs.forms.check_forms.Goals as goal

pub loop-i-init : goal.loop-i-init
loop-i-init c = record {
  forms = λ k h. absurd (omega arith);
  tables = record {
    symbols = sym (least_below-zero (is_kind c.args.headers.now.bytes.now SHT_SYMTAB));
    indices = sym (least_below-zero (is_kind c.args.headers.now.bytes.now SHT_SYMTAB_SHNDX));
  };
}

pub loop-i-preserved : goal.loop-i-preserved
loop-i-preserved c = record {
  forms = below_more _ _ c.loop-i.invariant.forms (c.if-not-has_form.ensures.0 refl);
  tables = c.with_section-tables.ensures;
}
