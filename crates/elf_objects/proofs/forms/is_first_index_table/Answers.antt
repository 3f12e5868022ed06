use Rattle.elf_objects.specs.declared.TheConstants.{SHT_SYMTAB_SHNDX}
use Rattle.elf_objects.proofs.Found.{is_first-tells}
use Rattle.elf_objects.proofs.forms.is_first_index_table.Goals as goal

pub returns : goal.returns
returns c = is_first-tells c.args.headers.now.bytes.now SHT_SYMTAB_SHNDX c.args.i c.args.tables.indices c.is_none.result c.requires.indices c.is_none.ensures
