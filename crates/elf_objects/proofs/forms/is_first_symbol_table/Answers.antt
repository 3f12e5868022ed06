use Rattle.elf_objects.specs.declared.TheConstants.{SHT_SYMTAB}
use Rattle.elf_objects.proofs.Found.{is_first-tells}
use Rattle.elf_objects.proofs.forms.is_first_symbol_table.Goals as goal

pub returns : goal.returns
returns c = is_first-tells c.args.headers.now.bytes.now SHT_SYMTAB c.args.i c.args.tables.symbols c.is_none.result c.requires.symbols c.is_none.ensures
