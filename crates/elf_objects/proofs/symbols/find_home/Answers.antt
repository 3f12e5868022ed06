use Rattle.std.proofs.Common.{◌≡◌, Some, sym, ◌∙◌}
use Rattle.elf_objects.specs.Table.{index_table}
use Rattle.elf_objects.proofs.Linked.{indices-count}
use Rattle.elf_objects.proofs.symbols.find_home.Goals as goal

pub index_entry-entry-requires : goal.index_entry-entry-requires
index_entry-entry-requires c =
    let b = c.args.symbols.now.headers.bytes.now in
    let table : index_table b ≡ Some c.in_ok-symbols-in-65535.field-0 = sym c.args.symbols.now.indices_is ∙ c.in_ok-symbols-in-65535.was in
    let count = indices-count b c.in_ok-symbols-in-65535.field-0 c.requires.links table in
    rw (c.args.symbols.now.index_header_is, table, count) c.requires.known
