use Rattle.std.proofs.Common.{refl, arith}
use Rattle.elf_objects.proofs.Linked.{strings-exist}
use Rattle.elf_objects.proofs.symbols.Symbols.strings.Goals as goal

pub get-requires : goal.get-requires
get-requires c =
    let names = c.args.self.now.headers.table.counts.names in
    rw (c.args.self.now.header_is) (strings-exist _ _ (omega (arith, names)) c.requires refl)
