use Rattle.std.proofs.Common.{arith}
use Rattle.elf_objects.proofs.Read.{length-sections}
use Rattle.elf_objects.proofs.object.Object.name_table.Goals as goal

pub returns-clause-known : goal.returns-clause-known
returns-clause-known c =
    let names = c.self.inside.symbols.headers.table.counts.names in
    omega (arith, length-sections _ _ c.self.view_is, names, c.self.inside.symbols.headers.names_is)
