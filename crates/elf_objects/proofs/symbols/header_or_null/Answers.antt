use Rattle.elf_objects.proofs.symbols.header_or_null.Goals as goal

pub returns-in-Some-clause-inside : goal.returns-in-Some-clause-inside
returns-in-Some-clause-inside c =
    let placed = (c.requires.bodies c.in-Some.i (c.requires.known c.in-Some.i c.in-Some.is)).placed in
    rw (c.get.ensures) (placed.inside (c.requires.body c.in-Some.i c.in-Some.is))
