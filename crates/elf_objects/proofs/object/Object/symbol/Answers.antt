use Rattle.std.proofs.Common.{◌<◌, arith, refl}
use Rattle.elf_objects.specs.Contents.{symbol_entry}
use Rattle.elf_objects.specs.Table.{symbol_count}
use Rattle.elf_objects.proofs.Read.{length-symbols, symbol_at-entry}
use Rattle.elf_objects.proofs.object.Object.symbol.Goals as goal

pub raw-raw-requires : goal.raw-raw-requires
raw-raw-requires c = omega (arith, length-symbols _ _ c.self.view_is)

pub find_home-requires-clause-known : goal.find_home-requires-clause-known
find_home-requires-clause-known c = omega (arith, length-symbols _ _ c.self.view_is)

pub unreachable-requires : goal.unreachable-requires
unreachable-requires c = c.in_default.ensures.none (c.self.invariant.well_formed.symbols c.args.k (omega (arith, length-symbols _ _ c.self.view_is))).home

pub returns : goal.returns
unfolding symbol_entry
returns c =
    let known : c.args.k < symbol_count c.self.inside.symbols.headers.bytes.now = omega (arith, length-symbols _ _ c.self.view_is) in
    let at = symbol_at-entry _ _ c.args.k c.self.view_is known in
    rw (at, c.in-Some.ensures.some.1, c.raw-raw.ensures) refl
