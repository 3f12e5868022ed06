use Rattle.std.proofs.Common.{◌<◌, arith, refl}
use Rattle.elf_objects.specs.Contents.{symbol_entry}
use Rattle.elf_objects.specs.Table.{symbol_count}
use Rattle.elf_objects.proofs.Read.{length-strings, length-symbols, symbol_at-entry}
use Rattle.elf_objects.proofs.object.Object.name_of_symbol.Goals as goal

pub raw-requires : goal.raw-requires
raw-requires c = omega (arith, length-symbols _ _ c.self.view_is)

pub text_at-requires : goal.text_at-requires
text_at-requires c =
    let known : c.args.k < symbol_count c.self.inside.symbols.headers.bytes.now = omega (arith, length-symbols _ _ c.self.view_is) in
    let well = c.self.invariant.well_formed in
    let size = length-strings c.self.inside.symbols.headers.bytes.now c.args.k well known in
    let name = (well.symbols c.args.k known).name in
    rw (c.self.invariant.ends_are, c.raw.ensures) (omega (arith, size, name))

pub returns : goal.returns
unfolding symbol_entry
returns c =
    let known : c.args.k < symbol_count c.self.inside.symbols.headers.bytes.now = omega (arith, length-symbols _ _ c.self.view_is) in
    let at = symbol_at-entry _ _ c.args.k c.self.view_is known in
    rw (at, c.text_at.ensures, c.self.invariant.ends_are, c.raw.ensures) refl
