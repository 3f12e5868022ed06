use Rattle.std.proofs.Common.{◌<◌, arith, refl}
use Rattle.elf_objects.specs.Contents.{symbol_entry}
use Rattle.elf_objects.specs.Table.{string_at, symbol_count}
use Rattle.elf_objects.proofs.Read.{length-strings, length-symbols, strings-placed, symbol_at-entry}
use Rattle.elf_objects.proofs.object.Object.symbol_name_on.Goals as goal

pub raw-raw-requires : goal.raw-raw-requires
raw-raw-requires c = omega (arith, length-symbols _ _ c.self.view_is)

pub slice_body-strings-requires : goal.slice_body-strings-requires
slice_body-strings-requires c =
    let known : c.args.k < symbol_count c.self.inside.symbols.headers.bytes.now = omega (arith, length-symbols _ _ c.self.view_is) in
    let placed = strings-placed c.self.inside.symbols.headers.bytes.now c.args.k c.self.invariant.well_formed known in
    rw (c.self.invariant.strings_is) placed.inside

pub tail-requires : goal.tail-requires
tail-requires c =
    let known : c.args.k < symbol_count c.self.inside.symbols.headers.bytes.now = omega (arith, length-symbols _ _ c.self.view_is) in
    let well = c.self.invariant.well_formed in
    let size = length-strings c.self.inside.symbols.headers.bytes.now c.args.k well known in
    let name = (well.symbols c.args.k known).name in
    rw (c.slice_body-strings.ensures, c.self.invariant.strings_is, c.raw-raw.ensures) (omega (arith, size, name))

pub returns : goal.returns
unfolding symbol_entry string_at
returns c =
    let known : c.args.k < symbol_count c.self.inside.symbols.headers.bytes.now = omega (arith, length-symbols _ _ c.self.view_is) in
    let at = symbol_at-entry _ _ c.args.k c.self.view_is known in
    rw (at, c.tail.ensures, c.slice_body-strings.ensures, c.self.invariant.strings_is, c.raw-raw.ensures) refl
