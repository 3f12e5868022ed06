use Rattle.std.proofs.Common.{◌<◌, arith, refl}
use Rattle.elf_objects.specs.Contents.{section_entry}
use Rattle.elf_objects.specs.File.{section_count}
use Rattle.elf_objects.specs.Table.{string_at}
use Rattle.elf_objects.proofs.Read.{length-names, length-sections, section_at-entry}
use Rattle.elf_objects.proofs.object.Object.section_name_on.Goals as goal

pub get-h-requires : goal.get-h-requires
get-h-requires c = omega (arith, length-sections _ _ c.self.view_is)

pub tail-requires : goal.tail-requires
tail-requires c =
    let known : c.args.i < section_count c.self.inside.symbols.headers.bytes.now = omega (arith, length-sections _ _ c.self.view_is) in
    let well = c.self.invariant.well_formed in
    let size = length-names c.self.inside.symbols.headers.bytes.now well in
    let name = well.names c.args.i known in
    rw (c.slice_body-names.ensures, c.self.invariant.names_is, c.get-h.ensures) (omega (arith, size, name))

pub returns : goal.returns
unfolding section_entry string_at
returns c =
    let known : c.args.i < section_count c.self.inside.symbols.headers.bytes.now = omega (arith, length-sections _ _ c.self.view_is) in
    let at = section_at-entry _ _ c.args.i c.self.view_is known in
    rw (at, c.tail.ensures, c.slice_body-names.ensures, c.self.invariant.names_is, c.get-h.ensures) refl
