use Rattle.std.proofs.Common.{◌<◌, arith, refl}
use Rattle.elf_objects.specs.Contents.{section_entry}
use Rattle.elf_objects.specs.File.{section_count}
use Rattle.elf_objects.proofs.Read.{body_short, IsSlice-entry, length-sections, section_at-entry}
use Rattle.elf_objects.proofs.object.Object.section.Goals as goal

pub get-h-requires : goal.get-h-requires
get-h-requires c = omega (arith, length-sections _ _ c.self.view_is)

pub slice_body-requires : goal.slice_body-requires
slice_body-requires c =
    let known : c.args.i < section_count c.self.inside.symbols.headers.bytes.now = omega (arith, length-sections _ _ c.self.view_is) in
    rw (c.get-h.ensures) (c.self.invariant.well_formed.bodies c.args.i known).placed.inside

pub returns-clause-value : goal.returns-clause-value
unfolding section_entry
returns-clause-value c =
    let known : c.args.i < section_count c.self.inside.symbols.headers.bytes.now = omega (arith, length-sections _ _ c.self.view_is) in
    let at = section_at-entry _ _ c.args.i c.self.view_is known in
    rw (at, c.slice_body.ensures, c.get-h.ensures) refl

pub returns-clause-slice : goal.returns-clause-slice
returns-clause-slice c =
    let known : c.args.i < section_count c.self.inside.symbols.headers.bytes.now = omega (arith, length-sections _ _ c.self.view_is) in
    IsSlice-entry _ _ c.args.i c.self.view_is known c.self.invariant.well_formed

pub returns-clause-short : goal.returns-clause-short
returns-clause-short c = rw c.slice_body.ensures (body_short c.self.inside.symbols.headers.bytes.now c.get-h.result c.self.inside.symbols.headers.short)
