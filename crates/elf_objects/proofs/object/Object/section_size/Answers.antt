use Rattle.std.proofs.Common.{◌<◌, ap, sym, ◌∙◌, arith}
use Rattle.elf_objects.specs.Contents.{section_entry}
use Rattle.elf_objects.specs.Elf.{SectionEntry}
use Rattle.elf_objects.specs.File.{section_count}
use Rattle.elf_objects.proofs.Read.{length-sections, section_at-entry}
use Rattle.elf_objects.proofs.object.Object.section_size.Goals as goal

pub size-requires : goal.size-requires
size-requires c = omega (arith, length-sections _ _ c.self.view_is)

pub returns : goal.returns
unfolding section_entry
returns c =
    let known : c.args.i < section_count c.self.inside.symbols.headers.bytes.now = omega (arith, length-sections _ _ c.self.view_is) in
    let at = section_at-entry _ _ c.args.i c.self.view_is known in
    c.size.ensures ∙ sym (ap (λ (s : SectionEntry). s.size) at)
