use Rattle.std.proofs.Common.{◌<◌, ap, sym, ◌∙◌, arith}
use Rattle.elf_objects.specs.Contents.{is_text, section_entry}
use Rattle.elf_objects.specs.File.{section_count}
use Rattle.elf_objects.proofs.Read.{length-sections, section_at-entry}
use Rattle.elf_objects.proofs.object.Object.is_text.Goals as goal

pub is_text-requires : goal.is_text-requires
is_text-requires c = omega (arith, length-sections _ _ c.self.view_is)

pub returns : goal.returns
unfolding section_entry
returns c =
    let known : c.args.sec < section_count c.self.inside.symbols.headers.bytes.now = omega (arith, length-sections _ _ c.self.view_is) in
    let at = section_at-entry _ _ c.args.sec c.self.view_is known in
    c.is_text.ensures ∙ sym (ap is_text at)
