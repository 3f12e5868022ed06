use Rattle.std.proofs.Common.{length, ap, arith}
use Rattle.elf_objects.specs.Elf.{SectionEntry}
use Rattle.flow_defs.specs.Coded.{Coded, coded_by}
use Rattle.object_points.proofs.TextsLemmas.{body_size, text_small}
use Rattle.object_points.proofs.texts.read_text.Goals as goal

pub read-requires : goal.read-requires
read-requires c =
    let o : Coded = coded_by c.args.map c.args.object.now in
    let own = body_size o.elf.bytes _ c.requires.text c.section.ensures.slice in
    let small = text_small o.elf.bytes o c.args.sec c.requires.object c.requires.inside c.requires.text in
    omega (arith, own.0, small, ap (λ (s : SectionEntry). length s.body) c.section.ensures.value)
