use Rattle.std.proofs.Common.{◌≡◌, ℕ, ℤ, pos, Option, sym, ◌∙◌, ap, w64, to_z}
use Rattle.std.specs.Prelude.{unwrap_or}
use Rattle.std.proofs.lemmas.Int.{to_z_pos}
use Rattle.elf_objects.specs.Contents.{section_symbol_of}
use Rattle.site_lists.specs.Sections.{slot_reloc}
use Rattle.site_lists.proofs.bodies.slot_reloc.Goals as goal

pub returns : goal.returns
returns c =
    let found = c.section_symbol.ensures in
    let unwrapped = c.unwrap.ensures in
    let symbol : c.unwrap.result ≡ unwrap_or (section_symbol_of c.args.object.now c.args.place.sec) 0 = sym (ap (λ (o : Option ℕ). unwrap_or o 0) (sym found ∙ unwrapped)) in
    let addend : to_z w64 c.args.place.off ≡ pos c.args.place.off = to_z_pos w64 c.args.place.off c.requires.addend in
    ap (λ (n : ℕ). record { offset = c.args.offset; kind = 2; sym = n; addend = to_z w64 c.args.place.off }) symbol
    ∙ ap (λ (z : ℤ). record (slot_reloc (section_symbol_of c.args.object.now) c.args.offset c.args.place) { addend = z }) addend
