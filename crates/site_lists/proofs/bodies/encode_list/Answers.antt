use Rattle.std.proofs.Common.{◌∙◌}
use Rattle.elf_objects.specs.Contents.{section_symbol_of}
use Rattle.site_lists.proofs.Slots.{rela_more, slot_more}
use Rattle.site_lists.proofs.bodies.encode_list.Goals as goal

pub loop-place-preserved : goal.loop-place-preserved
loop-place-preserved c = record {
  body = slot_more _ _ _ _ c.loop-place-test.true c.loop-place.invariant.body c.in_ok-extend_from_slice-2.ensures.items;
  rela = rela_more (section_symbol_of c.args.object.now) _ _ _ _ _ _ _ _ _ c.loop-place-test.true c.loop-place.invariant.rela c.in_ok-extend_from_slice.ensures.items c.reloc_bytes.ensures c.slot_reloc-slot.ensures (c.len.ensures ∙ c.loop-place.body.ok.0) c.loop-place.invariant.body;
}
