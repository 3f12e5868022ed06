use Rattle.std.proofs.Common.{arith}
use Rattle.elf_objects.specs.Contents.{section_symbol_of}
use Rattle.orc_bytes.proofs.SlotLemmas.{rela_more}
use Rattle.orc_bytes.proofs.bodies.rela_body.Goals as goal

pub loop-placed-preserved : goal.loop-placed-preserved
loop-placed-preserved c = record {
  body = rela_more (section_symbol_of c.args.object.now) _ _ _ _ _ _ _ _ c.loop-placed-test.true c.loop-placed.invariant.body c.in_ok-extend_from_slice.ensures.items c.reloc_bytes.ensures c.slot_of.ensures c.loop-placed.invariant.offset;
  offset = omega (arith, c.loop-placed.invariant.offset);
}
