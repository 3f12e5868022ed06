use Rattle.std.proofs.Common.{refl, arith}
use Rattle.demo_objects.specs.CanMake.{IsNewReloc}
use Rattle.demo_objects.proofs.Items.{all-next, all-whole}
use Rattle.demo_objects.proofs.parts.are_relocs.Goals as goal

pub loop-rel-preserved : goal.loop-rel-preserved
loop-rel-preserved c =
    all-next (IsNewReloc c.args.count) c.args.relocs.now c.loop-rel.rel-index _ (omega arith) c.loop-rel.invariant (c.is_reloc.ensures.0 (let passes = c.if-not-is_reloc.false in grind arith))

pub returns : goal.returns
returns c = (λ _. all-whole (IsNewReloc c.args.count) c.args.relocs.now c.loop-rel.rel-index (omega arith) c.loop-rel.invariant, λ _. refl)
