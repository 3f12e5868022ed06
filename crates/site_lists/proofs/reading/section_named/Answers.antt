use Rattle.std.proofs.Common.{◌≡◌, ◌<◌, sym, length, arith}
use Rattle.orc_bytes.proofs.Named.{named_at, named_nowhere, relocs_for_each}
use Rattle.site_lists.proofs.reading.section_named.Goals as goal

pub returns-then-section_is_named : goal.returns-then-section_is_named
returns-then-section_is_named c =
    let inside : c.loop-i.i < length c.args.object.now.sections = omega arith in
    let each : length c.args.object.now.relocs ≡ length c.args.object.now.sections = relocs_for_each _ _ c.sections-i-end.ensures.object in
    record {
      value = sym (named_at c.args.object.now c.args.name.now c.loop-i.i inside (c.section_is_named.ensures.0 c.if-section_is_named.true) c.loop-i.invariant);
      known = inside;
      related = omega arith;
    }

pub returns-clause-value : goal.returns-clause-value
returns-clause-value c = sym (named_nowhere c.args.object.now c.args.name.now (λ k h. c.loop-i.invariant k (omega arith)))
