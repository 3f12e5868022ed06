use Rattle.std.proofs.Common.{◌≡◌, true, false, sym, ap, ◌∙◌}
use Rattle.std.specs.Prelude.{not}
use Rattle.elf_objects.specs.Elf.{SectionEntry}
use Rattle.command_base.specs.Unwind.{is_text_section}
use Rattle.command_base.proofs.UnwindLemmas.{find_none_more, foreign_first, pushed, range_is, ranges_more}
use Rattle.command_base.proofs.unwinding.ranges_of.Goals as goal

pub returns-then-not-is_text_section-clause-foreign : goal.returns-then-not-is_text_section-clause-foreign
returns-then-not-is_text_section-clause-foreign c =
    foreign_first c.args.object.now c.args.places.now c.loop-place.place-index _ c.loop-place-test.true c.loop-place.invariant.texts (sym c.is_text_section.ensures ∙ c.if-not-is_text_section.true)

pub loop-place-preserved : goal.loop-place-preserved
loop-place-preserved c = record {
  ranges = ranges_more c.args.object.now c.args.places.now c.loop-place.place-index _ c.loop-place.ranges.items _ c.loop-place-test.true c.loop-place.invariant.ranges
      (range_is c.args.object.now _ c.section-size.result.size _ _ (ap (λ (s : SectionEntry). s.size) c.section-size.ensures.value) (pushed c.push.result _ _ _ (sym c.is_err.ensures.value ∙ c.if-is_err.false) c.push.ensures.items));
  texts = find_none_more (λ place. not (is_text_section c.args.object.now place.0)) c.args.places.now c.loop-place.place-index _ c.loop-place-test.true c.loop-place.invariant.texts (ap not (sym c.is_text_section.ensures ∙ c.if-not-is_text_section.false));
}
