use Rattle.std.proofs.Common.{◌≡◌, ℕ, ◌<◌, ◌∙◌, false, length, sym, arith}
use Rattle.elf_objects.specs.Contents.{section_at}
use Rattle.elf_objects.specs.Elf.{Elf}
use Rattle.eh_frame.specs.FrameOutput.{is_frame_name}
use Rattle.eh_frame.proofs.NoFrames.{all_other, first_is, none_is}
use Rattle.eh_frame.proofs.existing.first_frame_section.Goals as goal

pub returns-then-is_frame_section-clause-first : goal.returns-then-is_frame_section-clause-first
returns-then-is_frame_section-clause-first c =
    let o : Elf = c.args.object.now in
    let inside : c.loop-sec.sec < length o.sections = omega (arith, c.sections-sec-end.ensures.value, c.loop-sec-test.true) in
    sym (first_is o c.loop-sec.sec inside (sym c.is_frame_section.ensures ∙ c.if-is_frame_section.true) c.loop-sec.invariant)

pub returns-clause-first : goal.returns-clause-first
returns-clause-first c = sym (none_is c.args.object.now (λ k inside. c.loop-sec.invariant k (omega (arith, inside, c.sections-sec-end.ensures.value, c.loop-sec-test.false))))

pub returns-clause-none : goal.returns-clause-none
returns-clause-none c = all_other c.args.object.now (λ k inside. c.loop-sec.invariant k (omega (arith, inside, c.sections-sec-end.ensures.value, c.loop-sec-test.false)))
