use Rattle.std.proofs.Common.{◌<◌, ◌∙◌, length, sym, arith}
use Rattle.elf_objects.specs.Elf.{Elf}
use Rattle.object_check.proofs.OrcSections.{first_orc, no_orc}
use Rattle.object_check.proofs.room.first_orc_section.Goals as goal

pub returns-then-is_orc_section : goal.returns-then-is_orc_section
returns-then-is_orc_section c =
    let o : Elf = c.args.object.now in
    let inside : c.loop-sec.sec < length o.sections = omega (arith, c.sections-sec-end.ensures.value, c.loop-sec-test.true) in
    sym (first_orc o c.loop-sec.sec inside (sym c.is_orc_section.ensures ∙ c.if-is_orc_section.true) c.loop-sec.invariant)

pub returns : goal.returns
returns c = sym (no_orc c.args.object.now (λ k inside. c.loop-sec.invariant k (omega (arith, inside, c.sections-sec-end.ensures.value, c.loop-sec-test.false))))
