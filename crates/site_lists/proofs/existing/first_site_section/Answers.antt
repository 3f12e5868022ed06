use Rattle.std.proofs.Common.{◌<◌, ◌∙◌, length, sym, arith}
use Rattle.elf_objects.specs.Elf.{Elf}
use Rattle.site_lists.proofs.NoSites.{all_other, first_site, no_site}
use Rattle.site_lists.proofs.existing.first_site_section.Goals as goal

pub returns-then-is_site_section-clause-first : goal.returns-then-is_site_section-clause-first
returns-then-is_site_section-clause-first c =
    let o : Elf = c.args.object.now in
    let inside : c.loop-sec.sec < length o.sections = omega (arith, c.sections-sec-end.ensures.value, c.loop-sec-test.true) in
    sym (first_site o c.loop-sec.sec inside (sym c.is_site_section.ensures ∙ c.if-is_site_section.true) c.loop-sec.invariant)

pub returns-clause-first : goal.returns-clause-first
returns-clause-first c = sym (no_site c.args.object.now (λ k inside. c.loop-sec.invariant k (omega (arith, inside, c.sections-sec-end.ensures.value, c.loop-sec-test.false))))

pub returns-clause-none : goal.returns-clause-none
returns-clause-none c = all_other c.args.object.now (λ k inside. c.loop-sec.invariant k (omega (arith, inside, c.sections-sec-end.ensures.value, c.loop-sec-test.false)))
