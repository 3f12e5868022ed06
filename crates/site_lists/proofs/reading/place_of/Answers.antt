use Rattle.std.proofs.Common.{rules, ℕ, ◌<◌, ◌≤◌, ap, subst, sym, ◌∙◌, w64, FitsSigned}
use Rattle.std.proofs.Math.Facts.{to_z-of_z}
use Rattle.std.proofs.lemmas.Bool.{false≢true}
use Rattle.elf_objects.specs.Elf.{SectionEntry}
use Rattle.site_lists.specs.Faults.{symbol, range, not_zero}
use Rattle.site_lists.proofs.reading.place_of.Goals as goal

pub returns-in_default-clause-err : goal.returns-in_default-clause-err
returns-in_default-clause-err c = symbol c.in_ok-reloc.reloc c.in_ok-reloc.ensures.ok c.in_default.ensures.none

pub returns-in_default-offset_in-clause-err : goal.returns-in_default-offset_in-clause-err
returns-in_default-offset_in-clause-err c =
    let fits : FitsSigned w64 c.in_ok-reloc.reloc.addend = search rules in
    range c.in_ok-reloc.reloc c.in-Some.sec _ c.in_ok-reloc.ensures.ok c.in-Some.ensures.some
    (λ off e. subst (λ (size : ℕ). size < off) (ap (λ (s : SectionEntry). s.size) c.section.ensures.value) (c.in_default-offset_in.ensures.none off (to_z-of_z fits ∙ e)))

pub returns-then-not-is_zero_at-clause-err : goal.returns-then-not-is_zero_at-clause-err
returns-then-not-is_zero_at-clause-err c =
    let fits : FitsSigned w64 c.in_ok-reloc.reloc.addend = search rules in
    not_zero c.in_ok-reloc.reloc (record { sec = c.in-Some.sec; off = c.in-Some-offset_in.off }) c.in_ok-reloc.ensures.ok
    (record {
      section = _;
      symbol = c.in-Some.ensures.some;
      addend = sym (to_z-of_z fits) ∙ c.in-Some-offset_in.ensures.some.0;
      inside = subst (λ (size : ℕ). c.in-Some-offset_in.off ≤ size) (ap (λ (s : SectionEntry). s.size) c.section.ensures.value) c.in-Some-offset_in.ensures.some.1;
    })
    (λ zero. false≢true (sym c.if-not-is_zero_at.true ∙ c.is_zero_at.ensures.1 zero))
