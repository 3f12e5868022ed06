use Rattle.std.proofs.Common.{◌≡◌, ◌+◌, ◌*◌, List, [], drop, length, ap, sym, ◌∙◌, arith}
use Rattle.std.proofs.lemmas.Bool.Decides.{nat_tests}
use Rattle.std.proofs.lemmas.List.{drop_all, length-map}
use Rattle.elf_write.specs.declared.section.NewSection.{NewSection}
use Rattle.elf_write.specs.New.{entries, entry_of}
use Rattle.demo_objects.specs.Layout.{bodies_end, file_of, headers_place, next_multiple}
use Rattle.demo_objects.proofs.Sizes.{item-aligned, le-next_multiple, length-file_of, step_within}
use Rattle.demo_objects.proofs.parts.file_fits.Goals as goal

pub next_multiple-requires-clause-some : goal.next_multiple-requires-clause-some
next_multiple-requires-clause-some c =
    item-aligned c.args.sections.now c.loop-section.section-index c.section-item.result c.section-item.is (omega arith) c.requires

pub returns-then-end-ge-LIMIT : goal.returns-then-end-ge-LIMIT
returns-then-end-ge-LIMIT c = (
  λ h. absurd cc,
  λ short. (
      let es = entries c.args.sections.now in
      let w = step_within c.loop-section.end c.args.sections.now c.loop-section.section-index c.section-item.result c.section-item.is (omega arith) c.requires in
      let l = length-file_of es c.requires in
      let m = le-next_multiple 8 (bodies_end 64 es) (omega arith) in
      let r = c.loop-section.invariant.rest in
      let n = c.next_multiple.ensures in
      let t = c.if-end-ge-LIMIT.true in
      absurd (omega arith)),
)

pub returns : goal.returns
returns c =
    let es = entries c.args.sections.now in
    let none : drop c.loop-section.section-index c.args.sections.now ≡ [] = drop_all c.loop-section.section-index c.args.sections.now (omega arith) in
    let end : c.loop-section.end ≡ bodies_end 64 es = sym (ap (λ (xs : List NewSection). bodies_end c.loop-section.end (entries xs)) none) ∙ c.loop-section.invariant.rest in
    let at : c.next_multiple-2.result ≡ headers_place es = c.next_multiple-2.ensures ∙ ap (next_multiple 8) end in
    let l = length-file_of es c.requires in
    let n = length-map c.args.sections.now entry_of in
    let same : c.next_multiple-2.result + 64 * (length c.args.sections.now + 1) ≡ length (file_of es) = omega arith in
    (λ h. grind (arith, nat_tests), λ h. grind (arith, nat_tests))
