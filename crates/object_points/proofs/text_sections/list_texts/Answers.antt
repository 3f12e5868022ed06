use Rattle.std.proofs.Common.{◌≡◌, ◌++◌, ◌∷◌, [], ℕ, List, length, sym, ap, ◌∙◌, arith}
use Rattle.std.specs.Prelude.{map}
use Rattle.std.proofs.lemmas.List.{map-append}
use Rattle.ot_base.specs.Section.{TextSection}
use Rattle.elf_objects.specs.Elf.{Elf, SectionEntry}
use Rattle.program_graph.specs.Tells.{text_of}
use Rattle.alternatives.proofs.Ranges.{mapped_same}
use Rattle.object_points.proofs.ListedFields.{all_sections, is_text_number, section_of, sections_below, sections_more}
use Rattle.object_points.proofs.text_sections.list_texts.Goals as goal
use Rattle.object_points.proofs.text_sections.list_texts.Goals.{then-is_text+in_ok-push, else-is_text}

pub loop-sec-preserved : goal.loop-sec-preserved
loop-sec-preserved c =
    let o : Elf = c.args.object.now in
    let n : ℕ = c.loop-sec.sec in
    elim c.if-is_text.branch [
      | then-is_text+in_ok-push w ↦
          ap (λ v. map text_of v.items) w.texts-is
          ∙ ap (map text_of) w.in_ok-push.ensures.items
          ∙ map-append text_of c.loop-sec.texts.items _
          ∙ ap (λ (ts : List TextSection). ts ++ record { sec = n; size = w.section-size.result.size } ∷ []) c.loop-sec.invariant
          ∙ sym (sections_more o n w.section-size.result.size (sym c.is_text.ensures ∙ w.if-is_text.true) (ap (λ (s : SectionEntry). s.size) w.section-size.ensures.value))
      | else-is_text w ↦
          ap (λ v. map text_of v.items) w.texts-is
          ∙ c.loop-sec.invariant
          ∙ sym (mapped_same (section_of o) (is_text_number o) n (sym c.is_text.ensures ∙ w.if-is_text.false))
    ]

pub returns : goal.returns
returns c =
    let o : Elf = c.args.object.now in
    let whole : c.loop-sec.sec ≡ length o.sections = omega (arith, c.loop-sec-test.false, c.loop-sec.auto.sec-end, c.sections-sec-end.ensures.value) in
    c.loop-sec.invariant ∙ ap (sections_below o) whole ∙ all_sections o
