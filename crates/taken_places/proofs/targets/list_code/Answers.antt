-- One text more, and at the end every text.
use Rattle.std.proofs.Common.{◌≡◌, ◌<◌, ◌≤◌, ℕ, List, [], ◌∷◌, ◌++◌, length, take, get_or, append-nil, sym, ap, ◌∙◌, subst, arith}
use Rattle.std.specs.Prelude.{flat_map}
use Rattle.std.proofs.lemmas.List.{take_all, take_more}
use Rattle.std.proofs.lemmas.List.Concat.{flat_map-append}
use Rattle.elf_objects.specs.Elf.{Elf}
use Rattle.alternatives.specs.declared.texts.SectionText.{SectionText}
use Rattle.flow_defs.specs.Code.{texts_of}
use Rattle.flow_defs.specs.Coded.{Coded}
use Rattle.taken_places.specs.Listed.{addresses_in_text, taken_by_code}
use Rattle.taken_places.proofs.ObjectTexts.{text_within}
use Rattle.taken_places.proofs.targets.list_code.Goals as goal

pub loop-text-preserved : goal.loop-text-preserved
loop-text-preserved c =
    let o : Coded = c.args.linked.now in
    let i : ℕ = c.loop-text.text-index in
    let t : SectionText = c.text-item.result in
    let same = c.texts-text-items.ensures.value in
    let inside : i < length (texts_of o) = omega (arith, c.loop-text-test.true, ap (λ (ts : List SectionText). length ts) same) in
    let at : get_or (texts_of o) i t ≡ t = ap (λ (ts : List SectionText). get_or ts i t) (sym same) ∙ sym c.text-item.is in
    c.in_ok-push_text.ensures
    ∙ ap (λ (e : Elf). c.loop-text.places.items ++ addresses_in_text e t) c.object-object.ensures
    ∙ ap (λ ps. ps ++ addresses_in_text o.elf t) c.loop-text.invariant
    ∙ ap (λ ps. flat_map (addresses_in_text o.elf) (take i (texts_of o)) ++ ps) (sym (append-nil (addresses_in_text o.elf t)))
    ∙ sym (flat_map-append (addresses_in_text o.elf) (take i (texts_of o)) (t ∷ []))
    ∙ ap (λ u. flat_map (addresses_in_text o.elf) (take i (texts_of o) ++ u ∷ [])) (sym at)
    ∙ ap (flat_map (addresses_in_text o.elf)) (sym (take_more (texts_of o) i t inside))

pub returns : goal.returns
unfolding taken_by_code
returns c =
    let o : Coded = c.args.linked.now in
    let past : length (texts_of o) ≤ c.loop-text.text-index = omega (arith, c.loop-text-test.false, ap (λ (ts : List SectionText). length ts) c.texts-text-items.ensures.value) in
    c.loop-text.invariant ∙ ap (flat_map (addresses_in_text o.elf)) (take_all c.loop-text.text-index (texts_of o) past)

-- a text is of a section of the object
pub push_text-requires-clause-known : goal.push_text-requires-clause-known
push_text-requires-clause-known c =
    let o : Coded = c.args.linked.now in
    let i : ℕ = c.loop-text.text-index in
    let t : SectionText = c.text-item.result in
    let same = c.texts-text-items.ensures.value in
    let inside : i < length (texts_of o) = omega (arith, c.loop-text-test.true, ap (λ (ts : List SectionText). length ts) same) in
    let at : get_or (texts_of o) i t ≡ t = ap (λ (ts : List SectionText). get_or ts i t) (sym same) ∙ sym c.text-item.is in
    subst (λ (e : Elf). t.sec < length e.sections) (sym c.object-object.ensures) (text_within o t i inside at)
