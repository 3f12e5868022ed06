use Rattle.std.proofs.Common.{◌≡◌, ◌<◌, ◌≤◌, ℕ, List, Bool, length, get_or, sym, ap, subst, ◌∙◌, arith}
use Rattle.elf_objects.specs.Elf.{Elf}
use Rattle.elf_objects.specs.Object.{IsObject}
use Rattle.alternatives.specs.Texts.{text_bytes}
use Rattle.alternatives.specs.declared.texts.SectionText.{SectionText}
use Rattle.flow_defs.specs.Code.{texts_of}
use Rattle.flow_defs.specs.Coded.{Coded}
use Rattle.site_lists.specs.Listed.{Listed, listed}
use Rattle.site_lists.specs.Sites.{AreFew, AreSitesIn, can_have_symbol}
use Rattle.site_lists.proofs.Coded.{all_texts, no_text_more, text_more}
use Rattle.site_lists.proofs.Nameable.{sites_few, sites_in}
use Rattle.taken_places.proofs.ObjectTexts.{text_within}
use Rattle.site_lists.proofs.code_sites.sites.Goals as goal
use Rattle.site_lists.proofs.code_sites.sites.Goals.{then-can_have_symbol+in_ok-push_text, else-can_have_symbol}

pub loop-text-preserved : goal.loop-text-preserved
loop-text-preserved c =
    let o : Coded = c.args.linked.now in
    let i : ℕ = c.loop-text.text-index in
    let t : SectionText = c.text-item.result in
    let p : SectionText → Bool = λ u. can_have_symbol o.elf u.sec in
    let same = c.texts-text-items.ensures.value in
    let inside : i < length (texts_of o) = omega (arith, c.loop-text-test.true, ap (λ (ts : List SectionText). length ts) same) in
    let at : get_or (texts_of o) i t ≡ t = ap (λ (ts : List SectionText). get_or ts i t) (sym same) ∙ sym c.text-item.is in
    let test : p t ≡ c.can_have_symbol.result = ap (λ (e : Elf). can_have_symbol e t.sec) (sym c.object-object.ensures) ∙ sym c.can_have_symbol.ensures in
    elim c.if-can_have_symbol.branch [
      | then-can_have_symbol+in_ok-push_text w ↦
          text_more c.args.options p (texts_of o) i t t o (listed c.loop-text.lists) (listed c.if-can_have_symbol.lists) inside at (test ∙ w.if-can_have_symbol.true) c.loop-text.invariant (ap listed w.lists-is ∙ w.in_ok-push_text.ensures)
      | else-can_have_symbol w ↦
          ap listed w.lists-is ∙ no_text_more c.args.options p (texts_of o) i t t o (listed c.loop-text.lists) inside at (test ∙ w.if-can_have_symbol.false) c.loop-text.invariant
    ]

-- a text is of a section of the object
pub push_text-requires-clause-known : goal.push_text-requires-clause-known
push_text-requires-clause-known c =
    let o : Coded = c.args.linked.now in
    let i : ℕ = c.loop-text.text-index in
    let t : SectionText = c.text-item.result in
    let same = c.texts-text-items.ensures.value in
    let inside : i < length (texts_of o) = omega (arith, c.loop-text-test.true, ap (λ (ts : List SectionText). length ts) same) in
    let at : get_or (texts_of o) i t ≡ t = ap (λ (ts : List SectionText). get_or ts i t) (sym same) ∙ sym c.text-item.is in
    text_within o t i inside at

-- past the last text
past_all : (o : Coded) (texts : List SectionText) (i : ℕ) → texts ≡ texts_of o → length texts ≤ i → length (texts_of o) ≤ i
past_all o texts i same past = subst (λ (ts : List SectionText). length ts ≤ i) same past

pub returns-clause-value : goal.returns-clause-value
returns-clause-value c =
    all_texts c.args.options c.args.linked.now (listed c.loop-text.lists) c.loop-text.text-index
    (past_all c.args.linked.now c.texts-text-items.result.now c.loop-text.text-index c.texts-text-items.ensures.value c.loop-text-test.false) c.loop-text.invariant

pub returns-clause-placed : goal.returns-clause-placed
returns-clause-placed c =
    let o : Coded = c.args.linked.now in
    let ok : IsObject o.elf.bytes o.elf = subst (λ (e : Elf). IsObject e.bytes e) c.object-object.ensures c.has_section_numbers-has_numbers.ensures.object in
    subst (λ (l : Listed). AreSitesIn o.elf l) (sym (returns-clause-value c)) (sites_in o ok c.args.options)

pub returns-clause-few : goal.returns-clause-few
returns-clause-few c =
    let o : Coded = c.args.linked.now in
    let little : text_bytes (texts_of o) ≤ 16777216 = subst (λ (ts : List SectionText). text_bytes ts ≤ 16777216) c.texts-text-items.ensures.value c.texts-text-items.ensures.little in
    subst (λ (l : Listed). AreFew l) (sym (returns-clause-value c)) (sites_few c.args.options o little)
