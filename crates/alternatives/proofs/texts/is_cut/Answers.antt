use Rattle.std.proofs.Common.{◌≡◌, ◌≢◌, ℕ, ◌<◌, ◌≤◌, Bool, true, false, eqb, ◌&&◌, List, [], length, get_or, inl, inr, arith, sym, ap, ◌∙◌}
use Rattle.std.proofs.lemmas.Bool.{cases_lt, eq-eqb}
use Rattle.ot_base.specs.declared.place.Place.{Place}
use Rattle.x86_map.specs.declared.map.Map.TheVariants.{Base}
use Rattle.x86_text.specs.Code.{read_by}
use Rattle.alternatives.specs.declared.texts.SectionText.{SectionText}
use Rattle.alternatives.specs.Texts.{AscendBySection, is_cut_of}
use Rattle.alternatives.proofs.Any.{only_one, none_passes}
use Rattle.alternatives.proofs.Ends.{other_fails}
use Rattle.alternatives.proofs.texts.is_cut.Goals as goal

abbrev test : Place → SectionText → Bool
test place t = eqb t.sec place.sec && is_cut_of t.text place.off

-- where the sections below a place's are counted, only the next one can be the place's
others : (texts : List SectionText) (place : Place) (n : ℕ) (d : SectionText) → AscendBySection texts → ((k : ℕ) (d : SectionText) → k < n → (get_or texts k d).sec < place.sec) → ((k : ℕ) (d : SectionText) → n ≤ k → k < length texts → place.sec ≤ (get_or texts k d).sec) → (k : ℕ) → k < length texts → k ≢ n → test place (get_or texts k d) ≡ false
others texts place n d ascend below above k inside other =
    elim (cases_lt k n) [
      | inl lower ↦
          let low : (get_or texts k d).sec < place.sec = below k d lower in
          other_fails (get_or texts k d).sec place.sec (is_cut_of (get_or texts k d).text place.off) (λ same. omega arith)
      | inr not_lower ↦
          let order : n < k = omega arith in
          let less : (get_or texts n d).sec < (get_or texts k d).sec = ascend n k d order inside in
          let least : place.sec ≤ (get_or texts n d).sec = above n d (omega arith) (omega arith) in
          other_fails (get_or texts k d).sec place.sec (is_cut_of (get_or texts k d).text place.off) (λ same. omega arith)
    ]

pub returns-clause-value : goal.returns-clause-value
returns-clause-value c =
    let texts : List SectionText = c.args.texts.now in
    let place : Place = c.args.place in
    let n : ℕ = c.count_below-at.result in
    let d : SectionText = c.index-texts-at.result in
    let inside : n < length texts = c.if-at-texts.false in
    let here : test place (get_or texts n d) ≡ test place d = ap (test place) (sym c.index-texts-at.is) in
    let same : eqb d.sec place.sec ≡ true = eq-eqb d.sec place.sec c.if-text-place.false in
    c.is_cut_of.ensures.value
    ∙ sym (ap (λ b. b && is_cut_of d.text place.off) same)
    ∙ sym here
    ∙ sym (only_one (test place) texts n d inside (others texts place n d c.requires.ascending c.count_below-at.ensures.below c.count_below-at.ensures.above))

pub returns-then-text-place-clause-value : goal.returns-then-text-place-clause-value
returns-then-text-place-clause-value c =
    let texts : List SectionText = c.args.texts.now in
    let place : Place = c.args.place in
    let n : ℕ = c.count_below-at.result in
    let d : SectionText = c.index-texts-at.result in
    let inside : n < length texts = c.if-at-texts.false in
    let here : test place (get_or texts n d) ≡ test place d = ap (test place) (sym c.index-texts-at.is) in
    sym (only_one (test place) texts n d inside (others texts place n d c.requires.ascending c.count_below-at.ensures.below c.count_below-at.ensures.above)
    ∙ here
    ∙ other_fails d.sec place.sec (is_cut_of d.text place.off) c.if-text-place.true)

none : SectionText
none = record { sec = 0; text = read_by Base [] }

pub returns-then-at-texts-clause-value : goal.returns-then-at-texts-clause-value
returns-then-at-texts-clause-value c =
    let texts : List SectionText = c.args.texts.now in
    let place : Place = c.args.place in
    sym (none_passes (test place) texts none (λ k inside. others texts place c.count_below-at.result none c.requires.ascending c.count_below-at.ensures.below c.count_below-at.ensures.above k inside (λ same. omega (arith, c.if-at-texts.true))))
