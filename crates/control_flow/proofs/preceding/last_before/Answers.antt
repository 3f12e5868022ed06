use Rattle.std.proofs.Common.{◌≡◌, ◌≢◌, ℕ, ◌<◌, ◌≤◌, Bool, false, cond, eqb, List, [], length, find, get_or, Option, Some, None, inl, inr, arith, refl, sym, ap, ◌∙◌, subst}
use Rattle.std.specs.Prelude.{IfSome, MatchOption}
use Rattle.std.proofs.lemmas.Bool.{cases_lt, eq-eqb, ne_eqb}
use Rattle.ot_base.specs.declared.place.Place.{Place}
use Rattle.x86_map.specs.declared.map.Map.TheVariants.{Base}
use Rattle.x86_text.specs.Code.{read_by}
use Rattle.alternatives.specs.declared.texts.SectionText.{SectionText}
use Rattle.alternatives.specs.Texts.{AscendBySection}
use Rattle.alternatives.proofs.Finding.{none_passes, only_one}
use Rattle.control_flow.specs.Gapless.{EndsThere, IsGapless, IsLastBefore, IsLastBelow}
use Rattle.control_flow.proofs.Apart.{ends_last}
use Rattle.control_flow.proofs.preceding.last_before.Goals as goal

abbrev test : Place → SectionText → Bool
test place t = eqb t.sec place.sec

-- where the sections below a place's are counted, only the next one can be the place's
others : (texts : List SectionText) (place : Place) (n : ℕ) (d : SectionText) → AscendBySection texts → ((k : ℕ) (d : SectionText) → k < n → (get_or texts k d).sec < place.sec) → ((k : ℕ) (d : SectionText) → n ≤ k → k < length texts → place.sec ≤ (get_or texts k d).sec) → (k : ℕ) → k < length texts → k ≢ n → test place (get_or texts k d) ≡ false
others texts place n d ascend below above k inside other =
    elim (cases_lt k n) [
      | inl lower ↦
          let low : (get_or texts k d).sec < place.sec = below k d lower in
          ne_eqb (get_or texts k d).sec place.sec (λ same. omega arith)
      | inr not_lower ↦
          let order : n < k = omega arith in
          let less : (get_or texts n d).sec < (get_or texts k d).sec = ascend n k d order inside in
          let least : place.sec ≤ (get_or texts n d).sec = above n d (omega arith) (omega arith) in
          ne_eqb (get_or texts k d).sec place.sec (λ same. omega arith)
    ]

none_found : (texts : List SectionText) (place : Place) → find (test place) texts ≡ None → IsLastBefore texts place None
none_found texts place none = subst (λ (x : Option SectionText). MatchOption x (◌≡◌ {A = Option ℕ} None None) (λ t. IsGapless t.text × IsLastBelow t.text place.off None)) (sym none) refl

one_found : (texts : List SectionText) (place : Place) (t : SectionText) (last : Option ℕ) → find (test place) texts ≡ Some t → IsGapless t.text → IsLastBelow t.text place.off last → IsLastBefore texts place last
one_found texts place t last found gapless is = subst (λ (x : Option SectionText). MatchOption x (last ≡ None) (λ t. IsGapless t.text × IsLastBelow t.text place.off last)) (sym found) (gapless, is)

pub returns-in-None : goal.returns-in-None
returns-in-None c =
    let texts : List SectionText = c.args.texts.now in
    let place : Place = c.args.place in
    let n : ℕ = c.count_below-at.result in
    let d : SectionText = c.index-texts-at.result in
    let found : find (test place) texts ≡ Some d =
    only_one (test place) texts n d c.if-at-texts.false (others texts place n d c.requires.ascending c.count_below-at.ensures.below c.count_below-at.ensures.above)
    ∙ ap (λ (t : SectionText). cond (test place t) (Some t) None) (sym c.index-texts-at.is)
    ∙ ap (λ b. cond b (Some d) None) (eq-eqb d.sec place.sec c.if-text-place.false) in
    one_found texts place d c.prev.result found c.text_is_gapless.ensures c.prev.ensures

pub returns-in-Some : goal.returns-in-Some
returns-in-Some c =
    let texts : List SectionText = c.args.texts.now in
    let place : Place = c.args.place in
    let n : ℕ = c.count_below-at.result in
    let d : SectionText = c.index-texts-at.result in
    let found : find (test place) texts ≡ Some d =
    only_one (test place) texts n d c.if-at-texts.false (others texts place n d c.requires.ascending c.count_below-at.ensures.below c.count_below-at.ensures.above)
    ∙ ap (λ (t : SectionText). cond (test place t) (Some t) None) (sym c.index-texts-at.is)
    ∙ ap (λ b. cond b (Some d) None) (eq-eqb d.sec place.sec c.if-text-place.false) in
    let there : EndsThere texts place c.in-Some.off = subst (λ (x : Option ℕ). IfSome x (EndsThere texts place)) c.in-Some.is c.requires.near in
    one_found texts place d (Some c.in-Some.off) found c.text_is_gapless.ensures (ends_last d.text place.off c.text_is_gapless.ensures c.in-Some.off (there d found))

pub returns-then-text-place : goal.returns-then-text-place
returns-then-text-place c =
    let texts : List SectionText = c.args.texts.now in
    let place : Place = c.args.place in
    let n : ℕ = c.count_below-at.result in
    let d : SectionText = c.index-texts-at.result in
    let found : find (test place) texts ≡ None =
    only_one (test place) texts n d c.if-at-texts.false (others texts place n d c.requires.ascending c.count_below-at.ensures.below c.count_below-at.ensures.above)
    ∙ ap (λ (t : SectionText). cond (test place t) (Some t) None) (sym c.index-texts-at.is)
    ∙ ap (λ b. cond b (Some d) None) (ne_eqb d.sec place.sec c.if-text-place.true) in
    none_found texts place found

none : SectionText
none = record { sec = 0; text = read_by Base [] }

pub returns-then-at-texts : goal.returns-then-at-texts
returns-then-at-texts c =
    let texts : List SectionText = c.args.texts.now in
    let place : Place = c.args.place in
    none_found texts place (none_passes (test place) texts none (λ k inside. others texts place c.count_below-at.result none c.requires.ascending c.count_below-at.ensures.below c.count_below-at.ensures.above k inside (λ same. omega (arith, c.if-at-texts.true))))
