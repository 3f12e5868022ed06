use Rattle.std.proofs.Common.{◌≡◌, ◌≢◌, ℕ, ◌<◌, ◌≤◌, Bool, false, cond, eqb, List, [], length, find, get_or, Option, Some, None, inl, inr, option_and_then, arith, sym, ap, ◌∙◌}
use Rattle.std.specs.Prelude.{is_some}
use Rattle.std.proofs.lemmas.Bool.{cases_lt, eq-eqb, ne_eqb}
use Rattle.operation_defs.specs.declared.insn.Insn.{Insn}
use Rattle.ot_base.specs.declared.place.Place.{Place}
use Rattle.x86_map.specs.declared.map.Map.TheVariants.{Base}
use Rattle.x86_text.specs.Code.{code_of, insn_listed, read_by}
use Rattle.alternatives.specs.declared.texts.SectionText.{SectionText}
use Rattle.alternatives.specs.Texts.{AscendBySection}
use Rattle.jump_tables.proofs.Finding.{none_passes, only_one}
use Rattle.jump_tables.proofs.texts.is_boundary.Goals as goal

abbrev test : Place → SectionText → Bool
test place t = eqb t.sec place.sec

abbrev its : Place → SectionText → Option Insn
its place t = insn_listed (code_of t.text) place.off

-- where the sections below a place's are counted, only the next one can be the place's
others : (texts : List SectionText) (place : Place) (n : ℕ) (d : SectionText) → AscendBySection texts → ((k : ℕ) (d : SectionText) → k < n → (get_or texts k d).sec < place.sec) → ((k : ℕ) (d : SectionText) → n ≤ k → k < length texts → place.sec ≤ (get_or texts k d).sec) → (k : ℕ) → k < length texts → k ≢ n → test place (get_or texts k d) ≡ false
others texts place n d ascend below above k inside other =
    elim (cases_lt k n) [
      | inl lower ↦
          let low : (get_or texts k d).sec < place.sec = below k d lower in
          ne_eqb (get_or texts k d).sec place.sec (λ same. omega arith)
      | inr not_lower ↦
          let order : n < k = omega arith in
          let less : (get_or texts n d).sec < (get_or texts k d).sec = ascend n k d order inside in
          let least : place.sec ≤ (get_or texts n d).sec = above n d (omega arith) (omega arith) in
          ne_eqb (get_or texts k d).sec place.sec (λ same. omega arith)
    ]

pub returns : goal.returns
returns c =
    let texts : List SectionText = c.args.texts.now in
    let place : Place = c.args.place in
    let n : ℕ = c.count_below-at.result in
    let d : SectionText = c.index-texts-at.result in
    let found : find (test place) texts ≡ Some d =
    only_one (test place) texts n d c.if-at-texts.false (others texts place n d c.requires c.count_below-at.ensures.below c.count_below-at.ensures.above)
    ∙ ap (λ (t : SectionText). cond (test place t) (Some t) None) (sym c.index-texts-at.is)
    ∙ ap (λ b. cond b (Some d) None) (eq-eqb d.sec place.sec c.if-text-place.false) in
    c.is_boundary.ensures.value ∙ sym (ap (λ (t : Option SectionText). is_some (option_and_then (its place) t)) found)

pub returns-then-text-place : goal.returns-then-text-place
returns-then-text-place c =
    let texts : List SectionText = c.args.texts.now in
    let place : Place = c.args.place in
    let n : ℕ = c.count_below-at.result in
    let d : SectionText = c.index-texts-at.result in
    let found : find (test place) texts ≡ None =
    only_one (test place) texts n d c.if-at-texts.false (others texts place n d c.requires c.count_below-at.ensures.below c.count_below-at.ensures.above)
    ∙ ap (λ (t : SectionText). cond (test place t) (Some t) None) (sym c.index-texts-at.is)
    ∙ ap (λ b. cond b (Some d) None) (ne_eqb d.sec place.sec c.if-text-place.true) in
    sym (ap (λ (t : Option SectionText). is_some (option_and_then (its place) t)) found)

none : SectionText
none = record { sec = 0; text = read_by Base [] }

pub returns-then-at-texts : goal.returns-then-at-texts
returns-then-at-texts c =
    let texts : List SectionText = c.args.texts.now in
    let place : Place = c.args.place in
    sym (ap (λ (t : Option SectionText). is_some (option_and_then (its place) t)) (none_passes (test place) texts none (λ k inside. others texts place c.count_below-at.result none c.requires c.count_below-at.ensures.below c.count_below-at.ensures.above k inside (λ same. omega (arith, c.if-at-texts.true)))))
