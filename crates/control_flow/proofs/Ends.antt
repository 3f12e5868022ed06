-- Where instructions end: at boundaries, and where text sections do.
use Rattle.std.proofs.Common.{◌≡◌, ◌<◌, Bool, true, false, cond, not, ◌&&◌, ◌||◌, eqb, ltb, List, [], ◌∷◌, length, map, find, Option, Some, inl, inr, refl, sym, ap, ◌∙◌, subst, arith}
use Rattle.std.specs.Prelude.{is_some, option_and_then}
use Rattle.std.specs.List.{list_any, range_with_len}
use Rattle.std.proofs.lemmas.Bool.{and_from, cases_Bool, eq-eqb, false≢true, lt-ltb, ne_eqb}
use Rattle.std.proofs.lemmas.Bool.Decides.{eqb_tells, nat_tests}
use Rattle.ot_base.specs.declared.place.Place.{Place}
use Rattle.operation_defs.specs.declared.insn.Insn.{Insn}
use Rattle.flow_defs.specs.Coded.{Coded}
use Rattle.elf_objects.specs.Contents.{is_text, section_at}
use Rattle.x86_text.specs.Code.{Body, code_of, insn_listed}
use Rattle.alternatives.specs.declared.texts.SectionText.{SectionText}
use Rattle.alternatives.specs.Texts.{is_cut, is_cut_of, is_boundary}
use Rattle.alternatives.proofs.Ascending.{In, every-from_in, every-in, every-map}
use Rattle.alternatives.proofs.Placed.{RiseBySection, and_both, rise_by_section}
use Rattle.flow_defs.specs.Code.{body_of, text_numbers, texts_of}
use Rattle.flow_defs.specs.Faults.{is_no_end}
use Rattle.object_points.proofs.TextsLemmas.{text_in, texts_ascend}
use Rattle.object_points.proofs.Made.{kept_passes}
use Rattle.control_flow.specs.Judged.{ends_text}
use Rattle.point_edges.proofs.KnownTexts.{text_known}
use Rattle.control_flow.proofs.StartPlaces.{text_listed}

-- ---- whether one of a list passes
none_of : {X : Type 0} (p : X → Bool) (xs : List X) → ((x : X) → In x xs → p x ≡ false) → list_any p xs ≡ false
none_of p [] none = refl
none_of p (x ∷ xs) none = ap (λ b. b || list_any p xs) (none x (inl refl)) ∙ none_of p xs (λ y h. none y (inr h))

one_of : {X : Type 0} (p : X → Bool) (xs : List X) (x : X) → In x xs → p x ≡ true → list_any p xs ≡ true
one_of p [] x h passes = absurd h
one_of p (y ∷ xs) x (inl same) passes = ap (λ b. b || list_any p xs) (ap p same ∙ passes)
one_of p (y ∷ xs) x (inr h) passes = elim (p y) as (λ b. (b || list_any p xs) ≡ true) [ true ↦ refl | false ↦ one_of p xs x h passes ]

-- ---- a cut is a boundary or an end
abbrev ends_at : Place → SectionText → Bool
ends_at place t = eqb t.sec place.sec && eqb place.off (length t.text.bytes)

abbrev cuts_at : Place → SectionText → Bool
cuts_at place t = eqb t.sec place.sec && is_cut_of t.text place.off

abbrev its : Place → SectionText → Option Insn
its place t = insn_listed (code_of t.text) place.off

abbrev text_at : List SectionText → Place → Option SectionText
text_at texts place = find (λ (t : SectionText). eqb t.sec place.sec) texts

either_way : (e s : Bool) → ((e || s) || false) ≡ (s || (e || false))
either_way true true = refl
either_way true false = refl
either_way false true = refl
either_way false false = refl

cut_or_end : (texts : List SectionText) (place : Place) → RiseBySection texts → is_cut texts place ≡ (is_boundary texts place || list_any (ends_at place) texts)
cut_or_end [] place rise = refl
cut_or_end (t ∷ texts) place rise = elim (eqb_tells t.sec place.sec) [
  | inl (is, same) ↦
      let later : (u : SectionText) → In u texts → eqb u.sec place.sec ≡ false = λ u h. let less : t.sec < u.sec = every-in (λ (v : SectionText). t.sec < v.sec) texts u rise.0 h in ne_eqb u.sec place.sec (λ level. omega arith) in
      let no_cut : list_any (cuts_at place) texts ≡ false = none_of (cuts_at place) texts (λ u h. ap (λ b. b && is_cut_of u.text place.off) (later u h)) in
      let no_end : list_any (ends_at place) texts ≡ false = none_of (ends_at place) texts (λ u h. ap (λ b. b && eqb place.off (length u.text.bytes)) (later u h)) in
      ap (λ b. (b && is_cut_of t.text place.off) || list_any (cuts_at place) texts) is
      ∙ ap (λ b. is_cut_of t.text place.off || b) no_cut
      ∙ either_way (eqb place.off (length t.text.bytes)) (is_some (its place t))
      ∙ ap (λ b. is_some (its place t) || (eqb place.off (length t.text.bytes) || b)) (sym no_end)
      ∙ ap (λ b. is_some (option_and_then (its place) (cond b (Some t) (text_at texts place))) || ((b && eqb place.off (length t.text.bytes)) || list_any (ends_at place) texts)) (sym is)
  | inr (is_not, differ) ↦
      ap (λ b. (b && is_cut_of t.text place.off) || list_any (cuts_at place) texts) is_not
      ∙ cut_or_end texts place rise.1
      ∙ ap (λ b. is_some (option_and_then (its place) (cond b (Some t) (text_at texts place))) || ((b && eqb place.off (length t.text.bytes)) || list_any (ends_at place) texts)) (sym is_not)
]

-- ---- the end of a text of an object
record IsTextOf (o : Coded) (t : SectionText) : Type 0 where
  below : t.sec < length o.elf.sections
  code : is_text (section_at o.elf t.sec) ≡ true
  text : t.text ≡ body_of o t.sec

text_of : (o : Coded) (t : SectionText) → In t (texts_of o) → IsTextOf o t
unfolding texts_of
text_of o t h = every-in (IsTextOf o) (map (text_in o) (text_numbers o.elf)) t (every-map (IsTextOf o) (text_in o) (text_numbers o.elf) (every-from_in (λ i. IsTextOf o (text_in o i)) (text_numbers o.elf) (λ i k.
    let code = kept_passes (λ n. is_text (section_at o.elf n)) (range_with_len 0 (length o.elf.sections)) i k in
    record { below = text_known o.elf i code; code = code; text = refl }))) h

end_parts : (o : Coded) (place : Place) (t : SectionText) → In t (texts_of o) → ends_at place t ≡ true → ends_text o.elf place ≡ true
end_parts o place t h ends =
    let own = text_of o t h in
    let parts = and_both (eqb t.sec place.sec) (eqb place.off (length t.text.bytes)) ends in
    let sec : t.sec ≡ place.sec = grind (arith, nat_tests, parts.0) in
    let body : length t.text.bytes ≡ length (section_at o.elf place.sec).body = ap (λ (b : Body). length b.bytes) own.text ∙ ap (λ i. length (section_at o.elf i).body) sec in
    and_from (ltb place.sec (length o.elf.sections)) _ (lt-ltb place.sec (length o.elf.sections) (subst (λ i. i < length o.elf.sections) sec own.below))
    (and_from (is_text (section_at o.elf place.sec)) _ (subst (λ i. is_text (section_at o.elf i) ≡ true) sec own.code) (sym (ap (λ n. eqb place.off n) body) ∙ parts.1))

ends_there : (o : Coded) (place : Place) (b : Bool) → ends_text o.elf place ≡ b → list_any (ends_at place) (texts_of o) ≡ b
ends_there o place true ends =
    let parts = and_both (ltb place.sec (length o.elf.sections)) _ ends in
    let own = and_both (is_text (section_at o.elf place.sec)) _ parts.1 in
    one_of (ends_at place) (texts_of o) (text_in o place.sec) (text_listed o place.sec own.0) (and_from (eqb place.sec place.sec) _ (eq-eqb place.sec place.sec refl) own.1)
ends_there o place false ends = none_of (ends_at place) (texts_of o) (λ t h. elim (cases_Bool (ends_at place t)) [
  | inl true_end ↦ absurd (false≢true (sym ends ∙ end_parts o place t h true_end))
  | inr other ↦ other
])

neither : (boundary end : Bool) → (not boundary && not end) ≡ not (boundary || end)
neither true end = refl
neither false end = refl

-- no instruction ends where none begins and no text section ends
pub no_end_is : (o : Coded) (place : Place) → (eqb place.off 0 || (not (is_boundary (texts_of o) place) && not (ends_text o.elf place))) ≡ is_no_end o place
no_end_is o place =
    ap (λ b. eqb place.off 0 || b) (neither (is_boundary (texts_of o) place) (ends_text o.elf place)
    ∙ ap (λ b. not (is_boundary (texts_of o) place || b)) (sym (ends_there o place (ends_text o.elf place) refl))
    ∙ ap not (sym (cut_or_end (texts_of o) place (rise_by_section (texts_of o) (texts_ascend o)))))

-- at an offset that isn't 0, and at 0
pub at_boundary : (o : Coded) (place : Place) → (place.off ≡ 0 → ⊥) → is_boundary (texts_of o) place ≡ true → false ≡ is_no_end o place
at_boundary o place some boundary =
    sym (ap (λ b. b || (not (is_boundary (texts_of o) place) && not (ends_text o.elf place))) (ne_eqb place.off 0 some) ∙ ap (λ b. not b && not (ends_text o.elf place)) boundary)
    ∙ no_end_is o place

pub off_boundary : (o : Coded) (place : Place) → (place.off ≡ 0 → ⊥) → is_boundary (texts_of o) place ≡ false → not (ends_text o.elf place) ≡ is_no_end o place
off_boundary o place some other =
    sym (ap (λ b. b || (not (is_boundary (texts_of o) place) && not (ends_text o.elf place))) (ne_eqb place.off 0 some) ∙ ap (λ b. not b && not (ends_text o.elf place)) other)
    ∙ no_end_is o place

pub at_beginning : (o : Coded) (place : Place) → place.off ≡ 0 → true ≡ is_no_end o place
at_beginning o place none =
    sym (ap (λ b. b || (not (is_boundary (texts_of o) place) && not (ends_text o.elf place))) (eq-eqb place.off 0 none)) ∙ no_end_is o place
