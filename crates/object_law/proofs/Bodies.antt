-- The texts of an object by its sections, and how instructions and cuts lie in them.
use Rattle.std.proofs.Common.{◌≡◌, ℕ, ◌+◌, ◌<◌, ◌≤◌, Bool, true, false, ◌&&◌, ◌||◌, Option, Some, None, length, Contains, refl, sym, ap, ◌∙◌, arith, subst, inl, inr}
use Rattle.std.specs.Prelude.{is_some, option_and_then, ◌==◌}
use Rattle.std.specs.List.{range_with_len}
use Rattle.std.proofs.lemmas.Bool.{eqb-true}
use Rattle.ot_base.specs.declared.place.Place.{Place}
use Rattle.operation_defs.specs.declared.insn.Insn.{Insn}
use Rattle.flow_defs.specs.Coded.{Coded}
use Rattle.elf_objects.specs.Contents.{is_text, section_at}
use Rattle.x86_decode.proofs.Languages.{IsBytes}
use Rattle.x86_text.specs.Code.{Body, code_of, insn_listed}
use Rattle.alternatives.specs.declared.texts.SectionText.{SectionText}
use Rattle.alternatives.specs.Texts.{insn_at, is_cut, is_cut_of}
use Rattle.unwinding_law.proofs.Lists.{find_one, from_filter}
use Rattle.table_law.proofs.Lists.{finds}
use Rattle.flow_defs.specs.Code.{body_of, text_numbers, texts_of}
use Rattle.object_law.specs.Flows.{HasBytes}
use Rattle.object_law.proofs.Levels.{and_true}
use Rattle.object_law.proofs.Listed.{LiesIn, lie_apart, lies_in}
use Rattle.object_law.proofs.Owners.{from_map}

-- a text of an object is that of a text section
pub record IsTextOf (o : Coded) (t : SectionText) : Type 0 where
  pub listed : Contains (text_numbers o.elf) t.sec
  pub code : is_text (section_at o.elf t.sec) ≡ true
  pub body : t.text ≡ body_of o t.sec

pub text_of : (o : Coded) (t : SectionText) → Contains (texts_of o) t → IsTextOf o t
unfolding texts_of
text_of o t c =
    let made = λ (i : ℕ). let x : SectionText = record { sec = i; text = body_of o i } in x in
    let one = from_map made (text_numbers o.elf) t c in
    let own = from_filter (λ i. is_text (section_at o.elf i)) (range_with_len 0 (length o.elf.sections)) one.0 one.1 in
    subst (IsTextOf o) one.2 (record { listed = one.1; code = own.1; body = refl })

-- an instruction at a place is one of the body of its section, which is a text section
pub record IsAt (o : Coded) (place : Place) (insn : Insn) : Type 0 where
  pub listed : Contains (text_numbers o.elf) place.sec
  pub code : is_text (section_at o.elf place.sec) ≡ true
  pub bytes : IsBytes (body_of o place.sec).bytes
  pub here : insn_listed (code_of (body_of o place.sec)) place.off ≡ Some insn

pub is_at : (o : Coded) (place : Place) (insn : Insn) → HasBytes o → insn_at (texts_of o) place ≡ Some insn → IsAt o place insn
is_at o place insn are is = elim (finds (λ t. t.sec == place.sec) (texts_of o)) [
  | inl none ↦ absurd (let e = ap (option_and_then (λ (t : SectionText). insn_listed (code_of t.text) place.off)) none.0 in let k : ⊥ = cc in k)
  | inr one ↦
      let t = one.0 in
      let own = text_of o t one.2 in
      let sec : t.sec ≡ place.sec = eqb-true t.sec place.sec one.3 in
      let found : insn_listed (code_of t.text) place.off ≡ Some insn = sym (ap (option_and_then (λ (t : SectionText). insn_listed (code_of t.text) place.off)) one.1) ∙ is in
      let body : t.text ≡ body_of o place.sec = own.body ∙ ap (body_of o) sec in
      record {
        listed = subst (Contains (text_numbers o.elf)) sec own.listed;
        code = subst (λ (i : ℕ). is_text (section_at o.elf i) ≡ true) sec own.code;
        bytes = subst (λ (b : Body). IsBytes b.bytes) body (are t one.2);
        here = subst (λ (b : Body). insn_listed (code_of b) place.off ≡ Some insn) body found;
      }
]

-- it has a byte, and ends in the body
pub at_lies : (o : Coded) (place : Place) (insn : Insn) → IsAt o place insn → LiesIn 0 0 (body_of o place.sec).bytes place.off insn
unfolding code_of
at_lies o place insn at = lies_in o.map 0 0 (body_of o place.sec).bytes place.off insn at.bytes at.here

-- a cut is one of the body of its section
pub record IsCutIn (o : Coded) (place : Place) : Type 0 where
  pub listed : Contains (text_numbers o.elf) place.sec
  pub code : is_text (section_at o.elf place.sec) ≡ true
  pub bytes : IsBytes (body_of o place.sec).bytes
  pub cut : is_cut_of (body_of o place.sec) place.off ≡ true

pub cut_in : (o : Coded) (place : Place) → HasBytes o → is_cut (texts_of o) place ≡ true → IsCutIn o place
cut_in o place are is =
    let one = find_one (λ t. t.sec == place.sec && is_cut_of t.text place.off) (texts_of o) is in
    let t = one.0 in
    let own = text_of o t one.1 in
    let parts = and_true (t.sec == place.sec) (is_cut_of t.text place.off) one.2 in
    let sec : t.sec ≡ place.sec = eqb-true t.sec place.sec parts.0 in
    let body : t.text ≡ body_of o place.sec = own.body ∙ ap (body_of o) sec in
    record {
      listed = subst (Contains (text_numbers o.elf)) sec own.listed;
      code = subst (λ (i : ℕ). is_text (section_at o.elf i) ≡ true) sec own.code;
      bytes = subst (λ (b : Body). IsBytes b.bytes) body (are t one.1);
      cut = subst (λ (b : Body). is_cut_of b place.off ≡ true) body parts.1;
    }

-- a cut lies in the body or at its end
pub cut_within : (o : Coded) (place : Place) → IsCutIn o place → place.off ≤ length (body_of o place.sec).bytes
unfolding code_of
cut_within o place cut = at_end (place.off == length (body_of o place.sec).bytes) refl cut.cut
  where
    listed : (found : Option Insn) → insn_listed (code_of (body_of o place.sec)) place.off ≡ found → is_some found ≡ true → place.off ≤ length (body_of o place.sec).bytes
    listed None is e = absurd (let k : ⊥ = cc in k)
    listed (Some insn) is e = let lies = lies_in o.map 0 0 (body_of o place.sec).bytes place.off insn cut.bytes is in omega (arith, lies.within)

    at_end : (b : Bool) → (place.off == length (body_of o place.sec).bytes) ≡ b → (b || is_some (insn_listed (code_of (body_of o place.sec)) place.off)) ≡ true → place.off ≤ length (body_of o place.sec).bytes
    at_end true e h = omega (arith, eqb-true place.off (length (body_of o place.sec).bytes) e)
    at_end false e h = listed (insn_listed (code_of (body_of o place.sec)) place.off) refl h

-- an instruction that begins before a cut of its section ends there or before
pub before_cut : (o : Coded) (place cut : Place) (insn : Insn) → IsAt o place insn → IsCutIn o cut → place.sec ≡ cut.sec → place.off < cut.off → place.off + insn.len ≤ cut.off
unfolding code_of
before_cut o place cut insn at is sec before = at_end (cut.off == length (body_of o cut.sec).bytes) refl is.cut
  where
    here : insn_listed (code_of (body_of o cut.sec)) place.off ≡ Some insn
    here = subst (λ (i : ℕ). insn_listed (code_of (body_of o i)) place.off ≡ Some insn) sec at.here

    listed : (found : Option Insn) → insn_listed (code_of (body_of o cut.sec)) cut.off ≡ found → is_some found ≡ true → place.off + insn.len ≤ cut.off
    listed None is e = absurd (let k : ⊥ = cc in k)
    listed (Some other) found e = lie_apart o.map 0 0 (body_of o cut.sec).bytes place.off cut.off insn other is.bytes (subst (λ (i : ℕ). insn_listed (code_of (body_of o i)) place.off ≡ Some insn) sec at.here) found before

    at_end : (b : Bool) → (cut.off == length (body_of o cut.sec).bytes) ≡ b → (b || is_some (insn_listed (code_of (body_of o cut.sec)) cut.off)) ≡ true → place.off + insn.len ≤ cut.off
    at_end true e h =
        let lies = lies_in o.map 0 0 (body_of o cut.sec).bytes place.off insn is.bytes (subst (λ (i : ℕ). insn_listed (code_of (body_of o i)) place.off ≡ Some insn) sec at.here) in
        omega (arith, lies.within, eqb-true cut.off (length (body_of o cut.sec).bytes) e)
    at_end false e h = listed (insn_listed (code_of (body_of o cut.sec)) cut.off) refl h

-- so does one before another
pub before_other : (o : Coded) (place other : Place) (one two : Insn) → IsAt o place one → IsAt o other two → place.sec ≡ other.sec → place.off < other.off → place.off + one.len ≤ other.off
unfolding code_of
before_other o place other one two at is sec before =
    lie_apart o.map 0 0 (body_of o other.sec).bytes place.off other.off one two is.bytes (subst (λ (i : ℕ). insn_listed (code_of (body_of o i)) place.off ≡ Some one) sec at.here) is.here before
