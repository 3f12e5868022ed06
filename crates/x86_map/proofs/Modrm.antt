-- An opcode has a ModRM byte under all the prefixes that it stands with, or under none.
use Rattle.std.proofs.Common.{◌≡◌, ℕ, ◌<◌, true, false, cond, ltb, List, [], ◌∷◌, refl, sym, ◌∙◌, inl, inr}
use Rattle.std.specs.Prelude.{◌&&◌, ◌||◌, ◌⊎◌, not, Option, Some, None}
use Rattle.std.specs.List.{list_all}
use Rattle.std.proofs.lemmas.Bool.{ltb-true, not-true}
use Rattle.x86_map.specs.declared.map.Map.{Map}
use Rattle.x86_map.specs.declared.prefixes.Prefixes.{Prefixes}
use Rattle.x86_map.specs.declared.shape.Shape.{Shape}
use Rattle.x86_map.specs.declared.shape.Look.{Look}
use Rattle.x86_map.specs.declared.shape.Look.TheVariants.{Refused, NeedModrm, Fits}
use Rattle.x86_map.specs.declared.form.Operand.{Operand}
use Rattle.x86_map.specs.declared.form.Operand.TheVariants.{NoModrm, Digits, Bytes}
use Rattle.x86_map.specs.declared.form.Form.{Form}
use Rattle.x86_map.specs.Prefixes.{leads_to}
use Rattle.x86_map.specs.Form.{accepts, takes, has_modrm, shape_of, look_operand, look_form}
use Rattle.x86_map.specs.OpcodeMap.{forms_at, or_else, look_forms, look}
use Rattle.x86_map.proofs.Accepting.{and_left, and_right, or_true}
use Rattle.x86_map.proofs.EachOpcode.{example, takes_example, all_with, all_without, is_uniform, are_apart, each_opcode}

uniform : (m : Map) (number opcode : ℕ) → 0 < number → number < 13 → opcode < 256 → is_uniform (forms_at m number opcode) ≡ true
uniform m number opcode low high lt = and_left (is_uniform (forms_at m number opcode)) (are_apart (forms_at m number opcode)) (each_opcode m number opcode low high lt)

-- ---- one form

pub refused_form : (f : Form) (p : Prefixes) (modrm : Option ℕ) → accepts f.prefixes p ≡ false → look_form f p modrm ≡ Refused
unfolding look_form
refused_form f p modrm refuses = rw refuses

pub accepted_form : (f : Form) (p : Prefixes) (modrm : Option ℕ) → accepts f.prefixes p ≡ true → look_form f p modrm ≡ look_operand f.operand modrm (shape_of f p)
unfolding look_form
accepted_form f p modrm accept = rw accept

need_operand : (o : Operand) (s : Shape) → has_modrm o ≡ true → look_operand o None s ≡ NeedModrm
need_operand o s h = rw h

without_operand : (o : Operand) (s : Shape) (m : ℕ) → has_modrm o ≡ false → look_operand o (Some m) s ≡ Refused
without_operand NoModrm s m h = refl
without_operand (Digits mode first last) s m h = absurd cc
without_operand (Bytes first last) s m h = absurd cc

fits_operand : (o : Operand) (s : Shape) (m : ℕ) → takes o m ≡ true → look_operand o (Some m) s ≡ Fits s
fits_operand o s m h = rw h

-- ---- the forms of one opcode

-- forms without a ModRM byte refuse each
plain_operand : (o : Operand) (s : Shape) → has_modrm o ≡ false → look_operand o None s ≡ Fits s
plain_operand o s h = rw h

none_fits : (forms : List Form) (p : Prefixes) (m : ℕ) → all_without forms ≡ true → look_forms forms p (Some m) ≡ Refused
none_fits [] p m h = refl
none_fits (f ∷ forms) p m h =
    let rest : look_forms forms p (Some m) ≡ Refused = none_fits forms p m (and_right (not (has_modrm f.operand)) (all_without forms) h) in
    let without : has_modrm f.operand ≡ false = not-true (has_modrm f.operand) (and_left (not (has_modrm f.operand)) (all_without forms) h) in
    let here : look_form f p (Some m) ≡ Refused = elim (accepts f.prefixes p) as (λ b. accepts f.prefixes p ≡ b → look_form f p (Some m) ≡ Refused) [
      | true ↦ λ e. accepted_form f p (Some m) e ∙ without_operand f.operand (shape_of f p) m without
      | false ↦ λ e. refused_form f p (Some m) e
    ] refl in
    rw (here, rest)

-- forms with a ModRM byte ask for one where some byte fits
asks : (forms : List Form) (p : Prefixes) (m : ℕ) (s : Shape) → all_with forms ≡ true → look_forms forms p (Some m) ≡ Fits s → look_forms forms p None ≡ NeedModrm
asks [] p m s h fits = absurd cc
asks (f ∷ forms) p m s h fits =
    let has : has_modrm f.operand ≡ true = and_left (has_modrm f.operand) (all_with forms) h in
    elim (accepts f.prefixes p) as (λ b. accepts f.prefixes p ≡ b → look_forms (f ∷ forms) p None ≡ NeedModrm) [
      | true ↦ λ e. rw (accepted_form f p None e, need_operand f.operand (shape_of f p) has)
      | false ↦ λ e. rw (refused_form f p None e) (asks forms p m s (and_right (has_modrm f.operand) (all_with forms) h) (rw (refused_form f p (Some m) e) at fits))
    ] refl

-- where a ModRM byte is asked for, some byte fits
pub record SomeFits (look_at : ℕ → Look) : Type 0 where
  pub modrm : ℕ
  pub is_byte : modrm < 256
  pub shape : Shape
  pub fits : look_at modrm ≡ Fits shape

some_fits : (forms : List Form) (p : Prefixes) → all_with forms ≡ true → list_all takes_example forms ≡ true → look_forms forms p None ≡ NeedModrm → SomeFits (λ m. look_forms forms p (Some m))
some_fits [] p h examples asked = absurd cc
some_fits (f ∷ forms) p h examples asked =
    let has : has_modrm f.operand ≡ true = and_left (has_modrm f.operand) (all_with forms) h in
    let example_of : takes_example f ≡ true = and_left (takes_example f) (list_all takes_example forms) examples in
    let taken : (takes f.operand (example f.operand) && ltb (example f.operand) 256) ≡ true = rw has at example_of in
    elim (accepts f.prefixes p) as (λ b. accepts f.prefixes p ≡ b → SomeFits (λ m. look_forms (f ∷ forms) p (Some m))) [
      | true ↦ λ e. record {
        modrm = example f.operand;
        is_byte = ltb-true _ _ (and_right (takes f.operand (example f.operand)) (ltb (example f.operand) 256) taken);
        shape = shape_of f p;
        fits = rw (accepted_form f p (Some (example f.operand)) e, fits_operand f.operand (shape_of f p) (example f.operand) (and_left (takes f.operand (example f.operand)) (ltb (example f.operand) 256) taken)) refl;
      }
      | false ↦ λ e.
          let rest = some_fits forms p (and_right (has_modrm f.operand) (all_with forms) h) (and_right (takes_example f) (list_all takes_example forms) examples) (rw (refused_form f p None e) at asked) in
          record { modrm = rest.modrm; is_byte = rest.is_byte; shape = rest.shape; fits = rw (refused_form f p (Some rest.modrm) e) rest.fits }
    ] refl

without_asks : (forms : List Form) (p : Prefixes) → all_without forms ≡ true → look_forms forms p None ≡ NeedModrm → ⊥
without_asks [] p h asked = cc
without_asks (f ∷ forms) p h asked =
    let without : has_modrm f.operand ≡ false = not-true (has_modrm f.operand) (and_left (not (has_modrm f.operand)) (all_without forms) h) in
    elim (accepts f.prefixes p) as (λ b. accepts f.prefixes p ≡ b → ⊥) [
      | true ↦ λ e. let fits : look_form f p None ≡ Fits (shape_of f p) = accepted_form f p None e ∙ plain_operand f.operand (shape_of f p) without in
          let all : look_forms (f ∷ forms) p None ≡ Fits (shape_of f p) = rw fits in cc
      | false ↦ λ e. without_asks forms p (and_right (not (has_modrm f.operand)) (all_without forms) h) (rw (refused_form f p None e) at asked)
    ] refl

-- ---- the map

pub leads-fits : (p : Prefixes) (number opcode : ℕ) (modrm : Option ℕ) (s : Shape) → look p number opcode modrm ≡ Fits s → leads_to p number ≡ true
unfolding look
leads-fits p number opcode modrm s h = elim (leads_to p number) as (λ b. cond b (look_forms (forms_at p.map number opcode) p modrm) Refused ≡ Fits s → b ≡ true) [
  | true ↦ λ e. refl
  | false ↦ λ e. absurd cc
] h

pub look-asks : (p : Prefixes) (number opcode m : ℕ) (s : Shape) → 0 < number → number < 13 → opcode < 256 → look p number opcode (Some m) ≡ Fits s → look p number opcode None ≡ NeedModrm
unfolding look
look-asks p number opcode m s low high lt fits =
    let led : leads_to p number ≡ true = leads-fits p number opcode (Some m) s fits in
    let forms = forms_at p.map number opcode in
    let inside : look_forms forms p (Some m) ≡ Fits s = rw led at fits in
    let test = uniform p.map number opcode low high lt in
    rw led (elim (or_true (all_with forms) (all_without forms) (and_left (all_with forms || all_without forms) (list_all takes_example forms) test)) [
      | inl with_modrm ↦ asks forms p m s with_modrm inside
      | inr without ↦ let never : look_forms forms p (Some m) ≡ Refused = none_fits forms p m without in absurd cc
    ])

inside-fits : (p : Prefixes) (number opcode m : ℕ) (s : Shape) → leads_to p number ≡ true → look_forms (forms_at p.map number opcode) p (Some m) ≡ Fits s → look p number opcode (Some m) ≡ Fits s
unfolding look
inside-fits p number opcode m s led inside = rw led inside

pub look-some : (p : Prefixes) (number opcode : ℕ) → 0 < number → number < 13 → opcode < 256 → look p number opcode None ≡ NeedModrm → SomeFits (λ m. look p number opcode (Some m))
unfolding look
look-some p number opcode low high lt asked =
    let led : leads_to p number ≡ true = elim (leads_to p number) as (λ b. cond b (look_forms (forms_at p.map number opcode) p None) Refused ≡ NeedModrm → b ≡ true) [
      | true ↦ λ e. refl
      | false ↦ λ e. absurd cc
    ] asked in
    let forms = forms_at p.map number opcode in
    let inside : look_forms forms p None ≡ NeedModrm = rw led at asked in
    let test = uniform p.map number opcode low high lt in
    elim (or_true (all_with forms) (all_without forms) (and_left (all_with forms || all_without forms) (list_all takes_example forms) test)) [
      | inl with_modrm ↦ let some = some_fits forms p with_modrm (and_right (all_with forms || all_without forms) (list_all takes_example forms) test) inside in
          record { modrm = some.modrm; is_byte = some.is_byte; shape = some.shape; fits = inside-fits p number opcode some.modrm some.shape led some.fits }
      | inr without ↦ absurd (without_asks forms p without inside)
    ]

-- a ModRM byte that is there isn't asked for
never_operand : (o : Operand) (s : Shape) (m : ℕ) → look_operand o (Some m) s ≡ NeedModrm → ⊥
never_operand o s m h = elim (takes o m) as (λ b. cond b (Fits s) Refused ≡ NeedModrm → ⊥) [ true ↦ λ e. cc | false ↦ λ e. cc ] h

never_form : (f : Form) (p : Prefixes) (m : ℕ) → look_form f p (Some m) ≡ NeedModrm → ⊥
never_form f p m h = elim (accepts f.prefixes p) as (λ b. accepts f.prefixes p ≡ b → ⊥) [
  | true ↦ λ e. never_operand f.operand (shape_of f p) m (sym (accepted_form f p (Some m) e) ∙ h)
  | false ↦ λ e. let refused = refused_form f p (Some m) e in cc
] refl

or_else-asks : (a b : Look) → or_else a b ≡ NeedModrm → (a ≡ NeedModrm) ⊎ (b ≡ NeedModrm)
or_else-asks Refused b h = inr h
or_else-asks NeedModrm b h = inl refl
or_else-asks (Fits s) b h = absurd cc

never_forms : (forms : List Form) (p : Prefixes) (m : ℕ) → look_forms forms p (Some m) ≡ NeedModrm → ⊥
never_forms [] p m h = cc
never_forms (f ∷ forms) p m h = elim (or_else-asks (look_form f p (Some m)) (look_forms forms p (Some m)) h) [
  | inl here ↦ never_form f p m here
  | inr there ↦ never_forms forms p m there
]

pub look-never_asks : (p : Prefixes) (number opcode m : ℕ) → look p number opcode (Some m) ≡ NeedModrm → ⊥
unfolding look
look-never_asks p number opcode m h = elim (leads_to p number) as (λ b. cond b (look_forms (forms_at p.map number opcode) p (Some m)) Refused ≡ NeedModrm → ⊥) [
  | true ↦ λ e. never_forms (forms_at p.map number opcode) p m e
  | false ↦ λ e. cc
] h
