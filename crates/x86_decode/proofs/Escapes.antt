-- What the opcode map says of prefixes and escapes: they are no opcodes.
use Rattle.std.proofs.Common.{◌≡◌, ℕ, ◌<◌, Bool, true, false, cond, eqb, List, [], ◌∷◌, get_or, refl, sym, ap, ◌∙◌, arith, zero, suc}
use Rattle.std.specs.Prelude.{◌||◌, not, Option, map}
use Rattle.std.specs.List.{range_with_len}
use Rattle.std.proofs.lemmas.List.FromFn.{get_or-map-range_with_len}
use Rattle.x86_map.specs.declared.map.Map.{Map}
use Rattle.x86_map.specs.declared.map.Map.TheVariants.{Base, Whole}
use Rattle.x86_map.specs.declared.prefixes.Prefixes.{Prefixes}
use Rattle.x86_map.specs.declared.shape.Shape.{Shape}
use Rattle.x86_map.specs.declared.shape.Look.TheVariants.{Refused, Fits}
use Rattle.x86_map.specs.declared.form.Form.{Form}
use Rattle.x86_map.specs.Prefixes.{is_rex, leads_to}
use Rattle.x86_map.specs.OpcodeMap.{base_forms, added_forms, forms_at, look_forms, look}
use Rattle.x86_decode.specs.Prefix.{is_legacy}
use Rattle.x86_decode.specs.Reading.{is_vector_escape}

abbrev pub is_prefix_or_escape : ℕ → Bool
is_prefix_or_escape o = (is_legacy o || is_rex o) || (eqb o 0x0F || is_vector_escape o)

abbrev is_empty : List Form → Bool
is_empty [] = true
is_empty (f ∷ fs) = false

prefixes_table : (m : Map) → map (λ o. not (is_prefix_or_escape o) || is_empty (forms_at m 1 o)) (range_with_len 0 256) ≡ map (λ o. true) (range_with_len 0 256)
unfolding base_forms added_forms
prefixes_table Base = refl
prefixes_table Whole = refl

empty_at : (m : Map) (opcode : ℕ) → opcode < 256 → (not (is_prefix_or_escape opcode) || is_empty (forms_at m 1 opcode)) ≡ true
empty_at m opcode lt =
    sym (get_or-map-range_with_len (λ o. not (is_prefix_or_escape o) || is_empty (forms_at m 1 o)) 0 256 opcode opcode false lt (omega arith))
    ∙ ap (λ (bs : List Bool). get_or bs opcode false) (prefixes_table m)
    ∙ get_or-map-range_with_len (λ o. true) 0 256 opcode opcode false lt (omega arith)

nothing_fits : (forms : List Form) (p : Prefixes) (modrm : Option ℕ) (s : Shape) → is_empty forms ≡ true → look_forms forms p modrm ≡ Fits s → ⊥
nothing_fits [] p modrm s h fits = cc
nothing_fits (f ∷ fs) p modrm s h fits = cc

-- what fits in the one-byte map is no prefix and no escape
pub fits-no_prefix : (p : Prefixes) (opcode : ℕ) (modrm : Option ℕ) (s : Shape) → opcode < 256 → look p 1 opcode modrm ≡ Fits s → is_prefix_or_escape opcode ≡ false
unfolding look
fits-no_prefix p opcode modrm s lt fits =
    elim (is_prefix_or_escape opcode) as (λ b. (not b || is_empty (forms_at p.map 1 opcode)) ≡ true → b ≡ false) [
      | false ↦ λ h. refl
      | true ↦ λ h. absurd (elim (leads_to p 1) as (λ v. cond v (look_forms (forms_at p.map 1 opcode) p modrm) Refused ≡ Fits s → ⊥) [
        | true ↦ λ e. nothing_fits (forms_at p.map 1 opcode) p modrm s h e
        | false ↦ λ e. cc
      ] fits)
    ] (empty_at p.map opcode lt)

-- no opcode is refused
no_forms : (p : Prefixes) (number opcode : ℕ) (modrm : Option ℕ) → forms_at p.map number opcode ≡ [] → look p number opcode modrm ≡ Refused
unfolding look
no_forms p number opcode modrm none = elim (leads_to p number) as (λ v. cond v (look_forms (forms_at p.map number opcode) p modrm) Refused ≡ Refused) [
  | true ↦ ap (λ (forms : List Form). look_forms forms p modrm) none
  | false ↦ refl
]

none_at_38 : (m : Map) → forms_at m 2 0x38 ≡ []
unfolding base_forms added_forms
none_at_38 Base = refl
none_at_38 Whole = refl

none_at_3A : (m : Map) → forms_at m 2 0x3A ≡ []
unfolding base_forms added_forms
none_at_3A Base = refl
none_at_3A Whole = refl

none_at_0 : (m : Map) (opcode : ℕ) → forms_at m 0 opcode ≡ []
unfolding base_forms added_forms
none_at_0 Base opcode = refl
none_at_0 Whole opcode = refl

-- 0F 38 and 0F 3A are no two-byte opcodes
pub escape-refused : (p : Prefixes) (modrm : Option ℕ) → look p 2 0x38 modrm ≡ Refused
escape-refused p modrm = no_forms p 2 0x38 modrm (none_at_38 p.map)

pub escape_3A-refused : (p : Prefixes) (modrm : Option ℕ) → look p 2 0x3A modrm ≡ Refused
escape_3A-refused p modrm = no_forms p 2 0x3A modrm (none_at_3A p.map)

-- what fits is in a map that has a number
pub fits-number : (p : Prefixes) (number opcode : ℕ) (modrm : Option ℕ) (s : Shape) → look p number opcode modrm ≡ Fits s → 0 < number
fits-number p zero opcode modrm s fits = let refused : look p 0 opcode modrm ≡ Refused = no_forms p 0 opcode modrm (none_at_0 p.map opcode) in absurd cc
fits-number p (suc number) opcode modrm s fits = omega arith

not_true : (b : Bool) → not b ≡ true → b ≡ false
not_true true h = absurd cc
not_true false h = refl

rex_table : map (λ o. not (is_rex o) || not (is_legacy o)) (range_with_len 0 256) ≡ map (λ o. true) (range_with_len 0 256)
rex_table = refl

-- a REX is no legacy prefix
pub rex-no_legacy : (b : ℕ) → b < 256 → is_rex b ≡ true → is_legacy b ≡ false
rex-no_legacy b lt h =
    let at : (not (is_rex b) || not (is_legacy b)) ≡ true =
    sym (get_or-map-range_with_len (λ o. not (is_rex o) || not (is_legacy o)) 0 256 b b false lt (omega arith))
    ∙ ap (λ (bs : List Bool). get_or bs b false) rex_table
    ∙ get_or-map-range_with_len (λ o. true) 0 256 b b false lt (omega arith) in
    not_true (is_legacy b) (rw h at at)
