-- What is tested of the forms of each opcode of the map: each map is gone through once.
use Rattle.std.proofs.Common.{◌≡◌, ℕ, ◌+◌, ◌*◌, ◌<◌, Bool, true, false, ltb, List, [], ◌∷◌, get_or, refl, sym, ap, ◌∙◌, arith}
use Rattle.std.specs.Prelude.{◌&&◌, ◌||◌, not, Option, Some, None, map}
use Rattle.std.specs.List.{list_all, range_with_len}
use Rattle.std.proofs.lemmas.List.FromFn.{get_or-map-range_with_len}
use Rattle.x86_map.specs.declared.form.Mode.TheVariants.{Either, Memory, Register}
use Rattle.x86_map.specs.declared.form.Operand.{Operand}
use Rattle.x86_map.specs.declared.form.Operand.TheVariants.{NoModrm, Digits, Bytes}
use Rattle.x86_map.specs.declared.form.PrefixUse.{PrefixUse}
use Rattle.x86_map.specs.declared.form.PrefixUse.TheVariants.{Allowed, Required, Forbidden}
use Rattle.x86_map.specs.declared.form.PrefixUses.{PrefixUses}
use Rattle.x86_map.specs.declared.form.Form.{Form}
use Rattle.x86_map.specs.Form.{takes, has_modrm}
use Rattle.x86_map.specs.declared.map.Map.{Map}
use Rattle.x86_map.specs.declared.map.Map.TheVariants.{Base, Whole}
use Rattle.x86_map.specs.OpcodeMap.{base_forms, added_forms, forms_at}
use Rattle.x86_map.proofs.Accepting.{by_number}

-- ---- all have a ModRM byte, or none has

-- a ModRM byte that the operand takes
abbrev pub example : Operand → ℕ
example NoModrm = 0
example (Digits Either first last) = 8 * first
example (Digits Memory first last) = 8 * first
example (Digits Register first last) = 192 + 8 * first
example (Bytes first last) = first

abbrev pub takes_example : Form → Bool
takes_example f = not (has_modrm f.operand) || (takes f.operand (example f.operand) && ltb (example f.operand) 256)

abbrev pub all_with : List Form → Bool
all_with forms = list_all (λ f. has_modrm f.operand) forms

abbrev pub all_without : List Form → Bool
all_without forms = list_all (λ f. not (has_modrm f.operand)) forms

abbrev pub is_uniform : List Form → Bool
is_uniform forms = (all_with forms || all_without forms) && list_all takes_example forms

-- ---- no two fit at once

-- no prefixes meet both uses
abbrev pub conflict : PrefixUse → PrefixUse → Bool
conflict Required Forbidden = true
conflict Required Allowed = false
conflict Required Required = false
conflict Forbidden Required = true
conflict Forbidden Allowed = false
conflict Forbidden Forbidden = false
conflict Allowed r = false

abbrev pub uses_apart : PrefixUses → PrefixUses → Bool
uses_apart r q = conflict r.of_66 q.of_66 || (conflict r.of_f3 q.of_f3 || (conflict r.of_f2 q.of_f2 || conflict r.of_rex_b q.of_rex_b))

-- the operand takes the ModRM byte, or wants none where there is none
abbrev pub takes_modrm : Option ℕ → Operand → Bool
takes_modrm None o = not (has_modrm o)
takes_modrm (Some m) o = takes o m

-- a form of this operand may answer otherwise than by refusing
abbrev pub may_answer : Option ℕ → Operand → Bool
may_answer None o = true
may_answer (Some m) o = takes o m

-- the forms that may answer are apart by their prefixes
abbrev pub apart_from : Option ℕ → Form → List Form → Bool
apart_from modrm f [] = true
apart_from modrm f (g ∷ forms) = (not (may_answer modrm g.operand) || uses_apart f.prefixes g.prefixes) && apart_from modrm f forms

abbrev pub all_apart : Option ℕ → List Form → Bool
all_apart modrm [] = true
all_apart modrm (f ∷ forms) = (not (takes_modrm modrm f.operand) || apart_from modrm f forms) && all_apart modrm forms

abbrev pub are_apart : List Form → Bool
are_apart [] = true
are_apart (f ∷ []) = true
are_apart (f ∷ g ∷ forms) = all_apart None (f ∷ g ∷ forms) && list_all (λ m. all_apart (Some m) (f ∷ g ∷ forms)) (range_with_len 0 256)

-- ---- each opcode

abbrev is_tested : Map → ℕ → ℕ → Bool
is_tested m number opcode = is_uniform (forms_at m number opcode) && are_apart (forms_at m number opcode)

abbrev AreTested : Map → ℕ → Type 0
AreTested m number = map (is_tested m number) (range_with_len 0 256) ≡ map (λ o. true) (range_with_len 0 256)

base_1-tested : AreTested Base 1
unfolding base_forms added_forms
base_1-tested = refl

base_2-tested : AreTested Base 2
unfolding base_forms added_forms
base_2-tested = refl

base_3-tested : AreTested Base 3
unfolding base_forms added_forms
base_3-tested = refl

whole_1-tested : AreTested Whole 1
unfolding base_forms added_forms
whole_1-tested = refl

whole_2-tested : AreTested Whole 2
unfolding base_forms added_forms
whole_2-tested = refl

whole_3-tested : AreTested Whole 3
unfolding base_forms added_forms
whole_3-tested = refl

whole_4-tested : AreTested Whole 4
unfolding base_forms added_forms
whole_4-tested = refl

whole_5-tested : AreTested Whole 5
unfolding base_forms added_forms
whole_5-tested = refl

whole_6-tested : AreTested Whole 6
unfolding base_forms added_forms
whole_6-tested = refl

whole_7-tested : AreTested Whole 7
unfolding base_forms added_forms
whole_7-tested = refl

whole_8-tested : AreTested Whole 8
unfolding base_forms added_forms
whole_8-tested = refl

whole_9-tested : AreTested Whole 9
unfolding base_forms added_forms
whole_9-tested = refl

whole_10-tested : AreTested Whole 10
unfolding base_forms added_forms
whole_10-tested = refl

whole_11-tested : AreTested Whole 11
unfolding base_forms added_forms
whole_11-tested = refl

whole_12-tested : AreTested Whole 12
unfolding base_forms added_forms
whole_12-tested = refl

at_each : (test : ℕ → Bool) (opcode : ℕ) → opcode < 256 → map test (range_with_len 0 256) ≡ map (λ o. true) (range_with_len 0 256) → test opcode ≡ true
at_each test opcode lt same =
    sym (get_or-map-range_with_len test 0 256 opcode opcode false lt (omega arith))
    ∙ ap (λ (bs : List Bool). get_or bs opcode false) same
    ∙ get_or-map-range_with_len (λ o. true) 0 256 opcode opcode false lt (omega arith)

abbrev IsTestedAt : Map → ℕ → ℕ → Type 0
IsTestedAt m opcode number = is_tested m number opcode ≡ true

pub each_opcode : (m : Map) (number opcode : ℕ) → 0 < number → number < 13 → opcode < 256 → (is_uniform (forms_at m number opcode) && are_apart (forms_at m number opcode)) ≡ true
unfolding base_forms added_forms
each_opcode Base number opcode low high lt = by_number (IsTestedAt Base opcode)
    (at_each (is_tested Base 1) opcode lt base_1-tested) (at_each (is_tested Base 2) opcode lt base_2-tested) (at_each (is_tested Base 3) opcode lt base_3-tested)
    refl refl refl refl refl refl refl refl refl number low high
each_opcode Whole number opcode low high lt = by_number (IsTestedAt Whole opcode)
    (at_each (is_tested Whole 1) opcode lt whole_1-tested) (at_each (is_tested Whole 2) opcode lt whole_2-tested) (at_each (is_tested Whole 3) opcode lt whole_3-tested)
    (at_each (is_tested Whole 4) opcode lt whole_4-tested) (at_each (is_tested Whole 5) opcode lt whole_5-tested) (at_each (is_tested Whole 6) opcode lt whole_6-tested)
    (at_each (is_tested Whole 7) opcode lt whole_7-tested) (at_each (is_tested Whole 8) opcode lt whole_8-tested) (at_each (is_tested Whole 9) opcode lt whole_9-tested)
    (at_each (is_tested Whole 10) opcode lt whole_10-tested) (at_each (is_tested Whole 11) opcode lt whole_11-tested) (at_each (is_tested Whole 12) opcode lt whole_12-tested)
    number low high
