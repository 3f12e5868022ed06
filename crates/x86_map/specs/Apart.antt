-- The rows of the map as a set: their order doesn't matter.
use Rattle.std.specs.Prelude.{◌≡◌, ℕ, ◌<◌, List, [], ◌∷◌, Option, IfSome}
use Rattle.std.specs.List.{AllByRecursion}
use Rattle.x86_map.specs.declared.map.Map.{Map}
use Rattle.x86_map.specs.declared.prefixes.Prefixes.{Prefixes}
use Rattle.x86_map.specs.declared.shape.Shape.{Shape}
use Rattle.x86_map.specs.declared.shape.Look.TheVariants.{Refused, Fits}
use Rattle.x86_map.specs.declared.form.Form.{Form}
use Rattle.x86_map.specs.Form.{look_form}
use Rattle.x86_map.specs.OpcodeMap.{forms_at}

-- where one form fits, those behind it refuse
abbrev pub FitsOnce : Prefixes → Option ℕ → List Form → Type 0
FitsOnce p modrm [] = Unit {0}
FitsOnce p modrm (form ∷ forms) =
    ((shape : Shape) → look_form form p modrm ≡ Fits shape → AllByRecursion (λ other. look_form other p modrm ≡ Refused) forms)
    × FitsOnce p modrm forms

-- no two forms of an opcode fit the same prefixes and the same ModRM byte, or none
abbrev pub FormsAreApart : Type 0
FormsAreApart = (map : Map) (p : Prefixes) (number opcode : ℕ) (modrm : Option ℕ) → 0 < number → number < 13 → opcode < 256
    → IfSome modrm (λ m. m < 256) → FitsOnce p modrm (forms_at map number opcode)
