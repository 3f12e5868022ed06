-- Looking into the opcode map.
use Rattle.std.specs.Prelude.{◌≢◌, ℕ, ◌<◌, Bool, true, false, not, ◌&&◌, ◌||◌, ◌==◌, if◌then◌else◌, List, [], ◌∷◌, ◌++◌, map, filter, Option, None}
use Rattle.x86_map.specs.declared.map.Map.{Map}
use Rattle.x86_map.specs.declared.map.Map.TheVariants.{Base, Whole}
use Rattle.x86_map.specs.declared.prefixes.Prefixes.{Prefixes}
use Rattle.x86_map.specs.declared.shape.Look.{Look}
use Rattle.x86_map.specs.declared.shape.Look.TheVariants.{Refused, NeedModrm, Fits}
use Rattle.x86_map.specs.declared.form.Form.{Form}
use Rattle.x86_map.specs.Prefixes.{under_66, under_F3, under_F2, leads_to}
use Rattle.x86_map.specs.Form.{look_form}
use Rattle.x86_map.specs.Row.{Row}
use Rattle.x86_map.specs.OneByte.{one_byte_map}
use Rattle.x86_map.specs.TwoByte.{two_byte_map}
use Rattle.x86_map.specs.ThreeByte.{three_byte_map}
use Rattle.x86_map.specs.Extension.{extension_rows}

-- the forms of an opcode, which part by ModRM byte and prefixes
abbrev pub forms_in : List Row → ℕ → List Form
forms_in rows opcode = map (λ r. r.form) (filter (λ r. r.opcodes opcode) rows)

-- Numbers of maps: 1 is the one-byte map, 2 the map behind 0F, 3 that behind 0F 38, 4 that behind 0F 3A; 5 to 7 are the maps 1 to 3
-- of VEX, 8 to 12 the maps 1, 2, 3, 5 and 6 of EVEX.
abbrev pub base_rows : ℕ → List Row
base_rows number =
    if number == 1 then one_byte_map
    else (if number == 2 then two_byte_map
    else (if number == 3 then three_byte_map else []))

-- the rows that a map has beside those of the base map
abbrev pub added_rows : Map → ℕ → List Row
added_rows Base number = []
added_rows Whole number = extension_rows number

unfoldable pub base_forms : ℕ → ℕ → List Form
base_forms number opcode = forms_in (base_rows number) opcode

unfoldable pub added_forms : Map → ℕ → ℕ → List Form
added_forms map number opcode = forms_in (added_rows map number) opcode

abbrev pub forms_at : Map → ℕ → ℕ → List Form
forms_at map number opcode = base_forms number opcode ++ added_forms map number opcode

-- what the form that doesn't refuse says, if there is one
abbrev pub or_else : Look → Look → Look
or_else Refused other = other
or_else NeedModrm other = NeedModrm
or_else (Fits shape) other = Fits shape

abbrev pub look_forms : List Form → Prefixes → Option ℕ → Look
look_forms [] p modrm = Refused
look_forms (form ∷ forms) p modrm = or_else (look_form form p modrm) (look_forms forms p modrm)

-- What the map says of prefixes and an opcode, and of a ModRM byte or of none.
unfoldable pub look : Prefixes → ℕ → ℕ → Option ℕ → Look
look p number opcode modrm =
    if leads_to p number then look_forms (forms_at p.map number opcode) p modrm else Refused

-- some opcode of the map stands with these prefixes
abbrev pub AcceptsSome : Prefixes → ℕ → Type 0
AcceptsSome p number = (opcode : ℕ) × (opcode < 256) × (look p number opcode None ≢ Refused)

-- The test for it: 66 and F2 leave no opcode behind 0F, F3 with one of them none behind 0F 38, F2 or F3 none behind 0F 3A, and in
-- map 3 of VEX some opcode stands under 66 and under F2 alone.
abbrev pub stands_added : Map → Prefixes → ℕ → Bool
stands_added Base p number = false
stands_added Whole p number =
    if number == 4 then not (under_F2 p) && not (under_F3 p)
    else (if number == 7 then under_66 p || under_F2 p else true)

abbrev pub stands_in : Prefixes → ℕ → Bool
stands_in p number =
    if number == 1 then true
    else (if number == 2 then not (under_F2 p && under_66 p)
    else (if number == 3 then not (under_F3 p) || not (under_66 p || under_F2 p) else stands_added p.map p number))

abbrev pub stands : Prefixes → ℕ → Bool
stands p number = leads_to p number && stands_in p number
