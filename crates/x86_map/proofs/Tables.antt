-- The code's tables have the forms of the map, opcode by opcode.
use Rattle.std.proofs.Common.{◌≡◌, ℕ, ◌<◌, List, get_or, sym, ap, ◌∙◌, arith, length, Bor}
use Rattle.std.specs.Prelude.{map}
use Rattle.std.specs.List.{range_with_len}
use Rattle.std.proofs.lemmas.List.FromFn.{get_or-map-range_with_len}
use Rattle.std.proofs.lemmas.List.{get_or-map}
use Rattle.x86_map.specs.declared.form.Form.{Form}
use Rattle.x86_map.specs.OpcodeMap.{base_forms}

-- what stands at each place of a table that has the forms of a map
pub at_each : (table : List (Bor (List Form))) (number opcode : ℕ) (other : Bor (List Form)) → length table ≡ 256
    → map (λ forms. forms.now) table ≡ map (base_forms number) (range_with_len 0 256) → opcode < 256
    → (get_or table opcode other).now ≡ base_forms number opcode
at_each table number opcode other len same lt =
    let in_table : opcode < length table = omega arith in
    sym (get_or-map (λ (forms : Bor (List Form)). forms.now) table opcode other other.now in_table)
    ∙ ap (λ (fs : List (List Form)). get_or fs opcode other.now) same
    ∙ get_or-map-range_with_len (base_forms number) 0 256 opcode opcode other.now lt (omega arith)
