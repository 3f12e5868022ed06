-- Looking among forms, part by part.
use Rattle.std.proofs.Common.{◌≡◌, ℕ, List, [], ◌∷◌, ◌++◌, refl}
use Rattle.std.specs.Prelude.{Option}
use Rattle.x86_map.specs.declared.prefixes.Prefixes.{Prefixes}
use Rattle.x86_map.specs.declared.shape.Look.{Look}
use Rattle.x86_map.specs.declared.shape.Look.TheVariants.{Refused, NeedModrm, Fits}
use Rattle.x86_map.specs.declared.form.Form.{Form}
use Rattle.x86_map.specs.Form.{look_form}
use Rattle.x86_map.specs.OpcodeMap.{or_else, look_forms}

or_else-again : (a b c : Look) → or_else a (or_else b c) ≡ or_else (or_else a b) c
or_else-again Refused b c = refl
or_else-again NeedModrm b c = refl
or_else-again (Fits shape) b c = refl

pub look_append : (forms more : List Form) (p : Prefixes) (modrm : Option ℕ) → look_forms (forms ++ more) p modrm ≡ or_else (look_forms forms p modrm) (look_forms more p modrm)
look_append [] more p modrm = refl
look_append (form ∷ forms) more p modrm = rw (look_append forms more p modrm) (or_else-again (look_form form p modrm) (look_forms forms p modrm) (look_forms more p modrm))
