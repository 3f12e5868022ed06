-- What reading instructions adds to a list, and to what is kept of a body.
use Rattle.std.specs.Prelude.{◌≡◌, ℕ, ◌++◌, ◌∷◌, [], List, map, filter, All}
use Rattle.operation_defs.specs.declared.insn.Insn.{Insn}
use Rattle.x86_map.specs.declared.map.Map.{Map}
use Rattle.x86_decode.specs.Decoding.{StandsInFront}
use Rattle.x86_text.specs.declared.known.Found.{Found}
use Rattle.x86_text.specs.declared.placed.PlacedInsn.{PlacedInsn}
use Rattle.x86_text.specs.Code.{Body, LeadsTo, may_use_table}
use Rattle.x86_text.specs.Listed.{StandsIn}

-- this is found of the instruction that stands in front of these bytes, which is added to a list
pub record IsAdded (map : Map) (bytes : List ℕ) (before after : List Insn) (found : Found) : Type 0 where
  pub insn : Insn
  pub stands : StandsInFront map bytes insn
  pub long : insn.len ≡ found.len
  pub jumps : may_use_table insn.op ≡ found.may_jump
  pub added : after ≡ before ++ insn ∷ []

-- the instructions of a body from one offset to another are added: their offsets, those that may jump by a table, and all
pub record AddsCode (body : Body) (from to : ℕ) (offsets more_offsets : List ℕ) (jumps more_jumps : List PlacedInsn) (insns more_insns : List Insn) : Type 0 where
  pub code : List PlacedInsn
  pub leads : LeadsTo from code to
  pub each : All (StandsIn body) code
  pub offsets_added : more_offsets ≡ offsets ++ map (λ p. p.off) code
  pub jumps_added : more_jumps ≡ jumps ++ filter (λ p. may_use_table p.insn.op) code
  pub insns_added : more_insns ≡ insns ++ map (λ p. p.insn) code
