-- What is known of the instructions that a text keeps.
use Rattle.std.specs.Prelude.{◌≡◌, ℕ, ◌+◌, ◌<◌, ◌≤◌, ◌^◌, List, length, drop, All}
use Rattle.std.specs.List.Sorted.{IsNonDecreasingBy}
use Rattle.operation_defs.specs.declared.insn.Insn.{Insn}
use Rattle.x86_decode.specs.Decoding.{StandsInFront}
use Rattle.x86_text.specs.declared.placed.PlacedInsn.{PlacedInsn}
use Rattle.x86_text.specs.Code.{Body, IsBoundary, LeadsTo, code_of, offsets_of, table_jumps_of}

-- the instruction stands there, and no other one does
pub record StandsIn (body : Body) (p : PlacedInsn) : Type 0 where
  pub boundary : IsBoundary body p.off
  pub stands : StandsInFront body.map (drop p.off body.bytes) p.insn
  pub only : (insn : Insn) → StandsInFront body.map (drop p.off body.bytes) insn → insn ≡ p.insn
  pub within : p.off + p.insn.len ≤ length body.bytes

-- the instructions of the whole body
pub record IsListing (body : Body) (code : List PlacedInsn) : Type 0 where
  pub same : code ≡ code_of body
  pub each : All (StandsIn body) code
  pub whole : LeadsTo 0 code (length body.bytes)
  pub some : All (λ p. 0 < p.insn.len) code
  pub ascending : IsNonDecreasingBy (λ p. p.off) code
  pub few : length code < 2 ^ 32

-- what is kept of them: where they begin, and those that jump by a table
pub record IsKept (body : Body) (offsets : List ℕ) (jumps : List PlacedInsn) : Type 0 where
  pub listing : IsListing body (code_of body)
  pub all_offsets : offsets ≡ offsets_of body
  pub all_jumps : jumps ≡ table_jumps_of body
