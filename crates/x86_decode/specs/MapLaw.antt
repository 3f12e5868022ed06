-- What the opcode map says, in terms of spellings.
use Rattle.std.specs.Prelude.{◌≡◌, ℕ, ◌<◌, ◌↔◌, ◌⊎◌, List, Option, Some, None, IfSome}
use Rattle.std.specs.List.{AllByRecursion}
use Rattle.operation_defs.specs.declared.insn.Insn.{Insn}
use Rattle.x86_map.specs.declared.map.Map.TheVariants.{Base, Whole}
use Rattle.x86_map.specs.declared.prefixes.Prefixes.{Prefixes}
use Rattle.x86_map.specs.declared.shape.Shape.{Shape}
use Rattle.x86_map.specs.declared.shape.Look.TheVariants.{Refused, NeedModrm, Fits}
use Rattle.x86_map.specs.Vector.{payload}
use Rattle.x86_map.specs.OpcodeMap.{look}
use Rattle.x86_decode.specs.Spelling.{map_of, byte_of, prefixes_in, Spells}
use Rattle.x86_decode.specs.Emulation.{IsEmulated}
use Rattle.x86_decode.specs.Decoding.{StandsInFront, ud2}

-- a spelling of the map that p asks has these prefixes, this opcode, and this ModRM byte or none
pub record SpelledWith (p : Prefixes) (number opcode : ℕ) (modrm : Option ℕ) : Type 0 where
  pub bytes : List ℕ
  pub insn : Insn
  pub spells : Spells p.map bytes insn
  pub prefixes : prefixes_in p.map spells.parts ≡ p
  pub in_map : map_of spells.parts.opcode ≡ number
  pub at_opcode : byte_of spells.parts.opcode ≡ opcode
  pub with_modrm : spells.parts.operands.modrm ≡ modrm

pub record IsExactAt (p : Prefixes) (number opcode : ℕ) : Type 0 where
  -- what fits is spelled, and what is spelled fits
  pub fits : (modrm : Option ℕ) → IfSome modrm (λ m. m < 256)
      → ((shape : Shape) × (look p number opcode modrm ≡ Fits shape)) ↔ SpelledWith p number opcode modrm
  -- a ModRM byte is asked for where some spelling has one
  pub asks : (look p number opcode None ≡ NeedModrm) ↔ ((m : ℕ) × SpelledWith p number opcode (Some m))
  -- an opcode is refused where no spelling has it, and a ModRM byte where no spelling has that
  pub refuses : (look p number opcode None ≡ Refused) ↔ ((modrm : Option ℕ) → SpelledWith p number opcode modrm → ⊥)
  pub refuses_byte : (m : ℕ) → m < 256 → (look p number opcode (Some m) ≡ Refused) ↔ (SpelledWith p number opcode (Some m) → ⊥)

-- VEX and EVEX are made of bytes
abbrev pub VectorIsBytes : Prefixes → Type 0
VectorIsBytes p = IfSome p.vector (λ v. AllByRecursion (λ b. b < 256) (payload v))

abbrev pub MapIsExact : Type 0
MapIsExact = (p : Prefixes) (number opcode : ℕ) → 0 < number → number < 13 → opcode < 256 → VectorIsBytes p → IsExactAt p number opcode

-- what the base map spells, the whole map spells alike
abbrev pub WholeExtendsBase : Type 0
WholeExtendsBase = (bytes : List ℕ) (insn : Insn) → Spells Base bytes insn → Spells Whole bytes insn

-- what stands in front by the base map stands there by the whole map, but for a ud2 with which an emulated instruction begins
abbrev pub WholeStandsAlike : Type 0
WholeStandsAlike =
    (bytes : List ℕ) (insn : Insn) → AllByRecursion (λ b. b < 256) bytes → StandsInFront Base bytes insn
    → StandsInFront Whole bytes insn ⊎ ((insn ≡ ud2) × (other : Insn) × IsEmulated Whole bytes other)
