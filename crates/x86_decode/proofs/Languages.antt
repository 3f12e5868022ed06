-- What may follow at each stage of reading, and what reading answers of it.
use Rattle.std.proofs.Common.{◌≡◌, ℕ, ◌+◌, ◌<◌, Bool, true, false, eqb, ltb, List, [], ◌∷◌, ◌++◌, length, take, drop, Option, Some, None, Ok, Err, refl, ap, inl, inr, arith}
use Rattle.std.specs.Prelude.{◌⊎◌, ◌||◌}
use Rattle.std.specs.List.{AllByRecursion}
use Rattle.operation_defs.specs.declared.insn.Insn.{Insn}
use Rattle.x86_map.specs.declared.vector.Vector.{Vector}
use Rattle.x86_map.specs.declared.vector.Vector.TheVariants.{Vex2, Vex3, Evex}
use Rattle.x86_map.specs.declared.prefixes.Prefixes.{Prefixes}
use Rattle.x86_map.specs.declared.shape.Shape.{Shape}
use Rattle.x86_map.specs.declared.shape.Look.{Look}
use Rattle.x86_map.specs.declared.shape.Look.TheVariants.{Refused, NeedModrm, Fits}
use Rattle.x86_map.specs.Vector.{vex_number, evex_number, is_evex_second, number_of}
use Rattle.x86_map.specs.Prefixes.{is_rex}
use Rattle.x86_map.specs.OpcodeMap.{look, stands}
use Rattle.x86_decode.specs.declared.reading.ReadStop.TheVariants.{Dead, More}
use Rattle.x86_decode.specs.Prefix.{is_legacy}
use Rattle.x86_decode.specs.Spelling.{has_sib, displacement_len}
use Rattle.x86_decode.specs.Reading.{Read, finished, with_vector, opens_vector, with_rex, noted}

abbrev pub IsBytes : List ℕ → Type 0
IsBytes = AllByRecursion (λ b. b < 256)

-- which bytes spell which instruction
abbrev pub Language : Type 1
Language = List ℕ → Insn → Type 0

-- ---- the languages of the stages

abbrev pub Chosen : Bool → Type 0 → Type 0 → Type 0
Chosen true P Q = P
Chosen false P Q = Q

abbrev pub EndsIn : Prefixes → ℕ → ℕ → Option ℕ → Option ℕ → Shape → ℕ → Language
EndsIn p number opcode modrm sib shape before bytes insn =
    (length bytes ≡ displacement_len modrm sib + shape.imm)
    × (insn ≡ finished p number opcode modrm sib shape before (take (displacement_len modrm sib) bytes) (take shape.imm (drop (displacement_len modrm sib) bytes)))

abbrev pub AfterModrm : Prefixes → ℕ → ℕ → ℕ → Shape → ℕ → Bool → Language
AfterModrm p number opcode modrm shape before false bytes insn = EndsIn p number opcode (Some modrm) None shape before bytes insn
AfterModrm p number opcode modrm shape before true [] insn = ⊥
AfterModrm p number opcode modrm shape before true (sib ∷ bytes) insn = EndsIn p number opcode (Some modrm) (Some sib) shape before bytes insn

abbrev pub ModrmFits : Look → Prefixes → ℕ → ℕ → ℕ → ℕ → Language
ModrmFits Refused p number opcode modrm before bytes insn = ⊥
ModrmFits NeedModrm p number opcode modrm before bytes insn = ⊥
ModrmFits (Fits shape) p number opcode modrm before bytes insn = AfterModrm p number opcode modrm shape before (has_sib (Some modrm)) bytes insn

abbrev pub FromModrm : Prefixes → ℕ → ℕ → ℕ → Language
FromModrm p number opcode before [] insn = ⊥
FromModrm p number opcode before (modrm ∷ bytes) insn = ModrmFits (look p number opcode (Some modrm)) p number opcode modrm before bytes insn

abbrev pub OperandsBy : Look → Prefixes → ℕ → ℕ → ℕ → Language
OperandsBy Refused p number opcode before bytes insn = ⊥
OperandsBy NeedModrm p number opcode before bytes insn = FromModrm p number opcode before bytes insn
OperandsBy (Fits shape) p number opcode before bytes insn = EndsIn p number opcode None None shape before bytes insn

abbrev pub AfterOpcode : Prefixes → ℕ → ℕ → ℕ → Language
AfterOpcode p number opcode before bytes insn = OperandsBy (look p number opcode None) p number opcode before bytes insn

-- an opcode of the map of this number
abbrev pub MapIn : Prefixes → ℕ → ℕ → Language
MapIn p number seen [] insn = ⊥
MapIn p number seen (opcode ∷ bytes) insn = AfterOpcode p number opcode (seen + 1) bytes insn

abbrev pub FromMap : Prefixes → ℕ → ℕ → Language
FromMap p number seen bytes insn = Chosen (stands p number) (MapIn p number seen bytes insn) ⊥

abbrev pub TwoByteIn : Prefixes → ℕ → Language
TwoByteIn p seen [] insn = ⊥
TwoByteIn p seen (opcode ∷ bytes) insn =
    Chosen (eqb opcode 0x38) (FromMap p 3 (seen + 1) bytes insn) (Chosen (eqb opcode 0x3A) (FromMap p 4 (seen + 1) bytes insn) (AfterOpcode p 2 opcode (seen + 1) bytes insn))

abbrev pub FromTwoByte : Prefixes → ℕ → Language
FromTwoByte p seen bytes insn = Chosen (stands p 2 || (stands p 3 || stands p 4)) (TwoByteIn p seen bytes insn) ⊥

-- behind VEX or EVEX
abbrev pub BehindVector : Prefixes → Vector → ℕ → Language
BehindVector p v seen bytes insn = FromMap (with_vector p v) (number_of v) seen bytes insn

abbrev pub Vex2In : Prefixes → ℕ → Language
Vex2In p seen [] insn = ⊥
Vex2In p seen (a ∷ bytes) insn = BehindVector p (Vex2 a) (seen + 1) bytes insn

abbrev pub Vex3Second : Prefixes → ℕ → ℕ → Language
Vex3Second p a seen [] insn = ⊥
Vex3Second p a seen (b ∷ bytes) insn = BehindVector p (Vex3 a b) (seen + 1) bytes insn

abbrev pub Vex3In : Prefixes → ℕ → Language
Vex3In p seen [] insn = ⊥
Vex3In p seen (a ∷ bytes) insn = Chosen (ltb 0 (vex_number a)) (Vex3Second p a (seen + 1) bytes insn) ⊥

abbrev pub EvexThird : Prefixes → ℕ → ℕ → ℕ → Language
EvexThird p a b seen [] insn = ⊥
EvexThird p a b seen (c ∷ bytes) insn = BehindVector p (Evex a b c) (seen + 1) bytes insn

abbrev pub EvexSecond : Prefixes → ℕ → ℕ → Language
EvexSecond p a seen [] insn = ⊥
EvexSecond p a seen (b ∷ bytes) insn = Chosen (is_evex_second b) (EvexThird p a b (seen + 1) bytes insn) ⊥

abbrev pub EvexIn : Prefixes → ℕ → Language
EvexIn p seen [] insn = ⊥
EvexIn p seen (a ∷ bytes) insn = Chosen (ltb 0 (evex_number a)) (EvexSecond p a (seen + 1) bytes insn) ⊥

abbrev pub Escaped : ℕ → Prefixes → ℕ → Language
Escaped b p seen bytes insn = Chosen (eqb b 0xC5) (Vex2In p seen bytes insn) (Chosen (eqb b 0xC4) (Vex3In p seen bytes insn) (EvexIn p seen bytes insn))

abbrev pub OpcodeBy : ℕ → Prefixes → ℕ → Language
OpcodeBy opcode p seen bytes insn =
    Chosen (eqb opcode 0x0F) (FromTwoByte p seen bytes insn) (Chosen (opens_vector p opcode) (Escaped opcode p seen bytes insn) (AfterOpcode p 1 opcode seen bytes insn))

abbrev pub FromOpcode : Prefixes → ℕ → Language
FromOpcode p seen [] insn = ⊥
FromOpcode p seen (opcode ∷ bytes) insn = OpcodeBy opcode p (seen + 1) bytes insn

abbrev pub RexBy : ℕ → Prefixes → ℕ → Language
RexBy b p seen bytes insn = Chosen (is_rex b) (FromOpcode (with_rex p b) seen bytes insn) (OpcodeBy b p seen bytes insn)

abbrev pub FromPrefixes : Prefixes → ℕ → Language
FromPrefixes p seen [] insn = ⊥
FromPrefixes p seen (b ∷ bytes) insn =
    Chosen (is_legacy b) (FromPrefixes (noted b p) (seen + 1) bytes insn) (RexBy b p (seen + 1) bytes insn)

-- ---- what a reader's answer says

abbrev pub Begins : Language → List ℕ → Type 0
Begins L front = (rest : List ℕ) × (insn : Insn) × (0 < length rest) × IsBytes rest × L (front ++ rest) insn

abbrev pub Never : Language → List ℕ → Type 0
Never L front = (rest : List ℕ) (insn : Insn) → L (front ++ rest) insn → ⊥

-- these bytes begin something, and with one more they don't
abbrev pub DiesWithin : Language → ℕ → List ℕ → ℕ → Type 0
DiesWithin L seen bytes dead =
    (front : List ℕ) × (b : ℕ) × (rest : List ℕ) × (bytes ≡ front ++ b ∷ rest) × (dead ≡ seen + length front + 1)
    × Begins L front × Never L (front ++ b ∷ [])

abbrev pub Verdict : Language → ℕ → List ℕ → Read → Type 0
Verdict L seen bytes (Ok insn) = (text : List ℕ) × (rest : List ℕ) × (bytes ≡ text ++ rest) × L text insn × (insn.len ≡ seen + length text)
Verdict L seen bytes (Err More) = Begins L bytes
Verdict L seen bytes (Err (Dead dead)) = ((dead ≡ seen) × Never L []) ⊎ DiesWithin L seen bytes dead

-- one byte more in front
pub verdict_cons : (L K : Language) (seen b : ℕ) (bytes : List ℕ) (r : Read)
    → ((text : List ℕ) (insn : Insn) → K text insn → L (b ∷ text) insn)
    → ((text : List ℕ) (insn : Insn) → L (b ∷ text) insn → K text insn)
    → Begins L []
    → Verdict K (seen + 1) bytes r → Verdict L seen (b ∷ bytes) r
verdict_cons L K seen b bytes (Ok insn) to from start v =
    (b ∷ v.0, v.1, ap (λ (t : List ℕ). b ∷ t) v.2, to v.0 insn v.3, omega (arith, v.4))
verdict_cons L K seen b bytes (Err More) to from start v = (v.0, v.1, v.2, v.3, to (bytes ++ v.0) v.1 v.4)
verdict_cons L K seen b bytes (Err (Dead dead)) to from start (inl v) =
    inr ([], b, bytes, refl, omega (arith, v.0), start, λ rest insn h. v.1 rest insn (from rest insn h))
verdict_cons L K seen b bytes (Err (Dead dead)) to from start (inr v) =
    inr (
      b ∷ v.0,
      v.1,
      v.2,
      ap (λ (t : List ℕ). b ∷ t) v.3,
      omega (arith, v.4),
      (v.5.0, v.5.1, v.5.2, v.5.3, to (v.0 ++ v.5.0) v.5.1 v.5.4),
      λ rest insn h. v.6 rest insn (from ((v.0 ++ v.1 ∷ []) ++ rest) insn h),
    )
