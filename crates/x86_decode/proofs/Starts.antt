-- Each stage of reading can go on to an instruction.
use Rattle.std.proofs.Common.{◌≡◌, ◌≢◌, ℕ, ◌+◌, ◌<◌, Bool, true, false, eqb, List, [], ◌∷◌, take, drop, replicate, Option, Some, None, refl, sym, subst, inl, inr, arith, zero, suc}
use Rattle.std.specs.Prelude.{◌&&◌, ◌||◌}
use Rattle.std.proofs.lemmas.Bool.{eqb-true}
use Rattle.std.proofs.lemmas.List.{length-replicate}
use Rattle.operation_defs.specs.declared.insn.Insn.{Insn}
use Rattle.x86_map.specs.declared.vector.Vector.{Vector}
use Rattle.x86_map.specs.declared.vector.Vector.TheVariants.{Vex2, Vex3, Evex}
use Rattle.x86_map.specs.declared.prefixes.Prefixes.{Prefixes}
use Rattle.x86_map.specs.declared.shape.Shape.{Shape}
use Rattle.x86_map.specs.declared.shape.Look.{Look}
use Rattle.x86_map.specs.declared.shape.Look.TheVariants.{Refused, NeedModrm, Fits}
use Rattle.x86_map.specs.Vector.{pp, vex_number, evex_number, is_evex_second, number_of}
use Rattle.x86_map.specs.Prefixes.{is_bare, leads_to}
use Rattle.x86_map.specs.OpcodeMap.{look, stands}
use Rattle.x86_map.proofs.Accepting.{plain, look-hlt, stands_is, or_true, and_false}
use Rattle.x86_map.proofs.Modrm.{look-some}
use Rattle.x86_decode.specs.Spelling.{has_sib, displacement_len}
use Rattle.x86_decode.specs.Reading.{finished, with_vector, is_whole, opens_vector}
use Rattle.x86_decode.proofs.Escapes.{escape-refused, escape_3A-refused}
use Rattle.x86_decode.proofs.Vectors.{evex_range, evex_number_of, number_range, vector_stands}
use Rattle.x86_decode.proofs.Languages.{IsBytes, Language, Chosen, EndsIn, AfterModrm, ModrmFits, FromModrm, OperandsBy, AfterOpcode, MapIn, FromMap, TwoByteIn, BehindVector, Vex2In, Vex3Second, Vex3In, EvexThird, EvexSecond, EvexIn, Escaped, FromOpcode, FromPrefixes, Begins}

-- something is in the language
abbrev pub Has : Language → Type 0
Has L = (text : List ℕ) × (insn : Insn) × IsBytes text × L text insn

pub zeros-bytes : (n : ℕ) → IsBytes (replicate n 0)
zeros-bytes zero = tt
zeros-bytes (suc n) = (omega arith, zeros-bytes n)

pub begins_cons : (L : Language) (b : ℕ) (text : List ℕ) (insn : Insn) → b < 256 → IsBytes text → L (b ∷ text) insn → Begins L []
begins_cons L b text insn lt bytes h = (b ∷ text, insn, omega arith, (lt, bytes), h)

pub has_end : (p : Prefixes) (number opcode : ℕ) (modrm sib : Option ℕ) (shape : Shape) (before : ℕ) → Has (EndsIn p number opcode modrm sib shape before)
has_end p number opcode modrm sib shape before =
    let n = displacement_len modrm sib + shape.imm in
    let text : List ℕ = replicate n 0 in
    (text, finished p number opcode modrm sib shape before (take (displacement_len modrm sib) text) (take shape.imm (drop (displacement_len modrm sib) text)), zeros-bytes n, (length-replicate n 0, refl))

pub has_after_modrm : (p : Prefixes) (number opcode modrm : ℕ) (shape : Shape) (before : ℕ) (b : Bool) → Has (AfterModrm p number opcode modrm shape before b)
has_after_modrm p number opcode modrm shape before false = has_end p number opcode (Some modrm) None shape before
has_after_modrm p number opcode modrm shape before true =
    let rest = has_end p number opcode (Some modrm) (Some 0) shape before in
    (0 ∷ rest.0, rest.1, (omega arith, rest.2), rest.3)

pub start_after_modrm : (p : Prefixes) (number opcode modrm : ℕ) (shape : Shape) (before : ℕ) → Begins (AfterModrm p number opcode modrm shape before true) []
start_after_modrm p number opcode modrm shape before =
    let rest = has_end p number opcode (Some modrm) (Some 0) shape before in
    (0 ∷ rest.0, rest.1, omega arith, (omega arith, rest.2), rest.3)

pub start_modrm : (p : Prefixes) (number opcode before : ℕ) → 0 < number → number < 13 → opcode < 256 → look p number opcode None ≡ NeedModrm → Begins (FromModrm p number opcode before) []
start_modrm p number opcode before low high lt asked =
    let some = look-some p number opcode low high lt asked in
    let rest = has_after_modrm p number opcode some.modrm some.shape before (has_sib (Some some.modrm)) in
    begins_cons (FromModrm p number opcode before) some.modrm rest.0 rest.1 some.is_byte rest.2
    (subst (λ (l : Look). ModrmFits l p number opcode some.modrm before rest.0 rest.1) (sym some.fits) rest.3)

has_operands_by : (l : Look) (p : Prefixes) (number opcode before : ℕ) → 0 < number → number < 13 → opcode < 256 → look p number opcode None ≡ l → l ≢ Refused → Has (OperandsBy l p number opcode before)
has_operands_by Refused p number opcode before low high lt is not_refused = absurd (not_refused refl)
has_operands_by NeedModrm p number opcode before low high lt is not_refused =
    let start = start_modrm p number opcode before low high lt is in
    (start.0, start.1, start.3, start.4)
has_operands_by (Fits shape) p number opcode before low high lt is not_refused = has_end p number opcode None None shape before

pub has_operands : (p : Prefixes) (number opcode before : ℕ) → 0 < number → number < 13 → opcode < 256 → look p number opcode None ≢ Refused → Has (AfterOpcode p number opcode before)
has_operands p number opcode before low high lt not_refused = has_operands_by (look p number opcode None) p number opcode before low high lt refl not_refused

pub start_map_in : (p : Prefixes) (number seen : ℕ) → 0 < number → number < 13 → stands p number ≡ true → Begins (MapIn p number seen) []
start_map_in p number seen low high opens =
    let some = (stands_is p number low high).0 opens in
    let rest = has_operands p number some.0 (seen + 1) low high some.1 some.2 in
    begins_cons (MapIn p number seen) some.0 rest.0 rest.1 some.1 rest.2 rest.3

pub has_map : (p : Prefixes) (number seen : ℕ) → 0 < number → number < 13 → stands p number ≡ true → Has (FromMap p number seen)
has_map p number seen low high opens =
    let start = start_map_in p number seen low high opens in
    (start.0, start.1, start.3, subst (λ (b : Bool). Chosen b (MapIn p number seen start.0 start.1) ⊥) (sym opens) start.4)

-- an opcode that isn't another escape
not_escape : (p : Prefixes) (opcode escape : ℕ) → look p 2 escape None ≡ Refused → look p 2 opcode None ≢ Refused → eqb opcode escape ≡ false
not_escape p opcode escape none not_refused = elim (eqb opcode escape) as (λ b. eqb opcode escape ≡ b → b ≡ false) [
  | false ↦ λ e. refl
  | true ↦ λ e. absurd (not_refused (rw (eqb-true opcode escape e) none))
] refl

pub start_two_byte_in : (p : Prefixes) (seen : ℕ) → (stands p 2 || (stands p 3 || stands p 4)) ≡ true → Begins (TwoByteIn p seen) []
start_two_byte_in p seen opens = elim (or_true (stands p 2) (stands p 3 || stands p 4) opens) [
  | inl two ↦
      let some = (stands_is p 2 (omega arith) (omega arith)).0 two in
      let rest = has_operands p 2 some.0 (seen + 1) (omega arith) (omega arith) some.1 some.2 in
      let after : Chosen (eqb some.0 0x3A) (FromMap p 4 (seen + 1) rest.0 rest.1) (AfterOpcode p 2 some.0 (seen + 1) rest.0 rest.1) =
      subst (λ (b : Bool). Chosen b (FromMap p 4 (seen + 1) rest.0 rest.1) (AfterOpcode p 2 some.0 (seen + 1) rest.0 rest.1)) (sym (not_escape p some.0 0x3A (escape_3A-refused p None) some.2)) rest.3 in
      begins_cons (TwoByteIn p seen) some.0 rest.0 rest.1 some.1 rest.2
      (subst (λ (b : Bool). Chosen b (FromMap p 3 (seen + 1) rest.0 rest.1) (Chosen (eqb some.0 0x3A) (FromMap p 4 (seen + 1) rest.0 rest.1) (AfterOpcode p 2 some.0 (seen + 1) rest.0 rest.1)))
      (sym (not_escape p some.0 0x38 (escape-refused p None) some.2)) after)
  | inr more ↦ elim (or_true (stands p 3) (stands p 4) more) [
    | inl three ↦
        let rest = has_map p 3 (seen + 1) (omega arith) (omega arith) three in
        begins_cons (TwoByteIn p seen) 0x38 rest.0 rest.1 (omega arith) rest.2 rest.3
    | inr four ↦
        let rest = has_map p 4 (seen + 1) (omega arith) (omega arith) four in
        begins_cons (TwoByteIn p seen) 0x3A rest.0 rest.1 (omega arith) rest.2 rest.3
  ]
]

-- ---- VEX and EVEX

has_vector : (p : Prefixes) (v : Vector) (seen : ℕ) → is_whole p.map ≡ true → is_bare p ≡ true → 0 < number_of v → (number_of v ≡ 7 → eqb (pp v) 1 ≡ true) → Has (BehindVector p v seen)
has_vector p v seen whole bare known o =
    let r = number_range v known in
    has_map (with_vector p v) (number_of v) seen known r.1 (vector_stands p v whole bare known o)

pub start_vex2 : (p : Prefixes) (seen : ℕ) → is_whole p.map ≡ true → is_bare p ≡ true → Begins (Vex2In p seen) []
start_vex2 p seen whole bare =
    let rest = has_vector p (Vex2 1) (seen + 1) whole bare (omega arith) (λ e. refl) in
    begins_cons (Vex2In p seen) 1 rest.0 rest.1 (omega arith) rest.2 rest.3

pub start_vex3_second : (p : Prefixes) (a seen : ℕ) → is_whole p.map ≡ true → is_bare p ≡ true → 0 < vex_number a → Begins (Vex3Second p a seen) []
start_vex3_second p a seen whole bare known =
    let rest = has_vector p (Vex3 a 1) (seen + 1) whole bare known (λ e. refl) in
    begins_cons (Vex3Second p a seen) 1 rest.0 rest.1 (omega arith) rest.2 rest.3

pub start_vex3 : (p : Prefixes) (seen : ℕ) → is_whole p.map ≡ true → is_bare p ≡ true → Begins (Vex3In p seen) []
start_vex3 p seen whole bare =
    let start = start_vex3_second p 1 (seen + 1) whole bare (omega arith) in
    begins_cons (Vex3In p seen) 1 start.0 start.1 (omega arith) start.3 start.4

pub start_evex_third : (p : Prefixes) (a b seen : ℕ) → is_whole p.map ≡ true → is_bare p ≡ true → 0 < evex_number a → is_evex_second b ≡ true → Begins (EvexThird p a b seen) []
start_evex_third p a b seen whole bare known second =
    let is : number_of (Evex a b 0) ≡ evex_number a = evex_number_of a b 0 second in
    let r = evex_range a known in
    let rest = has_vector p (Evex a b 0) (seen + 1) whole bare (omega (arith, is, known)) (λ e. absurd (omega (arith, is, e, r.0))) in
    begins_cons (EvexThird p a b seen) 0 rest.0 rest.1 (omega arith) rest.2 rest.3

pub start_evex_second : (p : Prefixes) (a seen : ℕ) → is_whole p.map ≡ true → is_bare p ≡ true → 0 < evex_number a → Begins (EvexSecond p a seen) []
start_evex_second p a seen whole bare known =
    let start = start_evex_third p a 4 (seen + 1) whole bare known refl in
    begins_cons (EvexSecond p a seen) 4 start.0 start.1 (omega arith) start.3 start.4

pub start_evex : (p : Prefixes) (seen : ℕ) → is_whole p.map ≡ true → is_bare p ≡ true → Begins (EvexIn p seen) []
start_evex p seen whole bare =
    let start = start_evex_second p 1 (seen + 1) whole bare (omega arith) in
    begins_cons (EvexIn p seen) 1 start.0 start.1 (omega arith) start.3 start.4

-- ---- prefixes

-- HLT stands with any prefixes
hlt : (p : Prefixes) (before : ℕ) → leads_to p 1 ≡ true → AfterOpcode p 1 0xF4 before [] (finished p 1 0xF4 None None (plain 0) before [] [])
hlt p before led = subst (λ (l : Look). OperandsBy l p 1 0xF4 before [] (finished p 1 0xF4 None None (plain 0) before [] [])) (sym (look-hlt p led)) (refl, refl)

-- HLT is no escape of VEX or EVEX
no_vector : (p : Prefixes) → opens_vector p 0xF4 ≡ false
no_vector p = and_false (is_whole p.map && is_bare p)

hlt_by : (p : Prefixes) (before : ℕ) → leads_to p 1 ≡ true → Chosen (opens_vector p 0xF4) (Escaped 0xF4 p before [] (finished p 1 0xF4 None None (plain 0) before [] [])) (AfterOpcode p 1 0xF4 before [] (finished p 1 0xF4 None None (plain 0) before [] []))
hlt_by p before led =
    subst (λ (b : Bool). Chosen b (Escaped 0xF4 p before [] (finished p 1 0xF4 None None (plain 0) before [] [])) (AfterOpcode p 1 0xF4 before [] (finished p 1 0xF4 None None (plain 0) before [] [])))
    (sym (no_vector p)) (hlt p before led)

pub start_opcode : (p : Prefixes) (seen : ℕ) → leads_to p 1 ≡ true → Begins (FromOpcode p seen) []
start_opcode p seen led = begins_cons (FromOpcode p seen) 0xF4 [] _ (omega arith) tt (hlt_by p (seen + 1) led)

pub start_prefixes : (p : Prefixes) (seen : ℕ) → leads_to p 1 ≡ true → Begins (FromPrefixes p seen) []
start_prefixes p seen led = begins_cons (FromPrefixes p seen) 0xF4 [] _ (omega arith) tt (hlt_by p (seen + 1) led)
