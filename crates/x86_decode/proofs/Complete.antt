-- What is in the languages is read, whatever stands behind it.
use Rattle.std.proofs.Common.{◌≡◌, ℕ, ◌+◌, Bool, true, false, cond, eqb, ltb, List, [], ◌∷◌, ◌++◌, length, Option, Some, None, Ok, Err, sym, ap, ◌∙◌, arith}
use Rattle.std.specs.Prelude.{◌||◌}
use Rattle.std.proofs.lemmas.Bool.{le-ltb}
use Rattle.std.proofs.lemmas.List.{length-append}
use Rattle.operation_defs.specs.declared.insn.Insn.{Insn}
use Rattle.x86_map.specs.declared.map.Map.{Map}
use Rattle.x86_map.specs.declared.vector.Vector.TheVariants.{Vex2, Vex3, Evex}
use Rattle.x86_map.specs.declared.prefixes.Prefixes.{Prefixes}
use Rattle.x86_map.specs.declared.shape.Shape.{Shape}
use Rattle.x86_map.specs.declared.shape.Look.{Look}
use Rattle.x86_map.specs.declared.shape.Look.TheVariants.{Refused, NeedModrm, Fits}
use Rattle.x86_map.specs.Vector.{vex_number, evex_number, is_evex_second, number_of}
use Rattle.x86_map.specs.Prefixes.{is_rex}
use Rattle.x86_map.specs.OpcodeMap.{look, stands}
use Rattle.x86_decode.specs.declared.reading.ReadStop.TheVariants.{Dead}
use Rattle.x86_decode.specs.Prefix.{is_legacy}
use Rattle.x86_decode.specs.Spelling.{has_sib, displacement_len}
use Rattle.x86_decode.specs.Reading.{Read, rest_at, sib_at, modrm_fits, modrm_at, operands_by, operands_at, opcode_in, map_at, with_vector, vex2_at, vex3_second, vex3_at, evex_third, evex_second, evex_at, escaped_at, opens_vector, two_byte_in, two_byte_at, opcode_at, with_rex, rex_at, noted, prefixes_at, no_prefixes, reading}
use Rattle.x86_decode.proofs.Languages.{Chosen, EndsIn, AfterModrm, ModrmFits, FromModrm, OperandsBy, AfterOpcode, MapIn, FromMap, TwoByteIn, FromTwoByte, Vex2In, Vex3Second, Vex3In, EvexThird, EvexSecond, EvexIn, Escaped, OpcodeBy, FromOpcode, RexBy, FromPrefixes}
use Rattle.x86_decode.proofs.Verdicts.{take_front, take_second, by_opcode, by_first, rex_at-cons}

reads_end : (p : Prefixes) (number opcode : ℕ) (modrm sib : Option ℕ) (shape : Shape) (before : ℕ) (text rest : List ℕ) (insn : Insn)
    → EndsIn p number opcode modrm sib shape before text insn → rest_at p number opcode modrm sib shape before (text ++ rest) ≡ Ok insn
unfolding rest_at
reads_end p number opcode modrm sib shape before text rest insn h =
    let d = displacement_len modrm sib in
    let i = shape.imm in
    let long : ltb (length (text ++ rest)) (d + i) ≡ false = le-ltb _ _ (omega (arith, h.0, length-append text rest)) in
    rw (long, take_front d i text rest h.0, take_second d i text rest h.0) (ap (λ (x : Insn). Ok x) (sym h.1))

reads_sib : (p : Prefixes) (number opcode modrm : ℕ) (shape : Shape) (before : ℕ) (b : Bool) (text rest : List ℕ) (insn : Insn)
    → AfterModrm p number opcode modrm shape before b text insn → sib_at p number opcode modrm shape before b (text ++ rest) ≡ Ok insn
unfolding sib_at
reads_sib p number opcode modrm shape before false text rest insn h = reads_end p number opcode (Some modrm) None shape before text rest insn h
reads_sib p number opcode modrm shape before true [] rest insn h = absurd h
reads_sib p number opcode modrm shape before true (sib ∷ text) rest insn h = reads_end p number opcode (Some modrm) (Some sib) shape before text rest insn h

reads_fits : (l : Look) (p : Prefixes) (number opcode modrm before : ℕ) (text rest : List ℕ) (insn : Insn)
    → ModrmFits l p number opcode modrm before text insn → modrm_fits l p number opcode modrm before (text ++ rest) ≡ Ok insn
unfolding modrm_fits
reads_fits Refused p number opcode modrm before text rest insn h = absurd h
reads_fits NeedModrm p number opcode modrm before text rest insn h = absurd h
reads_fits (Fits shape) p number opcode modrm before text rest insn h = reads_sib p number opcode modrm shape before (has_sib (Some modrm)) text rest insn h

reads_modrm : (p : Prefixes) (number opcode before : ℕ) (text rest : List ℕ) (insn : Insn)
    → FromModrm p number opcode before text insn → modrm_at p number opcode before (text ++ rest) ≡ Ok insn
unfolding modrm_at
reads_modrm p number opcode before [] rest insn h = absurd h
reads_modrm p number opcode before (modrm ∷ text) rest insn h = reads_fits (look p number opcode (Some modrm)) p number opcode modrm before text rest insn h

reads_operands_by : (l : Look) (p : Prefixes) (number opcode before : ℕ) (text rest : List ℕ) (insn : Insn)
    → OperandsBy l p number opcode before text insn → operands_by l p number opcode before (text ++ rest) ≡ Ok insn
unfolding operands_by
reads_operands_by Refused p number opcode before text rest insn h = absurd h
reads_operands_by NeedModrm p number opcode before text rest insn h = reads_modrm p number opcode before text rest insn h
reads_operands_by (Fits shape) p number opcode before text rest insn h = reads_end p number opcode None None shape before text rest insn h

reads_operands : (p : Prefixes) (number opcode before : ℕ) (text rest : List ℕ) (insn : Insn)
    → AfterOpcode p number opcode before text insn → operands_at p number opcode before (text ++ rest) ≡ Ok insn
unfolding operands_at
reads_operands p number opcode before text rest insn h = reads_operands_by (look p number opcode None) p number opcode before text rest insn h

-- one of two
chosen : (b : Bool) (P Q : Type 0) (x y z : Read) → (P → x ≡ z) → (Q → y ≡ z) → Chosen b P Q → cond b x y ≡ z
chosen true P Q x y z f g h = f h
chosen false P Q x y z f g h = g h

reads_map_in : (p : Prefixes) (number seen : ℕ) (text rest : List ℕ) (insn : Insn) → MapIn p number seen text insn → opcode_in p number seen (text ++ rest) ≡ Ok insn
unfolding opcode_in
reads_map_in p number seen [] rest insn h = absurd h
reads_map_in p number seen (opcode ∷ text) rest insn h = reads_operands p number opcode (seen + 1) text rest insn h

reads_map : (p : Prefixes) (number seen : ℕ) (text rest : List ℕ) (insn : Insn) → FromMap p number seen text insn → map_at p number seen (text ++ rest) ≡ Ok insn
unfolding map_at
reads_map p number seen text rest insn h =
    chosen (stands p number) (MapIn p number seen text insn) ⊥ (opcode_in p number seen (text ++ rest)) (Err (Dead seen)) (Ok insn)
    (λ k. reads_map_in p number seen text rest insn k) (λ k. absurd k) h

reads_two_byte_in : (p : Prefixes) (seen : ℕ) (text rest : List ℕ) (insn : Insn) → TwoByteIn p seen text insn → two_byte_in p seen (text ++ rest) ≡ Ok insn
unfolding two_byte_in
reads_two_byte_in p seen [] rest insn h = absurd h
reads_two_byte_in p seen (opcode ∷ text) rest insn h =
    chosen (eqb opcode 0x38) (FromMap p 3 (seen + 1) text insn) (Chosen (eqb opcode 0x3A) (FromMap p 4 (seen + 1) text insn) (AfterOpcode p 2 opcode (seen + 1) text insn))
    (map_at p 3 (seen + 1) (text ++ rest)) (cond (eqb opcode 0x3A) (map_at p 4 (seen + 1) (text ++ rest)) (operands_at p 2 opcode (seen + 1) (text ++ rest))) (Ok insn)
    (λ k. reads_map p 3 (seen + 1) text rest insn k)
    (λ k. chosen (eqb opcode 0x3A) (FromMap p 4 (seen + 1) text insn) (AfterOpcode p 2 opcode (seen + 1) text insn)
    (map_at p 4 (seen + 1) (text ++ rest)) (operands_at p 2 opcode (seen + 1) (text ++ rest)) (Ok insn)
    (λ k. reads_map p 4 (seen + 1) text rest insn k) (λ k. reads_operands p 2 opcode (seen + 1) text rest insn k) k) h

reads_two_byte : (p : Prefixes) (seen : ℕ) (text rest : List ℕ) (insn : Insn) → FromTwoByte p seen text insn → two_byte_at p seen (text ++ rest) ≡ Ok insn
unfolding two_byte_at
reads_two_byte p seen text rest insn h =
    chosen (stands p 2 || (stands p 3 || stands p 4)) (TwoByteIn p seen text insn) ⊥ (two_byte_in p seen (text ++ rest)) (Err (Dead seen)) (Ok insn)
    (λ k. reads_two_byte_in p seen text rest insn k) (λ k. absurd k) h

reads_vex2 : (p : Prefixes) (seen : ℕ) (text rest : List ℕ) (insn : Insn) → Vex2In p seen text insn → vex2_at p seen (text ++ rest) ≡ Ok insn
unfolding vex2_at
reads_vex2 p seen [] rest insn h = absurd h
reads_vex2 p seen (a ∷ text) rest insn h = reads_map (with_vector p (Vex2 a)) 5 (seen + 1) text rest insn h

reads_vex3_second : (p : Prefixes) (a seen : ℕ) (text rest : List ℕ) (insn : Insn) → Vex3Second p a seen text insn → vex3_second p a seen (text ++ rest) ≡ Ok insn
unfolding vex3_second
reads_vex3_second p a seen [] rest insn h = absurd h
reads_vex3_second p a seen (b ∷ text) rest insn h = reads_map (with_vector p (Vex3 a b)) (number_of (Vex3 a b)) (seen + 1) text rest insn h

reads_vex3 : (p : Prefixes) (seen : ℕ) (text rest : List ℕ) (insn : Insn) → Vex3In p seen text insn → vex3_at p seen (text ++ rest) ≡ Ok insn
unfolding vex3_at
reads_vex3 p seen [] rest insn h = absurd h
reads_vex3 p seen (a ∷ text) rest insn h =
    chosen (ltb 0 (vex_number a)) (Vex3Second p a (seen + 1) text insn) ⊥ (vex3_second p a (seen + 1) (text ++ rest)) (Err (Dead (seen + 1))) (Ok insn)
    (λ k. reads_vex3_second p a (seen + 1) text rest insn k) (λ k. absurd k) h

reads_evex_third : (p : Prefixes) (a b seen : ℕ) (text rest : List ℕ) (insn : Insn) → EvexThird p a b seen text insn → evex_third p a b seen (text ++ rest) ≡ Ok insn
unfolding evex_third
reads_evex_third p a b seen [] rest insn h = absurd h
reads_evex_third p a b seen (c ∷ text) rest insn h = reads_map (with_vector p (Evex a b c)) (number_of (Evex a b c)) (seen + 1) text rest insn h

reads_evex_second : (p : Prefixes) (a seen : ℕ) (text rest : List ℕ) (insn : Insn) → EvexSecond p a seen text insn → evex_second p a seen (text ++ rest) ≡ Ok insn
unfolding evex_second
reads_evex_second p a seen [] rest insn h = absurd h
reads_evex_second p a seen (b ∷ text) rest insn h =
    chosen (is_evex_second b) (EvexThird p a b (seen + 1) text insn) ⊥ (evex_third p a b (seen + 1) (text ++ rest)) (Err (Dead (seen + 1))) (Ok insn)
    (λ k. reads_evex_third p a b (seen + 1) text rest insn k) (λ k. absurd k) h

reads_evex : (p : Prefixes) (seen : ℕ) (text rest : List ℕ) (insn : Insn) → EvexIn p seen text insn → evex_at p seen (text ++ rest) ≡ Ok insn
unfolding evex_at
reads_evex p seen [] rest insn h = absurd h
reads_evex p seen (a ∷ text) rest insn h =
    chosen (ltb 0 (evex_number a)) (EvexSecond p a (seen + 1) text insn) ⊥ (evex_second p a (seen + 1) (text ++ rest)) (Err (Dead (seen + 1))) (Ok insn)
    (λ k. reads_evex_second p a (seen + 1) text rest insn k) (λ k. absurd k) h

reads_escaped : (b : ℕ) (p : Prefixes) (seen : ℕ) (text rest : List ℕ) (insn : Insn) → Escaped b p seen text insn → escaped_at b p seen (text ++ rest) ≡ Ok insn
reads_escaped b p seen text rest insn h =
    chosen (eqb b 0xC5) (Vex2In p seen text insn) (Chosen (eqb b 0xC4) (Vex3In p seen text insn) (EvexIn p seen text insn))
    (vex2_at p seen (text ++ rest)) (cond (eqb b 0xC4) (vex3_at p seen (text ++ rest)) (evex_at p seen (text ++ rest))) (Ok insn)
    (λ k. reads_vex2 p seen text rest insn k)
    (λ k. chosen (eqb b 0xC4) (Vex3In p seen text insn) (EvexIn p seen text insn) (vex3_at p seen (text ++ rest)) (evex_at p seen (text ++ rest)) (Ok insn)
    (λ k. reads_vex3 p seen text rest insn k) (λ k. reads_evex p seen text rest insn k) k) h

reads_opcode_by : (p : Prefixes) (opcode seen : ℕ) (text rest : List ℕ) (insn : Insn) → OpcodeBy opcode p seen text insn → by_opcode opcode p seen (text ++ rest) ≡ Ok insn
reads_opcode_by p opcode seen text rest insn h =
    chosen (eqb opcode 0x0F) (FromTwoByte p seen text insn) (Chosen (opens_vector p opcode) (Escaped opcode p seen text insn) (AfterOpcode p 1 opcode seen text insn))
    (two_byte_at p seen (text ++ rest)) (cond (opens_vector p opcode) (escaped_at opcode p seen (text ++ rest)) (operands_at p 1 opcode seen (text ++ rest))) (Ok insn)
    (λ k. reads_two_byte p seen text rest insn k)
    (λ k. chosen (opens_vector p opcode) (Escaped opcode p seen text insn) (AfterOpcode p 1 opcode seen text insn)
    (escaped_at opcode p seen (text ++ rest)) (operands_at p 1 opcode seen (text ++ rest)) (Ok insn)
    (λ k. reads_escaped opcode p seen text rest insn k) (λ k. reads_operands p 1 opcode seen text rest insn k) k) h

reads_opcode : (p : Prefixes) (seen : ℕ) (text rest : List ℕ) (insn : Insn) → FromOpcode p seen text insn → opcode_at p seen (text ++ rest) ≡ Ok insn
unfolding opcode_at
reads_opcode p seen [] rest insn h = absurd h
reads_opcode p seen (opcode ∷ text) rest insn h = reads_opcode_by p opcode (seen + 1) text rest insn h

reads_rex_by : (p : Prefixes) (b seen : ℕ) (text rest : List ℕ) (insn : Insn) → RexBy b p seen text insn → by_first b p seen (text ++ rest) ≡ Ok insn
reads_rex_by p b seen text rest insn h =
    chosen (is_rex b) (FromOpcode (with_rex p b) seen text insn) (OpcodeBy b p seen text insn)
    (opcode_at (with_rex p b) seen (text ++ rest)) (by_opcode b p seen (text ++ rest)) (Ok insn)
    (λ k. reads_opcode (with_rex p b) seen text rest insn k) (λ k. reads_opcode_by p b seen text rest insn k) h

pub reads_prefixes : (p : Prefixes) (seen : ℕ) (text rest : List ℕ) (insn : Insn) → FromPrefixes p seen text insn → prefixes_at p seen (text ++ rest) ≡ Ok insn
unfolding prefixes_at
reads_prefixes p seen [] rest insn h = absurd h
reads_prefixes p seen (b ∷ text) rest insn h =
    chosen (is_legacy b) (FromPrefixes (noted b p) (seen + 1) text insn) (RexBy b p (seen + 1) text insn)
    (prefixes_at (noted b p) (seen + 1) (text ++ rest)) (rex_at p seen (b ∷ (text ++ rest))) (Ok insn)
    (λ k. reads_prefixes (noted b p) (seen + 1) text rest insn k)
    (λ k. rex_at-cons p seen b (text ++ rest) ∙ reads_rex_by p b (seen + 1) text rest insn k) h

pub reads : (map : Map) (text rest : List ℕ) (insn : Insn) → FromPrefixes (no_prefixes map) 0 text insn → reading map (text ++ rest) ≡ Ok insn
unfolding reading
reads map text rest insn h = reads_prefixes (no_prefixes map) 0 text rest insn h
