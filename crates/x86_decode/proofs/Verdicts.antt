-- What reading answers is right, at each stage.
use Rattle.std.proofs.Common.{◌≡◌, ℕ, ◌+◌, ◌-◌, ◌<◌, ◌≤◌, Bool, true, false, cond, eqb, ltb, List, [], ◌∷◌, ◌++◌, length, take, drop, replicate, Option, Some, None, Ok, Err, refl, sym, ap, subst, ◌∙◌, inl, arith, length-drop}
use Rattle.std.specs.Prelude.{◌&&◌, ◌||◌}
use Rattle.std.proofs.lemmas.Bool.{ltb-true, ltb-false}
use Rattle.std.proofs.lemmas.List.{length-replicate, length-append, take-append-drop, take-append-le, drop-append-le, length-take-le}
use Rattle.operation_defs.specs.declared.insn.Insn.{Insn}
use Rattle.x86_map.specs.declared.map.Map.{Map}
use Rattle.x86_map.specs.declared.vector.Vector.{Vector}
use Rattle.x86_map.specs.declared.vector.Vector.TheVariants.{Vex2, Vex3, Evex}
use Rattle.x86_map.specs.declared.prefixes.Prefixes.{Prefixes}
use Rattle.x86_map.specs.declared.shape.Shape.{Shape}
use Rattle.x86_map.specs.declared.shape.Look.{Look}
use Rattle.x86_map.specs.declared.shape.Look.TheVariants.{Refused, NeedModrm, Fits}
use Rattle.x86_map.specs.Prefixes.{is_rex, is_rex_valid, is_bare, leads_to}
use Rattle.x86_map.specs.Vector.{vex_number, evex_number, is_evex_second, number_of}
use Rattle.x86_map.proofs.Accepting.{and_left, and_right}
use Rattle.x86_map.specs.OpcodeMap.{look, stands}
use Rattle.x86_decode.specs.declared.reading.ReadStop.TheVariants.{Dead, More}
use Rattle.x86_decode.specs.Prefix.{is_legacy}
use Rattle.x86_decode.specs.Spelling.{optional, has_sib, displacement_len}
use Rattle.x86_decode.specs.Reading.{Read, finished, rest_at, sib_at, modrm_fits, modrm_at, operands_by, operands_at, opcode_in, map_at, with_vector, vector_at, vex2_at, vex3_second, vex3_at, evex_third, evex_second, evex_at, is_vector_escape, escaped_at, is_whole, opens_vector, two_byte_in, two_byte_at, opcode_at, with_rex, rex_at, noted, prefixes_at, no_prefixes, reading}
use Rattle.x86_decode.proofs.Languages.{IsBytes, Language, Chosen, EndsIn, AfterModrm, ModrmFits, FromModrm, OperandsBy, AfterOpcode, MapIn, FromMap, TwoByteIn, FromTwoByte, BehindVector, Vex2In, Vex3Second, Vex3In, EvexThird, EvexSecond, EvexIn, Escaped, OpcodeBy, FromOpcode, RexBy, FromPrefixes, Begins, Verdict, verdict_cons}
use Rattle.x86_decode.proofs.Starts.{zeros-bytes, start_after_modrm, start_modrm, start_map_in, start_two_byte_in, start_vex2, start_vex3_second, start_vex3, start_evex_third, start_evex_second, start_evex, start_opcode, start_prefixes}
use Rattle.x86_decode.proofs.Vectors.{evex_number_of, number_range, leads_free}

-- ---- displacement and immediate

-- more bytes behind the parts change nothing
pub take_front : (d i : ℕ) (text rest : List ℕ) → length text ≡ d + i → take d (text ++ rest) ≡ take d text
take_front d i text rest len = take-append-le d text rest (omega arith)

pub take_second : (d i : ℕ) (text rest : List ℕ) → length text ≡ d + i → take i (drop d (text ++ rest)) ≡ take i (drop d text)
take_second d i text rest len =
    ap (take i) (drop-append-le d text rest (omega arith)) ∙ take-append-le i (drop d text) rest (omega (arith, length-drop d text))

finished-len : (p : Prefixes) (number opcode : ℕ) (modrm sib : Option ℕ) (shape : Shape) (before : ℕ) (displacement immediate : List ℕ)
    → (finished p number opcode modrm sib shape before displacement immediate).len ≡ before + length (optional modrm) + length (optional sib) + length displacement + length immediate
unfolding finished
finished-len p number opcode modrm sib shape before displacement immediate = refl

pub rest_verdict : (p : Prefixes) (number opcode : ℕ) (modrm sib : Option ℕ) (shape : Shape) (before seen : ℕ) → seen ≡ before + length (optional modrm) + length (optional sib)
    → (bytes : List ℕ) → Verdict (EndsIn p number opcode modrm sib shape before) seen bytes (rest_at p number opcode modrm sib shape before bytes)
unfolding rest_at
rest_verdict p number opcode modrm sib shape before seen at bytes =
    let d = displacement_len modrm sib in
    let i = shape.imm in
    let L : Language = EndsIn p number opcode modrm sib shape before in
    let make : List ℕ → Insn = λ (t : List ℕ). finished p number opcode modrm sib shape before (take d t) (take i (drop d t)) in
    elim (ltb (length bytes) (d + i)) as (λ b. ltb (length bytes) (d + i) ≡ b → Verdict L seen bytes (cond b (Err More) (Ok (make bytes)))) [
      | true ↦ λ e.
          let short : length bytes < d + i = ltb-true _ _ e in
          let more = d + i - length bytes in
          let zeros : List ℕ = replicate more 0 in
          let zeros-len : length zeros ≡ more = length-replicate more 0 in
          (zeros, make (bytes ++ zeros), omega arith, zeros-bytes more, (omega (arith, length-append bytes zeros), refl))
      | false ↦ λ e.
          let long : d + i ≤ length bytes = ltb-false _ _ e in
          let text : List ℕ = take (d + i) bytes in
          let rest : List ℕ = drop (d + i) bytes in
          let whole : text ++ rest ≡ bytes = take-append-drop (d + i) bytes in
          let text-len : length text ≡ d + i = length-take-le (d + i) bytes long in
          let first : take d bytes ≡ take d text = ap (take d) (sym whole) ∙ take_front d i text rest text-len in
          let second : take i (drop d bytes) ≡ take i (drop d text) = ap (λ (t : List ℕ). take i (drop d t)) (sym whole) ∙ take_second d i text rest text-len in
          let same : make bytes ≡ make text = rw (first, second) refl in
          let len = finished-len p number opcode modrm sib shape before (take d bytes) (take i (drop d bytes)) in
          let d-len : length (take d bytes) ≡ d = length-take-le d bytes (omega arith) in
          let i-len : length (take i (drop d bytes)) ≡ i = length-take-le i (drop d bytes) (omega (arith, length-drop d bytes)) in
          (text, rest, sym whole, (text-len, same), omega arith)
    ] refl

-- ---- SIB and ModRM

pub sib_verdict : (p : Prefixes) (number opcode modrm : ℕ) (shape : Shape) (before : ℕ) (b : Bool) (bytes : List ℕ)
    → Verdict (AfterModrm p number opcode modrm shape before b) (before + 1) bytes (sib_at p number opcode modrm shape before b bytes)
unfolding sib_at
sib_verdict p number opcode modrm shape before false bytes = rest_verdict p number opcode (Some modrm) None shape before (before + 1) (omega arith) bytes
sib_verdict p number opcode modrm shape before true [] = start_after_modrm p number opcode modrm shape before
sib_verdict p number opcode modrm shape before true (sib ∷ bytes) =
    verdict_cons (AfterModrm p number opcode modrm shape before true) (EndsIn p number opcode (Some modrm) (Some sib) shape before) (before + 1) sib bytes
    (rest_at p number opcode (Some modrm) (Some sib) shape before bytes) (λ t insn h. h) (λ t insn h. h) (start_after_modrm p number opcode modrm shape before)
    (rest_verdict p number opcode (Some modrm) (Some sib) shape before (before + 1 + 1) (omega arith) bytes)

fits_verdict : (l : Look) (p : Prefixes) (number opcode modrm before : ℕ) (bytes : List ℕ)
    → Verdict (ModrmFits l p number opcode modrm before) (before + 1) bytes (modrm_fits l p number opcode modrm before bytes)
unfolding modrm_fits
fits_verdict Refused p number opcode modrm before bytes = inl (refl, λ rest insn h. h)
fits_verdict NeedModrm p number opcode modrm before bytes = inl (refl, λ rest insn h. h)
fits_verdict (Fits shape) p number opcode modrm before bytes = sib_verdict p number opcode modrm shape before (has_sib (Some modrm)) bytes

modrm_verdict : (p : Prefixes) (number opcode before : ℕ) → Begins (FromModrm p number opcode before) [] → (bytes : List ℕ)
    → Verdict (FromModrm p number opcode before) before bytes (modrm_at p number opcode before bytes)
unfolding modrm_at
modrm_verdict p number opcode before start [] = start
modrm_verdict p number opcode before start (modrm ∷ bytes) =
    verdict_cons (FromModrm p number opcode before) (ModrmFits (look p number opcode (Some modrm)) p number opcode modrm before) before modrm bytes
    (modrm_fits (look p number opcode (Some modrm)) p number opcode modrm before bytes) (λ t insn h. h) (λ t insn h. h) start
    (fits_verdict (look p number opcode (Some modrm)) p number opcode modrm before bytes)

-- ---- opcodes

operands_by_verdict : (l : Look) (p : Prefixes) (number opcode before : ℕ) → 0 < number → number < 13 → opcode < 256 → look p number opcode None ≡ l → (bytes : List ℕ)
    → Verdict (OperandsBy l p number opcode before) before bytes (operands_by l p number opcode before bytes)
unfolding operands_by
operands_by_verdict Refused p number opcode before low high lt is bytes = inl (refl, λ rest insn h. h)
operands_by_verdict NeedModrm p number opcode before low high lt is bytes = modrm_verdict p number opcode before (start_modrm p number opcode before low high lt is) bytes
operands_by_verdict (Fits shape) p number opcode before low high lt is bytes = rest_verdict p number opcode None None shape before before (omega arith) bytes

pub operands_verdict : (p : Prefixes) (number opcode before : ℕ) → 0 < number → number < 13 → opcode < 256 → (bytes : List ℕ)
    → Verdict (AfterOpcode p number opcode before) before bytes (operands_at p number opcode before bytes)
unfolding operands_at
operands_verdict p number opcode before low high lt bytes = operands_by_verdict (look p number opcode None) p number opcode before low high lt refl bytes

map_in_verdict : (p : Prefixes) (number seen : ℕ) → 0 < number → number < 13 → stands p number ≡ true → (bytes : List ℕ) → IsBytes bytes → Verdict (MapIn p number seen) seen bytes (opcode_in p number seen bytes)
unfolding opcode_in
map_in_verdict p number seen low high stand [] fits = start_map_in p number seen low high stand
map_in_verdict p number seen low high stand (opcode ∷ bytes) fits =
    verdict_cons (MapIn p number seen) (AfterOpcode p number opcode (seen + 1)) seen opcode bytes (operands_at p number opcode (seen + 1) bytes) (λ t insn h. h) (λ t insn h. h)
    (start_map_in p number seen low high stand) (operands_verdict p number opcode (seen + 1) low high fits.0 bytes)

pub map_verdict : (p : Prefixes) (number seen : ℕ) → 0 < number → number < 13 → (bytes : List ℕ) → IsBytes bytes → Verdict (FromMap p number seen) seen bytes (map_at p number seen bytes)
unfolding map_at
map_verdict p number seen low high bytes fits =
    elim (stands p number) as (λ b. stands p number ≡ b → Verdict (λ t insn. Chosen b (MapIn p number seen t insn) ⊥) seen bytes (cond b (opcode_in p number seen bytes) (Err (Dead seen)))) [
      | true ↦ λ e. map_in_verdict p number seen low high e bytes fits
      | false ↦ λ e. inl (refl, λ rest insn h. h)
    ] refl

by_3A : (b : Bool) (p : Prefixes) (opcode seen : ℕ) → opcode < 256 → (bytes : List ℕ) → IsBytes bytes
    → Verdict (λ t insn. Chosen b (FromMap p 4 seen t insn) (AfterOpcode p 2 opcode seen t insn)) seen bytes (cond b (map_at p 4 seen bytes) (operands_at p 2 opcode seen bytes))
by_3A true p opcode seen lt bytes fits = map_verdict p 4 seen (omega arith) (omega arith) bytes fits
by_3A false p opcode seen lt bytes fits = operands_verdict p 2 opcode seen (omega arith) (omega arith) lt bytes

two_byte_by : (b : Bool) (p : Prefixes) (opcode seen : ℕ) → opcode < 256 → (bytes : List ℕ) → IsBytes bytes
    → Verdict (λ t insn. Chosen b (FromMap p 3 seen t insn) (Chosen (eqb opcode 0x3A) (FromMap p 4 seen t insn) (AfterOpcode p 2 opcode seen t insn))) seen bytes
    (cond b (map_at p 3 seen bytes) (cond (eqb opcode 0x3A) (map_at p 4 seen bytes) (operands_at p 2 opcode seen bytes)))
two_byte_by true p opcode seen lt bytes fits = map_verdict p 3 seen (omega arith) (omega arith) bytes fits
two_byte_by false p opcode seen lt bytes fits = by_3A (eqb opcode 0x3A) p opcode seen lt bytes fits

two_byte_in_verdict : (p : Prefixes) (seen : ℕ) → (stands p 2 || (stands p 3 || stands p 4)) ≡ true → (bytes : List ℕ) → IsBytes bytes → Verdict (TwoByteIn p seen) seen bytes (two_byte_in p seen bytes)
unfolding two_byte_in
two_byte_in_verdict p seen stand [] fits = start_two_byte_in p seen stand
two_byte_in_verdict p seen stand (opcode ∷ bytes) fits =
    verdict_cons (TwoByteIn p seen) (λ t insn. Chosen (eqb opcode 0x38) (FromMap p 3 (seen + 1) t insn) (Chosen (eqb opcode 0x3A) (FromMap p 4 (seen + 1) t insn) (AfterOpcode p 2 opcode (seen + 1) t insn))) seen opcode bytes
    (cond (eqb opcode 0x38) (map_at p 3 (seen + 1) bytes) (cond (eqb opcode 0x3A) (map_at p 4 (seen + 1) bytes) (operands_at p 2 opcode (seen + 1) bytes))) (λ t insn h. h) (λ t insn h. h)
    (start_two_byte_in p seen stand) (two_byte_by (eqb opcode 0x38) p opcode (seen + 1) fits.0 bytes fits.1)

pub two_byte_verdict : (p : Prefixes) (seen : ℕ) (bytes : List ℕ) → IsBytes bytes → Verdict (FromTwoByte p seen) seen bytes (two_byte_at p seen bytes)
unfolding two_byte_at
two_byte_verdict p seen bytes fits =
    elim (stands p 2 || (stands p 3 || stands p 4)) as (λ b. (stands p 2 || (stands p 3 || stands p 4)) ≡ b → Verdict (λ t insn. Chosen b (TwoByteIn p seen t insn) ⊥) seen bytes (cond b (two_byte_in p seen bytes) (Err (Dead seen)))) [
      | true ↦ λ e. two_byte_in_verdict p seen e bytes fits
      | false ↦ λ e. inl (refl, λ rest insn h. h)
    ] refl

-- ---- VEX and EVEX

vector_verdict : (p : Prefixes) (v : Vector) (seen : ℕ) → 0 < number_of v → (bytes : List ℕ) → IsBytes bytes → Verdict (BehindVector p v seen) seen bytes (vector_at p v seen bytes)
vector_verdict p v seen known bytes fits = let r = number_range v known in map_verdict (with_vector p v) (number_of v) seen known r.1 bytes fits

vex2_verdict : (p : Prefixes) (seen : ℕ) → is_whole p.map ≡ true → is_bare p ≡ true → (bytes : List ℕ) → IsBytes bytes → Verdict (Vex2In p seen) seen bytes (vex2_at p seen bytes)
unfolding vex2_at
vex2_verdict p seen whole bare [] fits = start_vex2 p seen whole bare
vex2_verdict p seen whole bare (a ∷ bytes) fits =
    verdict_cons (Vex2In p seen) (BehindVector p (Vex2 a) (seen + 1)) seen a bytes (vector_at p (Vex2 a) (seen + 1) bytes) (λ t insn h. h) (λ t insn h. h)
    (start_vex2 p seen whole bare) (vector_verdict p (Vex2 a) (seen + 1) (omega arith) bytes fits.1)

vex3_second_verdict : (p : Prefixes) (a seen : ℕ) → is_whole p.map ≡ true → is_bare p ≡ true → 0 < vex_number a → (bytes : List ℕ) → IsBytes bytes → Verdict (Vex3Second p a seen) seen bytes (vex3_second p a seen bytes)
unfolding vex3_second
vex3_second_verdict p a seen whole bare known [] fits = start_vex3_second p a seen whole bare known
vex3_second_verdict p a seen whole bare known (b ∷ bytes) fits =
    verdict_cons (Vex3Second p a seen) (BehindVector p (Vex3 a b) (seen + 1)) seen b bytes (vector_at p (Vex3 a b) (seen + 1) bytes) (λ t insn h. h) (λ t insn h. h)
    (start_vex3_second p a seen whole bare known) (vector_verdict p (Vex3 a b) (seen + 1) known bytes fits.1)

vex3_by : (p : Prefixes) (a seen : ℕ) → is_whole p.map ≡ true → is_bare p ≡ true → (bytes : List ℕ) → IsBytes bytes
    → Verdict (λ t insn. Chosen (ltb 0 (vex_number a)) (Vex3Second p a seen t insn) ⊥) seen bytes (cond (ltb 0 (vex_number a)) (vex3_second p a seen bytes) (Err (Dead seen)))
vex3_by p a seen whole bare bytes fits =
    elim (ltb 0 (vex_number a)) as (λ v. ltb 0 (vex_number a) ≡ v → Verdict (λ t insn. Chosen v (Vex3Second p a seen t insn) ⊥) seen bytes (cond v (vex3_second p a seen bytes) (Err (Dead seen)))) [
      | true ↦ λ e. vex3_second_verdict p a seen whole bare (ltb-true 0 (vex_number a) e) bytes fits
      | false ↦ λ e. inl (refl, λ rest insn h. h)
    ] refl

vex3_verdict : (p : Prefixes) (seen : ℕ) → is_whole p.map ≡ true → is_bare p ≡ true → (bytes : List ℕ) → IsBytes bytes → Verdict (Vex3In p seen) seen bytes (vex3_at p seen bytes)
unfolding vex3_at
vex3_verdict p seen whole bare [] fits = start_vex3 p seen whole bare
vex3_verdict p seen whole bare (a ∷ bytes) fits =
    verdict_cons (Vex3In p seen) (λ t insn. Chosen (ltb 0 (vex_number a)) (Vex3Second p a (seen + 1) t insn) ⊥) seen a bytes
    (cond (ltb 0 (vex_number a)) (vex3_second p a (seen + 1) bytes) (Err (Dead (seen + 1)))) (λ t insn h. h) (λ t insn h. h)
    (start_vex3 p seen whole bare) (vex3_by p a (seen + 1) whole bare bytes fits.1)

evex_third_verdict : (p : Prefixes) (a b seen : ℕ) → is_whole p.map ≡ true → is_bare p ≡ true → 0 < evex_number a → is_evex_second b ≡ true → (bytes : List ℕ) → IsBytes bytes
    → Verdict (EvexThird p a b seen) seen bytes (evex_third p a b seen bytes)
unfolding evex_third
evex_third_verdict p a b seen whole bare known second [] fits = start_evex_third p a b seen whole bare known second
evex_third_verdict p a b seen whole bare known second (c ∷ bytes) fits =
    verdict_cons (EvexThird p a b seen) (BehindVector p (Evex a b c) (seen + 1)) seen c bytes (vector_at p (Evex a b c) (seen + 1) bytes) (λ t insn h. h) (λ t insn h. h)
    (start_evex_third p a b seen whole bare known second) (vector_verdict p (Evex a b c) (seen + 1) (let is : number_of (Evex a b c) ≡ evex_number a = evex_number_of a b c second in omega (arith, is, known)) bytes fits.1)

evex_second_by : (p : Prefixes) (a b seen : ℕ) → is_whole p.map ≡ true → is_bare p ≡ true → 0 < evex_number a → (bytes : List ℕ) → IsBytes bytes
    → Verdict (λ t insn. Chosen (is_evex_second b) (EvexThird p a b seen t insn) ⊥) seen bytes (cond (is_evex_second b) (evex_third p a b seen bytes) (Err (Dead seen)))
evex_second_by p a b seen whole bare known bytes fits =
    elim (is_evex_second b) as (λ v. is_evex_second b ≡ v → Verdict (λ t insn. Chosen v (EvexThird p a b seen t insn) ⊥) seen bytes (cond v (evex_third p a b seen bytes) (Err (Dead seen)))) [
      | true ↦ λ e. evex_third_verdict p a b seen whole bare known e bytes fits
      | false ↦ λ e. inl (refl, λ rest insn h. h)
    ] refl

evex_second_verdict : (p : Prefixes) (a seen : ℕ) → is_whole p.map ≡ true → is_bare p ≡ true → 0 < evex_number a → (bytes : List ℕ) → IsBytes bytes → Verdict (EvexSecond p a seen) seen bytes (evex_second p a seen bytes)
unfolding evex_second
evex_second_verdict p a seen whole bare known [] fits = start_evex_second p a seen whole bare known
evex_second_verdict p a seen whole bare known (b ∷ bytes) fits =
    verdict_cons (EvexSecond p a seen) (λ t insn. Chosen (is_evex_second b) (EvexThird p a b (seen + 1) t insn) ⊥) seen b bytes
    (cond (is_evex_second b) (evex_third p a b (seen + 1) bytes) (Err (Dead (seen + 1)))) (λ t insn h. h) (λ t insn h. h)
    (start_evex_second p a seen whole bare known) (evex_second_by p a b (seen + 1) whole bare known bytes fits.1)

evex_by : (p : Prefixes) (a seen : ℕ) → is_whole p.map ≡ true → is_bare p ≡ true → (bytes : List ℕ) → IsBytes bytes
    → Verdict (λ t insn. Chosen (ltb 0 (evex_number a)) (EvexSecond p a seen t insn) ⊥) seen bytes (cond (ltb 0 (evex_number a)) (evex_second p a seen bytes) (Err (Dead seen)))
evex_by p a seen whole bare bytes fits =
    elim (ltb 0 (evex_number a)) as (λ v. ltb 0 (evex_number a) ≡ v → Verdict (λ t insn. Chosen v (EvexSecond p a seen t insn) ⊥) seen bytes (cond v (evex_second p a seen bytes) (Err (Dead seen)))) [
      | true ↦ λ e. evex_second_verdict p a seen whole bare (ltb-true 0 (evex_number a) e) bytes fits
      | false ↦ λ e. inl (refl, λ rest insn h. h)
    ] refl

evex_verdict : (p : Prefixes) (seen : ℕ) → is_whole p.map ≡ true → is_bare p ≡ true → (bytes : List ℕ) → IsBytes bytes → Verdict (EvexIn p seen) seen bytes (evex_at p seen bytes)
unfolding evex_at
evex_verdict p seen whole bare [] fits = start_evex p seen whole bare
evex_verdict p seen whole bare (a ∷ bytes) fits =
    verdict_cons (EvexIn p seen) (λ t insn. Chosen (ltb 0 (evex_number a)) (EvexSecond p a (seen + 1) t insn) ⊥) seen a bytes
    (cond (ltb 0 (evex_number a)) (evex_second p a (seen + 1) bytes) (Err (Dead (seen + 1)))) (λ t insn h. h) (λ t insn h. h)
    (start_evex p seen whole bare) (evex_by p a (seen + 1) whole bare bytes fits.1)

vex3_or_evex : (b : Bool) (p : Prefixes) (seen : ℕ) → is_whole p.map ≡ true → is_bare p ≡ true → (bytes : List ℕ) → IsBytes bytes
    → Verdict (λ t insn. Chosen b (Vex3In p seen t insn) (EvexIn p seen t insn)) seen bytes (cond b (vex3_at p seen bytes) (evex_at p seen bytes))
vex3_or_evex true p seen whole bare bytes fits = vex3_verdict p seen whole bare bytes fits
vex3_or_evex false p seen whole bare bytes fits = evex_verdict p seen whole bare bytes fits

escaped_by : (v : Bool) (p : Prefixes) (b seen : ℕ) → is_whole p.map ≡ true → is_bare p ≡ true → (bytes : List ℕ) → IsBytes bytes
    → Verdict (λ t insn. Chosen v (Vex2In p seen t insn) (Chosen (eqb b 0xC4) (Vex3In p seen t insn) (EvexIn p seen t insn))) seen bytes (cond v (vex2_at p seen bytes) (cond (eqb b 0xC4) (vex3_at p seen bytes) (evex_at p seen bytes)))
escaped_by true p b seen whole bare bytes fits = vex2_verdict p seen whole bare bytes fits
escaped_by false p b seen whole bare bytes fits = vex3_or_evex (eqb b 0xC4) p seen whole bare bytes fits

by_vector : (v : Bool) (p : Prefixes) (opcode seen : ℕ) → opens_vector p opcode ≡ v → opcode < 256 → (bytes : List ℕ) → IsBytes bytes
    → Verdict (λ t insn. Chosen v (Escaped opcode p seen t insn) (AfterOpcode p 1 opcode seen t insn)) seen bytes (cond v (escaped_at opcode p seen bytes) (operands_at p 1 opcode seen bytes))
by_vector true p opcode seen is lt bytes fits =
    let both : (is_whole p.map && is_bare p) ≡ true = and_left (is_whole p.map && is_bare p) (is_vector_escape opcode) is in
    escaped_by (eqb opcode 0xC5) p opcode seen (and_left (is_whole p.map) (is_bare p) both) (and_right (is_whole p.map) (is_bare p) both) bytes fits
by_vector false p opcode seen is lt bytes fits = operands_verdict p 1 opcode seen (omega arith) (omega arith) lt bytes

by_escape : (b : Bool) (p : Prefixes) (opcode seen : ℕ) → opcode < 256 → (bytes : List ℕ) → IsBytes bytes
    → Verdict (λ t insn. Chosen b (FromTwoByte p seen t insn) (Chosen (opens_vector p opcode) (Escaped opcode p seen t insn) (AfterOpcode p 1 opcode seen t insn))) seen bytes
    (cond b (two_byte_at p seen bytes) (cond (opens_vector p opcode) (escaped_at opcode p seen bytes) (operands_at p 1 opcode seen bytes)))
by_escape true p opcode seen lt bytes fits = two_byte_verdict p seen bytes fits
by_escape false p opcode seen lt bytes fits = by_vector (opens_vector p opcode) p opcode seen refl lt bytes fits

-- what reading answers once this byte was read as the opcode
abbrev pub by_opcode : ℕ → Prefixes → ℕ → List ℕ → Read
by_opcode opcode p seen bytes = cond (eqb opcode 0x0F) (two_byte_at p seen bytes) (cond (opens_vector p opcode) (escaped_at opcode p seen bytes) (operands_at p 1 opcode seen bytes))

opcode_by_verdict : (p : Prefixes) (opcode seen : ℕ) → opcode < 256 → (bytes : List ℕ) → IsBytes bytes → Verdict (OpcodeBy opcode p seen) seen bytes (by_opcode opcode p seen bytes)
opcode_by_verdict p opcode seen lt bytes fits = by_escape (eqb opcode 0x0F) p opcode seen lt bytes fits

pub opcode_verdict : (p : Prefixes) (seen : ℕ) → leads_to p 1 ≡ true → (bytes : List ℕ) → IsBytes bytes → Verdict (FromOpcode p seen) seen bytes (opcode_at p seen bytes)
unfolding opcode_at
opcode_verdict p seen led [] fits = start_opcode p seen led
opcode_verdict p seen led (opcode ∷ bytes) fits =
    verdict_cons (FromOpcode p seen) (OpcodeBy opcode p (seen + 1)) seen opcode bytes (by_opcode opcode p (seen + 1) bytes) (λ t insn h. h) (λ t insn h. h)
    (start_opcode p seen led) (opcode_by_verdict p opcode (seen + 1) fits.0 bytes fits.1)

-- ---- prefixes

by_rex : (v : Bool) (p : Prefixes) (b seen : ℕ) → p.vector ≡ None → is_rex b ≡ v → b < 256 → (bytes : List ℕ) → IsBytes bytes
    → Verdict (λ t insn. Chosen v (FromOpcode (with_rex p b) seen t insn) (OpcodeBy b p seen t insn)) seen bytes (cond v (opcode_at (with_rex p b) seen bytes) (by_opcode b p seen bytes))
by_rex true p b seen free is lt bytes fits = opcode_verdict (with_rex p b) seen (leads_free (with_rex p b) free is) bytes fits
by_rex false p b seen free is lt bytes fits = opcode_by_verdict p b seen lt bytes fits

-- what reading answers once this byte was read as no legacy prefix
abbrev pub by_first : ℕ → Prefixes → ℕ → List ℕ → Read
by_first b p seen bytes = cond (is_rex b) (opcode_at (with_rex p b) seen bytes) (by_opcode b p seen bytes)

pub rex_at-cons : (p : Prefixes) (seen b : ℕ) (bytes : List ℕ) → rex_at p seen (b ∷ bytes) ≡ by_first b p (seen + 1) bytes
unfolding rex_at opcode_at
rex_at-cons p seen b bytes = refl

rex_by_verdict : (p : Prefixes) (b seen : ℕ) → p.vector ≡ None → b < 256 → (bytes : List ℕ) → IsBytes bytes → Verdict (RexBy b p seen) seen bytes (by_first b p seen bytes)
rex_by_verdict p b seen free lt bytes fits = by_rex (is_rex b) p b seen free refl lt bytes fits

pub prefixes_verdict : (p : Prefixes) (seen : ℕ) → p.vector ≡ None → is_rex_valid p.rex ≡ true → (bytes : List ℕ) → IsBytes bytes → Verdict (FromPrefixes p seen) seen bytes (prefixes_at p seen bytes)
unfolding prefixes_at
prefixes_verdict p seen free valid [] fits = start_prefixes p seen (leads_free p free valid)
prefixes_verdict p seen free valid (b ∷ bytes) fits =
    verdict_cons (FromPrefixes p seen) (λ t insn. Chosen (is_legacy b) (FromPrefixes (noted b p) (seen + 1) t insn) (RexBy b p (seen + 1) t insn)) seen b bytes
    (cond (is_legacy b) (prefixes_at (noted b p) (seen + 1) bytes) (rex_at p seen (b ∷ bytes))) (λ t insn h. h) (λ t insn h. h) (start_prefixes p seen (leads_free p free valid))
    (elim (is_legacy b) as (λ v. Verdict (λ t insn. Chosen v (FromPrefixes (noted b p) (seen + 1) t insn) (RexBy b p (seen + 1) t insn)) (seen + 1) bytes (cond v (prefixes_at (noted b p) (seen + 1) bytes) (rex_at p seen (b ∷ bytes)))) [
      | true ↦ prefixes_verdict (noted b p) (seen + 1) free valid bytes fits.1
      | false ↦ subst (λ (r : Read). Verdict (RexBy b p (seen + 1)) (seen + 1) bytes r) (sym (rex_at-cons p seen b bytes)) (rex_by_verdict p b (seen + 1) free fits.0 bytes fits.1)
    ])

pub reading_verdict : (map : Map) (bytes : List ℕ) → IsBytes bytes → Verdict (FromPrefixes (no_prefixes map) 0) 0 bytes (reading map bytes)
unfolding reading
reading_verdict map bytes fits = prefixes_verdict (no_prefixes map) 0 refl refl bytes fits
