-- The instructions of a body, from one boundary to the next.
use Rattle.std.proofs.Common.{◌≡◌, ℕ, zero, suc, ◌+◌, ◌-◌, ◌<◌, List, [], ◌∷◌, length, drop, Ok, arith, refl, sym, ap, ◌∙◌}
use Rattle.operation_defs.specs.declared.insn.Insn.{Insn}
use Rattle.x86_map.specs.declared.map.Map.{Map}
use Rattle.x86_decode.specs.Decoding.{decoded}
use Rattle.x86_text.specs.declared.placed.PlacedInsn.{PlacedInsn}
use Rattle.x86_text.specs.Code.{code_from, with_rest}

-- the bytes of the instruction before are passed by
code_from_skip : (map : Map) (skip off : ℕ) (bytes : List ℕ) → code_from map skip off bytes ≡ code_from map 0 (off + skip) (drop skip bytes)
code_from_skip map zero off bytes = ap (λ o. code_from map 0 o bytes) (omega arith)
code_from_skip map (suc skip) off [] = refl
code_from_skip map (suc skip) off (b ∷ bytes) =
    code_from_skip map skip (off + 1) bytes
    ∙ ap (λ o. code_from map 0 o (drop skip bytes)) (omega arith)

-- an instruction, and those behind it
pub code_from_more : (map : Map) (off : ℕ) (bytes : List ℕ) (insn : Insn) → 0 < length bytes → decoded map bytes ≡ Ok insn → 0 < insn.len → code_from map 0 off bytes ≡ record { off = off; insn = insn } ∷ code_from map 0 (off + insn.len) (drop insn.len bytes)
code_from_more map off [] insn some here long = absurd (omega arith)
code_from_more map off (b ∷ bytes) insn some here long =
    let behind : (k : ℕ) → insn.len ≡ suc k → code_from map (insn.len - 1) (off + 1) bytes ≡ code_from map 0 (off + insn.len) (drop insn.len (b ∷ bytes)) = λ k is.
    ap (λ n. code_from map n (off + 1) bytes) (omega (arith, is))
    ∙ code_from_skip map k (off + 1) bytes
    ∙ ap (λ o. code_from map 0 o (drop k bytes)) (omega (arith, is))
    ∙ ap (λ n. code_from map 0 (off + insn.len) (drop n (b ∷ bytes))) (sym is) in
    let pred : insn.len ≡ suc (insn.len - 1) = omega arith in
    ap (λ d. with_rest off d (λ skip. code_from map skip (off + 1) bytes)) here
    ∙ ap (λ (rest : List PlacedInsn). record { off = off; insn = insn } ∷ rest) (behind (insn.len - 1) pred)
