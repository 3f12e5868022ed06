use Rattle.std.proofs.Common.{◌≡◌, ℕ, ◌+◌, ◌++◌, ◌∷◌, [], List, Some, length, get_or, sym, ap, ◌∙◌, arith}
use Rattle.std.specs.Prelude.{slice_get}
use Rattle.std.proofs.Math.Seq.{get_or-append_seam}
use Rattle.std.proofs.lemmas.List.{length_push}
use Rattle.std.proofs.lemmas.Option.{get_or_from_slice_get}
use Rattle.operation_defs.specs.declared.insn.Insn.{Insn}
use Rattle.x86_text.specs.declared.placed.PlacedInsn.{PlacedInsn}
use Rattle.x86_text.proofs.text.push_last.Goals as goal

-- the one at the last number is the last
last_is : (xs before : List Insn) (last insn : Insn) (k : ℕ) → xs ≡ before ++ last ∷ [] → k + 1 ≡ length xs → slice_get xs k ≡ Some insn → insn ≡ last
last_is xs before last insn k is at here =
    let n : k ≡ length before = omega (arith, at, ap length is, length_push before last) in
    sym (get_or_from_slice_get xs k insn insn here)
    ∙ ap (λ (ys : List Insn). get_or ys k insn) is
    ∙ ap (λ (m : ℕ). get_or (before ++ last ∷ []) m insn) n
    ∙ get_or-append_seam before last [] insn

pub returns : goal.returns
returns c = λ before last is.
    let insns : List Insn = c.args.insns.now in
    let jumps : List PlacedInsn = c.args.jumps.now.items in
    c.in_ok-push.ensures.items
    ∙ ap (λ (x : Insn). jumps ++ (let p : PlacedInsn = record { off = c.args.off; insn = x } in p) ∷ [])
    (last_is insns before last c.get-insn.result _ is (omega (arith, c.requires, c.len.ensures)) c.get-insn.ensures)
