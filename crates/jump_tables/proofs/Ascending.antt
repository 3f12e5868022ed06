-- Instructions that follow one another ascend.
use Rattle.std.proofs.Common.{◌≡◌, ℕ, zero, suc, ◌+◌, ◌<◌, ◌≤◌, List, [], ◌∷◌, length, get_or, arith}
use Rattle.std.specs.List.{All}
use Rattle.std.proofs.lemmas.List.Elements.{All-head, All-tail}
use Rattle.x86_text.specs.declared.placed.PlacedInsn.{PlacedInsn}
use Rattle.x86_text.specs.Code.{LeadsTo}
use Rattle.jump_tables.specs.Jumps.{IsAscending}

abbrev IsSome : PlacedInsn → Type 0
IsSome p = 0 < p.insn.len

from_on : (off : ℕ) (code : List PlacedInsn) (to : ℕ) → LeadsTo off code to → (k : ℕ) (d : PlacedInsn) → k < length code → off ≤ (get_or code k d).off
from_on off [] to leads k d inside = absurd (omega arith)
from_on off (p ∷ ps) to leads zero d inside = let here : p.off ≡ off = leads.0 in omega arith
from_on off (p ∷ ps) to leads (suc k) d inside =
    let rest : off + p.insn.len ≤ (get_or ps k d).off = from_on (off + p.insn.len) ps to leads.1 k d (omega arith) in omega arith

pub ascends : (off : ℕ) (code : List PlacedInsn) (to : ℕ) → LeadsTo off code to → All IsSome code → IsAscending code
ascends off [] to leads some i j d lower inside = absurd (omega arith)
ascends off (p ∷ ps) to leads some zero zero d lower inside = absurd (omega arith)
ascends off (p ∷ ps) to leads some (suc i) zero d lower inside = absurd (omega arith)
ascends off (p ∷ ps) to leads some zero (suc j) d lower inside =
    let here : p.off ≡ off = leads.0 in
    let long : 0 < p.insn.len = All-head IsSome p ps some in
    let rest : off + p.insn.len ≤ (get_or ps j d).off = from_on (off + p.insn.len) ps to leads.1 j d (omega arith) in omega arith
ascends off (p ∷ ps) to leads some (suc i) (suc j) d lower inside =
    ascends (off + p.insn.len) ps to leads.1 (All-tail IsSome p ps some) i j d (omega arith) (omega arith)
