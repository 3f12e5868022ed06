-- Instructions end where their body does, or before.
use Rattle.std.proofs.Common.{◌≡◌, ℕ, zero, suc, ◌+◌, ◌<◌, ◌≤◌, Bool, true, false, cond, List, [], ◌∷◌, length, get_or, filter, arith}
use Rattle.x86_text.specs.declared.placed.PlacedInsn.{PlacedInsn}
use Rattle.x86_text.specs.Code.{LeadsTo}

leads_up : (off : ℕ) (code : List PlacedInsn) (to : ℕ) → LeadsTo off code to → off ≤ to
leads_up off [] to leads = let same : off ≡ to = leads in omega arith
leads_up off (p ∷ ps) to leads = let rest : off + p.insn.len ≤ to = leads_up (off + p.insn.len) ps to leads.1 in omega arith

pub ends_low : (off : ℕ) (code : List PlacedInsn) (to : ℕ) → LeadsTo off code to → (k : ℕ) (d : PlacedInsn) → k < length code → (get_or code k d).off + (get_or code k d).insn.len ≤ to
ends_low off [] to leads k d inside = absurd (omega arith)
ends_low off (p ∷ ps) to leads zero d inside =
    let here : p.off ≡ off = leads.0 in
    let rest : off + p.insn.len ≤ to = leads_up (off + p.insn.len) ps to leads.1 in
    omega arith
ends_low off (p ∷ ps) to leads (suc k) d inside = ends_low (off + p.insn.len) ps to leads.1 k d (omega arith)

-- each of these ends there, or before
abbrev pub EndLow : List PlacedInsn → ℕ → Type 0
EndLow code to = (k : ℕ) (d : PlacedInsn) → k < length code → (get_or code k d).off + (get_or code k d).insn.len ≤ to

one_more : (p : PlacedInsn) (ps : List PlacedInsn) (to : ℕ) → p.off + p.insn.len ≤ to → EndLow ps to → EndLow (p ∷ ps) to
one_more p ps to here rest zero d inside = here
one_more p ps to here rest (suc k) d inside = rest k d (omega arith)

pub filtered_low : (f : PlacedInsn → Bool) (off : ℕ) (code : List PlacedInsn) (to : ℕ) → LeadsTo off code to → EndLow (filter f code) to
filtered_low f off [] to leads = λ k d inside. absurd (omega arith)
filtered_low f off (p ∷ ps) to leads =
    let here : p.off + p.insn.len ≤ to =
    let at : p.off ≡ off = leads.0 in
    let rest : off + p.insn.len ≤ to = leads_up (off + p.insn.len) ps to leads.1 in
    omega arith in
    elim (f p) as (λ b. EndLow (cond b (p ∷ filter f ps) (filter f ps)) to) [
      | true ↦ one_more p (filter f ps) to here (filtered_low f (off + p.insn.len) ps to leads.1)
      | false ↦ filtered_low f (off + p.insn.len) ps to leads.1
    ]
