-- The instruction that has a byte is the last that begins at the byte or before it.
use Rattle.std.proofs.Common.{◌≡◌, ◌↔◌, ℕ, ◌+◌, ◌<◌, ◌≤◌, Bool, true, false, cond, List, [], ◌∷◌, length, map, get_or, Contains, Some, None, refl, sym, ap, ◌∙◌, subst, inl, inr, arith}
use Rattle.std.specs.Prelude.{◌==◌, All, find, nat_le, nat_lt}
use Rattle.std.proofs.lemmas.Bool.{and_from, and_parts, and_right, cases_lt, eqb-true, le-leb, le-ltb, lt-ltb, ltb-true}
use Rattle.std.proofs.lemmas.List.{get_or-map, length-map}
use Rattle.std.proofs.lemmas.List.Elements.{All-head, All-tail}
use Rattle.std.proofs.lemmas.Option.{none-some}
use Rattle.operation_defs.specs.declared.insn.Insn.{Insn}
use Rattle.x86_text.specs.declared.placed.PlacedInsn.{PlacedInsn}
use Rattle.x86_text.specs.Code.{Body, IsBoundary, IsPreviousBoundary, LeadsTo, code_of, insn_listed, offsets_of}
use Rattle.taken_places.specs.Taken.{has_byte}

-- what is listed behind an offset begins there or later
from_on : (from to : ℕ) (code : List PlacedInsn) (b : ℕ) (insn : Insn) → LeadsTo from code to → insn_listed code b ≡ Some insn → from ≤ b
from_on from to [] b insn leads e = absurd (none-some _ e)
from_on from to (q ∷ code) b insn leads e = by_test (λ h. from_on (from + q.insn.len) to code b insn leads.1 h) (q.off == b) refl e
  where
    by_test : (insn_listed code b ≡ Some insn → from + q.insn.len ≤ b) → (t : Bool) → (q.off == b) ≡ t → cond t (Some q.insn) (insn_listed code b) ≡ Some insn → from ≤ b
    by_test later true here h = let same = eqb-true q.off b here in let at = leads.0 in omega arith
    by_test later false other h = let rest = later h in omega arith

-- no instruction begins between two offsets
abbrev pub NoneBetween : ℕ → ℕ → List PlacedInsn → Type 0
NoneBetween b off code = All (λ (p : PlacedInsn). p.off ≤ off → p.off ≤ b) code

placed_alike : (q : PlacedInsn) (b : ℕ) (insn : Insn) → q.off ≡ b → q.insn ≡ insn → ◌≡◌ {A = PlacedInsn} q (record { off = b; insn = insn })
placed_alike q b insn at is = made q.off b q.insn insn at is
  where
    made : (x x' : ℕ) (i i' : Insn) → x ≡ x' → i ≡ i' → ◌≡◌ {A = PlacedInsn} (record { off = x; insn = i }) (record { off = x'; insn = i' })
    made x x' i i' e f = cc

pub over_is : (from to off : ℕ) (code : List PlacedInsn) (b : ℕ) (insn : Insn) → LeadsTo from code to → All (λ (p : PlacedInsn). 0 < p.insn.len) code → insn_listed code b ≡ Some insn
    → b ≤ off → off < to → NoneBetween b off code → find (has_byte off) code ≡ Some (record { off = b; insn = insn })
over_is from to off [] b insn leads some e low high none = absurd (none-some _ e)
over_is from to off (q ∷ code) b insn leads some e low high none =
    by_test (λ h. over_is (from + q.insn.len) to off code b insn leads.1 (All-tail (λ (p : PlacedInsn). 0 < p.insn.len) q code some) h low high (All-tail (λ (p : PlacedInsn). p.off ≤ off → p.off ≤ b) q code none)) (q.off == b) refl e
  where
    at : q.off ≡ from
    at = leads.0

    len : 0 < q.insn.len
    len = All-head (λ (p : PlacedInsn). 0 < p.insn.len) q code some

    ends_behind : q.off ≡ b → (rest : List PlacedInsn) → LeadsTo (from + q.insn.len) rest to → NoneBetween b off rest → off < q.off + q.insn.len
    ends_behind here [] l n = omega (arith, l)
    ends_behind here (r ∷ rest) l n = elim (cases_lt off (q.off + q.insn.len)) [
      | inl inside ↦ inside
      | inr beyond ↦ absurd (let begins : r.off ≡ from + q.insn.len = l.0 in let back : r.off ≤ b = All-head (λ (p : PlacedInsn). p.off ≤ off → p.off ≤ b) r rest n (omega (arith, at, begins, beyond)) in omega (arith, at, len, here, begins, back))
    ]

    by_test : (insn_listed code b ≡ Some insn → find (has_byte off) code ≡ Some (record { off = b; insn = insn })) → (t : Bool) → (q.off == b) ≡ t → cond t (Some q.insn) (insn_listed code b) ≡ Some insn → find (has_byte off) (q ∷ code) ≡ Some (record { off = b; insn = insn })
    by_test rest true here h =
        let same = eqb-true q.off b here in
        let inside = ends_behind same code leads.1 (All-tail (λ (p : PlacedInsn). p.off ≤ off → p.off ≤ b) q code none) in
        let has : has_byte off q ≡ true = and_from (nat_le q.off off) (nat_lt off (q.off + q.insn.len)) (le-leb q.off off (omega arith)) (lt-ltb off (q.off + q.insn.len) inside) in
        ap (λ (t : Bool). cond t (Some q) (find (has_byte off) code)) has ∙ ap (λ (x : PlacedInsn). Some x) (placed_alike q b insn same (let k = h in cc))
    by_test rest false other h =
        let later : from + q.insn.len ≤ b = from_on (from + q.insn.len) to code b insn leads.1 h in
        let misses : has_byte off q ≡ false = and_right (nat_le q.off off) (nat_lt off (q.off + q.insn.len)) (le-ltb off (q.off + q.insn.len) (omega (arith, at, later, low))) in
        ap (λ (t : Bool). cond t (Some q) (find (has_byte off) code)) misses
        ∙ rest h

-- past the body's end there is none
leads_up : (from to : ℕ) (code : List PlacedInsn) → LeadsTo from code to → from ≤ to
leads_up from to [] leads = omega (arith, leads)
leads_up from to (q ∷ code) leads = let rest = leads_up (from + q.insn.len) to code leads.1 in omega arith

pub over_none : (from to off : ℕ) (code : List PlacedInsn) → LeadsTo from code to → to ≤ off → find (has_byte off) code ≡ None
over_none from to off [] leads beyond = refl
over_none from to off (q ∷ code) leads beyond =
    let at = leads.0 in
    let rest = leads_up (from + q.insn.len) to code leads.1 in
    let misses : has_byte off q ≡ false = and_right (nat_le q.off off) (nat_lt off (q.off + q.insn.len)) (le-ltb off (q.off + q.insn.len) (omega arith)) in
    ap (λ (t : Bool). cond t (Some q) (find (has_byte off) code)) misses ∙ over_none (from + q.insn.len) to off code leads.1 beyond

-- where an instruction is the last that begins at an offset or before it
pub none_between : (begin off : ℕ) (code : List PlacedInsn) → ((b : ℕ) → Contains (map (λ p. p.off) code) b → b < off + 1 → b ≤ begin) → NoneBetween begin off code
none_between begin off code greatest k d inside low =
    let b : ℕ = (get_or code k d).off in
    greatest b (k, omega (arith, length-map code (λ (p : PlacedInsn). p.off), inside), get_or-map (λ (p : PlacedInsn). p.off) code k d b inside) (omega (arith, low))

-- in no code there is none
pub over_nothing : (off : ℕ) (code : List PlacedInsn) → length code ≡ 0 → find (has_byte off) code ≡ None
over_nothing off [] e = refl
over_nothing off (q ∷ code) e = let k : ⊥ = omega (arith, e) in absurd k

-- what has the byte begins at it or before it, and ends behind it
pub finds_over : (off : ℕ) (code : List PlacedInsn) (p : PlacedInsn) → find (has_byte off) code ≡ Some p → has_byte off p ≡ true
finds_over off (q ∷ code) p e = by_test (λ h. finds_over off code p h) (has_byte off q) refl e
  where
    by_test : (find (has_byte off) code ≡ Some p → has_byte off p ≡ true) → (t : Bool) → has_byte off q ≡ t → cond t (Some q) (find (has_byte off) code) ≡ Some p → has_byte off p ≡ true
    by_test rest true has h = let same : q ≡ p = let k = h in cc in subst (λ (x : PlacedInsn). has_byte off x ≡ true) same has
    by_test rest false misses h = rest h
finds_over off [] p e = absurd (none-some p e)

pub over_ends : (off : ℕ) (p : PlacedInsn) → has_byte off p ≡ true → off < p.off + p.insn.len
over_ends off p has = ltb-true off (p.off + p.insn.len) (and_parts (nat_le p.off off) (nat_lt off (p.off + p.insn.len)) has).1

-- the last instruction that begins at a byte of a body of code or before it has the byte
pub over_found : (body : Body) (off begin : ℕ) (insn : Insn) → All (λ (p : PlacedInsn). 0 < p.insn.len) (code_of body) → LeadsTo 0 (code_of body) (length body.bytes) → ((b : ℕ) → IsBoundary body b ↔ Contains (offsets_of body) b)
    → IsPreviousBoundary body (off + 1) begin → Some insn ≡ insn_listed (code_of body) begin → off < length body.bytes → find (has_byte off) (code_of body) ≡ Some (record { off = begin; insn = insn })
over_found body off begin insn some whole bounds last listed inside =
    let low : begin ≤ off = omega (arith, last.below) in
    over_is 0 (length body.bytes) off (code_of body) begin insn whole some (sym listed) low inside (none_between begin off (code_of body) (λ b has before. last.greatest b ((bounds b).1 has) before))
