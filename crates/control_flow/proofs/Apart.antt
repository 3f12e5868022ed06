-- How instructions without gaps lie to one another.
use Rattle.std.proofs.Common.{◌≡◌, ℕ, ◌+◌, ◌<◌, ◌≤◌, Bool, true, false, cond, List, [], ◌∷◌, length, map, Some, All, Contains, inl, inr, refl, sym, ap, ◌∙◌, subst, arith}
use Rattle.std.specs.Prelude.{◌==◌}
use Rattle.std.proofs.lemmas.Bool.{cases_lt, eq-eqb, eqb-true, false≢true}
use Rattle.std.proofs.lemmas.List.Elements.{All-head, All-tail}
use Rattle.operation_defs.specs.declared.insn.Insn.{Insn}
use Rattle.x86_text.specs.declared.placed.PlacedInsn.{PlacedInsn}
use Rattle.x86_text.specs.Code.{Body, code_of, insn_listed, IsBoundary, IsPreviousBoundary, LeadsTo}
use Rattle.unwinding_law.proofs.Lists as lists
use Rattle.table_law.proofs.Lists.{some_is}
use Rattle.control_flow.specs.Gapless.{EndsAt, IsGapless}

abbrev offset : PlacedInsn → ℕ
offset p = p.off

abbrev IsSome : PlacedInsn → Type 0
IsSome p = 0 < p.insn.len

-- what is found at an offset begins there
from_listed : (code : List PlacedInsn) (off : ℕ) (insn : Insn) → insn_listed code off ≡ Some insn → Contains (map offset code) off
from_listed [] off insn is = absurd (let k : ⊥ = cc in k)
from_listed (p ∷ code) off insn is = go (p.off == off) refl is (λ rest. from_listed code off insn rest)
  where
    go : (b : Bool) → (p.off == off) ≡ b → cond b (Some p.insn) (insn_listed code off) ≡ Some insn → (insn_listed code off ≡ Some insn → Contains (map offset code) off) → Contains (p.off ∷ map offset code) off
    go true e is rest = subst (λ (x : ℕ). Contains (p.off ∷ map offset code) x) (eqb-true p.off off e) (lists.here p.off (map offset code))
    go false e is rest = lists.there p.off (map offset code) off (rest is)

-- and where one begins, one is found
listed_from : (code : List PlacedInsn) (off : ℕ) → Contains (map offset code) off → (insn : Insn) × (insn_listed code off ≡ Some insn)
listed_from [] off c = lists.nowhere off c
listed_from (p ∷ code) off c = go (p.off == off) refl (λ rest. listed_from code off rest)
  where
    go : (b : Bool) → (p.off == off) ≡ b → (Contains (map offset code) off → (insn : Insn) × (insn_listed code off ≡ Some insn)) → (insn : Insn) × (cond b (Some p.insn) (insn_listed code off) ≡ Some insn)
    go true e rest = (p.insn, refl)
    go false e rest = elim (lists.cases p.off (map offset code) off c) [
      | inl same ↦ absurd (false≢true (sym e ∙ eq-eqb p.off off same))
      | inr later ↦ rest later
    ]

some_len : (code : List PlacedInsn) (off : ℕ) (insn : Insn) → All IsSome code → insn_listed code off ≡ Some insn → 0 < insn.len
some_len [] off insn some is = absurd (let k : ⊥ = cc in k)
some_len (p ∷ code) off insn some is = go (p.off == off) is (λ rest. some_len code off insn (All-tail IsSome p code some) rest)
  where
    go : (b : Bool) → cond b (Some p.insn) (insn_listed code off) ≡ Some insn → (insn_listed code off ≡ Some insn → 0 < insn.len) → 0 < insn.len
    go true is rest = subst (λ (i : Insn). 0 < i.len) (some_is is) (All-head IsSome p code some)
    go false is rest = rest is

-- none begins before the first
from_on : (from to : ℕ) (code : List PlacedInsn) (off : ℕ) (insn : Insn) → LeadsTo from code to → insn_listed code off ≡ Some insn → from ≤ off
from_on from to [] off insn leads is = absurd (let k : ⊥ = cc in k)
from_on from to (p ∷ code) off insn leads is = go (p.off == off) refl is (λ rest. from_on (from + p.insn.len) to code off insn leads.1 rest)
  where
    go : (b : Bool) → (p.off == off) ≡ b → cond b (Some p.insn) (insn_listed code off) ≡ Some insn → (insn_listed code off ≡ Some insn → from + p.insn.len ≤ off) → from ≤ off
    go true e is rest = omega (arith, leads.0, eqb-true p.off off e)
    go false e is rest = omega (arith, rest is)

-- of two the first ends where the other begins, or before
apart : (from to : ℕ) (code : List PlacedInsn) (a b : ℕ) (one other : Insn) → LeadsTo from code to → insn_listed code a ≡ Some one → insn_listed code b ≡ Some other → a < b → a + one.len ≤ b
apart from to [] a b one other leads is also before = absurd (let k : ⊥ = cc in k)
apart from to (p ∷ code) a b one other leads is also before =
    go (p.off == a) (p.off == b) refl refl is also (λ h k. apart (from + p.insn.len) to code a b one other leads.1 h k before) (λ h. from_on (from + p.insn.len) to code a one leads.1 h) (λ h. from_on (from + p.insn.len) to code b other leads.1 h)
  where
    go : (first second : Bool) → (p.off == a) ≡ first → (p.off == b) ≡ second → cond first (Some p.insn) (insn_listed code a) ≡ Some one → cond second (Some p.insn) (insn_listed code b) ≡ Some other
        → (insn_listed code a ≡ Some one → insn_listed code b ≡ Some other → a + one.len ≤ b)
        → (insn_listed code a ≡ Some one → from + p.insn.len ≤ a)
        → (insn_listed code b ≡ Some other → from + p.insn.len ≤ b)
        → a + one.len ≤ b
    go true true e f is also rest low high = absurd (omega (arith, eqb-true p.off a e, eqb-true p.off b f, before))
    go true false e f is also rest low high = omega (arith, eqb-true p.off a e, leads.0, ap (λ (i : Insn). i.len) (some_is is), high also)
    go false true e f is also rest low high = absurd (omega (arith, eqb-true p.off b f, leads.0, low is, before))
    go false false e f is also rest low high = rest is also

-- where one begins behind the first, one ends
ends_there : (from to : ℕ) (code : List PlacedInsn) (off : ℕ) (insn : Insn) → LeadsTo from code to → All IsSome code → insn_listed code off ≡ Some insn → from < off → (a : ℕ) × EndsAt code off a
ends_there from to [] off insn leads some is later = absurd (let k : ⊥ = cc in k)
ends_there from to (p ∷ code) off insn leads some is later =
    go (p.off == off) refl is (λ h. from_on (from + p.insn.len) to code off insn leads.1 h) (λ h more. ends_there (from + p.insn.len) to code off insn leads.1 (All-tail IsSome p code some) h more)
  where
    first : EndsAt (p ∷ code) (from + p.insn.len) p.off
    first = record { insn = p.insn; listed = ap (λ b. cond b (Some p.insn) (insn_listed code p.off)) (eq-eqb p.off p.off refl); ends = ap (λ n. n + p.insn.len) leads.0 }

    other : (a : ℕ) → EndsAt code off a → (p.off == a) ≡ false → EndsAt (p ∷ code) off a
    other a at differs = record { insn = at.insn; listed = ap (λ b. cond b (Some p.insn) (insn_listed code a)) differs ∙ at.listed; ends = at.ends }

    differ : (a : ℕ) → EndsAt code off a → (b : Bool) → (p.off == a) ≡ b → b ≡ false
    differ a at false e = refl
    differ a at true e = absurd (omega (arith, leads.0, eqb-true p.off a e, from_on (from + p.insn.len) to code a at.insn leads.1 at.listed, All-head IsSome p code some))

    go : (b : Bool) → (p.off == off) ≡ b → cond b (Some p.insn) (insn_listed code off) ≡ Some insn → (insn_listed code off ≡ Some insn → from + p.insn.len ≤ off)
        → (insn_listed code off ≡ Some insn → from + p.insn.len < off → (a : ℕ) × EndsAt code off a) → (a : ℕ) × EndsAt (p ∷ code) off a
    go true e is low rest = absurd (omega (arith, leads.0, eqb-true p.off off e, later))
    go false e is low rest = elim (cases_lt (from + p.insn.len) off) [
      | inl less ↦ let r = rest is less in (r.0, other r.0 r.1 (differ r.0 r.1 (p.off == r.0) refl))
      | inr not_less ↦ let here : from + p.insn.len ≡ off = omega (arith, low is, not_less) in (p.off, subst (λ (x : ℕ). EndsAt (p ∷ code) x p.off) here first)
    ]

-- ---- in a body without gaps
module _ (body : Body) (off : ℕ) (gapless : IsGapless body) where
  -- one that ends at an offset begins at a boundary below it
  begins : (a : ℕ) → EndsAt (code_of body) off a → IsBoundary body a × (a < off)
  begins a at = ((gapless.boundaries a).1 (from_listed (code_of body) a at.insn at.listed), omega (arith, some_len (code_of body) a at.insn gapless.some at.listed, at.ends))

  -- where no boundary is below, none ends
  pub none_ends : ((b : ℕ) → IsBoundary body b → off ≤ b) → (a : ℕ) → EndsAt (code_of body) off a → ⊥
  none_ends none a at = let own = begins a at in omega (arith, none a own.0, own.1)

  -- only the one at the last boundary below may
  pub only_last : (last : ℕ) → IsPreviousBoundary body off last → (a : ℕ) → EndsAt (code_of body) off a → a ≡ last
  only_last last is a at =
      let own = begins a at in
      let found = listed_from (code_of body) last ((gapless.boundaries last).0 is.boundary) in
      elim (cases_lt a last) [
        | inl less ↦ absurd (omega (arith, apart 0 (length body.bytes) (code_of body) a last at.insn found.0 gapless.whole at.listed found.1 less, at.ends, is.below))
        | inr not_less ↦ omega (arith, not_less, is.greatest a own.0 own.1)
      ]

  -- and where one begins, it does
  pub last_ends : (last : ℕ) (insn : Insn) → IsPreviousBoundary body off last → insn_listed (code_of body) off ≡ Some insn → EndsAt (code_of body) off last
  last_ends last insn is here =
      let one = ends_there 0 (length body.bytes) (code_of body) off insn gapless.whole gapless.some here (omega (arith, is.below)) in
      subst (λ (a : ℕ). EndsAt (code_of body) off a) (only_last last is one.0 one.1) one.1

  -- one that ends at an offset begins at the last boundary below it
  pub ends_last : (a : ℕ) → EndsAt (code_of body) off a → IsPreviousBoundary body off a
  ends_last a at =
      let own = begins a at in
      record {
        boundary = own.0;
        below = own.1;
        greatest = λ b is before. elim (cases_lt a b) [
          | inl less ↦
              let found = listed_from (code_of body) b ((gapless.boundaries b).0 is) in
              absurd (omega (arith, apart 0 (length body.bytes) (code_of body) a b at.insn found.0 gapless.whole at.listed found.1 less, at.ends, before))
          | inr not_less ↦ omega (arith, not_less)
        ];
      }
