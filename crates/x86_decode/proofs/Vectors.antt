-- The maps that VEX and EVEX lead to.
use Rattle.std.proofs.Common.{◌≡◌, ℕ, ◌+◌, ◌<◌, ◌≤◌, true, false, cond, eqb, leb, refl, sym, subst, arith}
use Rattle.std.specs.Prelude.{◌&&◌, ◌%◌, Option, None}
use Rattle.std.proofs.lemmas.Bool.{leb-true}
use Rattle.x86_map.specs.declared.map.Map.{Map}
use Rattle.x86_map.specs.declared.map.Map.TheVariants.{Base, Whole}
use Rattle.x86_map.specs.declared.vector.Vector.{Vector}
use Rattle.x86_map.specs.declared.vector.Vector.TheVariants.{Vex2, Vex3, Evex}
use Rattle.x86_map.specs.declared.prefixes.Prefixes.{Prefixes}
use Rattle.x86_map.specs.Vector.{pp, vex_number, evex_number, is_evex_second, number_of}
use Rattle.x86_map.specs.Prefixes.{under_66, is_bare, is_rex_valid, leads, leads_to}
use Rattle.x86_map.specs.OpcodeMap.{stands, stands_in, stands_added}
use Rattle.x86_map.proofs.Accepting.{and_left, and_right, by_number}
use Rattle.x86_decode.specs.Reading.{with_vector, is_whole}

-- ---- numbers

pub vex_range : (a : ℕ) → 0 < vex_number a → (4 < vex_number a) × (vex_number a < 8)
vex_range a h =
    let m = a % 32 in
    elim (leb 1 m && leb m 3) as (λ b. (leb 1 m && leb m 3) ≡ b → 0 < cond b (m + 4) 0 → (4 < cond b (m + 4) 0) × (cond b (m + 4) 0 < 8)) [
      | true ↦ λ e k.
          let low : 1 ≤ m = leb-true 1 m (and_left (leb 1 m) (leb m 3) e) in
          let high : m ≤ 3 = leb-true m 3 (and_right (leb 1 m) (leb m 3) e) in
          (omega arith, omega arith)
      | false ↦ λ e k. absurd (omega arith)
    ] refl h

evex_high : (m : ℕ) → 0 < cond (leb 5 m && leb m 6) (m + 6) 0 → (7 < cond (leb 5 m && leb m 6) (m + 6) 0) × (cond (leb 5 m && leb m 6) (m + 6) 0 < 13)
evex_high m h =
    elim (leb 5 m && leb m 6) as (λ b. (leb 5 m && leb m 6) ≡ b → 0 < cond b (m + 6) 0 → (7 < cond b (m + 6) 0) × (cond b (m + 6) 0 < 13)) [
      | true ↦ λ e k.
          let low : 5 ≤ m = leb-true 5 m (and_left (leb 5 m) (leb m 6) e) in
          let high : m ≤ 6 = leb-true m 6 (and_right (leb 5 m) (leb m 6) e) in
          (omega arith, omega arith)
      | false ↦ λ e k. absurd (omega arith)
    ] refl h

pub evex_range : (a : ℕ) → 0 < evex_number a → (7 < evex_number a) × (evex_number a < 13)
evex_range a h =
    let m = a % 16 in
    let other : ℕ = cond (leb 5 m && leb m 6) (m + 6) 0 in
    elim (leb 1 m && leb m 3) as (λ b. (leb 1 m && leb m 3) ≡ b → 0 < cond b (m + 7) other → (7 < cond b (m + 7) other) × (cond b (m + 7) other < 13)) [
      | true ↦ λ e k.
          let low : 1 ≤ m = leb-true 1 m (and_left (leb 1 m) (leb m 3) e) in
          let high : m ≤ 3 = leb-true m 3 (and_right (leb 1 m) (leb m 3) e) in
          (omega arith, omega arith)
      | false ↦ λ e k. evex_high m k
    ] refl h

evex_parts : (a b : ℕ) → 0 < number_of (Evex a b 0) → (is_evex_second b ≡ true) × (0 < evex_number a)
evex_parts a b h = elim (is_evex_second b) as (λ v. 0 < cond v (evex_number a) 0 → (v ≡ true) × (0 < evex_number a)) [
  | true ↦ λ k. (refl, k)
  | false ↦ λ k. absurd (omega arith)
] h

-- the second byte of EVEX, and the map that the first one names
pub evex_known : (a b c : ℕ) → 0 < number_of (Evex a b c) → (is_evex_second b ≡ true) × (0 < evex_number a)
evex_known a b c h = evex_parts a b h

pub evex_number_of : (a b c : ℕ) → is_evex_second b ≡ true → number_of (Evex a b c) ≡ evex_number a
evex_number_of a b c second = rw second refl

pub number_range : (v : Vector) → 0 < number_of v → (4 < number_of v) × (number_of v < 13)
number_range (Vex2 a) h = (omega arith, omega arith)
number_range (Vex3 a b) h = let r = vex_range a h in (r.0, omega (arith, r.1))
number_range (Evex a b c) h =
    let k = evex_known a b c h in
    let r = evex_range a k.1 in
    subst (λ (n : ℕ). (4 < n) × (n < 13)) (sym (evex_number_of a b c k.0)) (omega (arith, r.0), r.1)

-- ---- whether some opcode stands there

abbrev StandsFrom : Prefixes → ℕ → Type 0
StandsFrom q number = 4 < number → (number ≡ 7 → under_66 q ≡ true) → stands_in q number ≡ true

-- in the whole map some opcode stands in each map of VEX and EVEX
stands_whole : (q : Prefixes) → q.map ≡ Whole → (number : ℕ) → 0 < number → number < 13 → StandsFrom q number
stands_whole q whole = by_number (StandsFrom q) (λ h o. absurd (omega arith)) (λ h o. absurd (omega arith)) (λ h o. absurd (omega arith)) (λ h o. absurd (omega arith))
    (λ h o. subst (λ (m : Map). stands_added m q 5 ≡ true) (sym whole) refl) (λ h o. subst (λ (m : Map). stands_added m q 6 ≡ true) (sym whole) refl)
    (λ h o. subst (λ (m : Map). stands_added m q 7 ≡ true) (sym whole) (rw (o refl) refl))
    (λ h o. subst (λ (m : Map). stands_added m q 8 ≡ true) (sym whole) refl) (λ h o. subst (λ (m : Map). stands_added m q 9 ≡ true) (sym whole) refl)
    (λ h o. subst (λ (m : Map). stands_added m q 10 ≡ true) (sym whole) refl) (λ h o. subst (λ (m : Map). stands_added m q 11 ≡ true) (sym whole) refl)
    (λ h o. subst (λ (m : Map). stands_added m q 12 ≡ true) (sym whole) refl)

whole_added : (m : Map) (q : Prefixes) (number : ℕ) → stands_added m q number ≡ true → is_whole m ≡ true
whole_added Base q number h = absurd cc
whole_added Whole q number h = refl

abbrev WholeFrom : Prefixes → ℕ → Type 0
WholeFrom q number = 4 < number → stands_in q number ≡ true → is_whole q.map ≡ true

-- the base map has none of them
whole_in : (q : Prefixes) (number : ℕ) → 0 < number → number < 13 → WholeFrom q number
whole_in q = by_number (WholeFrom q) (λ h k. absurd (omega arith)) (λ h k. absurd (omega arith)) (λ h k. absurd (omega arith)) (λ h k. absurd (omega arith))
    (λ h k. whole_added q.map q 5 k) (λ h k. whole_added q.map q 6 k) (λ h k. whole_added q.map q 7 k) (λ h k. whole_added q.map q 8 k)
    (λ h k. whole_added q.map q 9 k) (λ h k. whole_added q.map q 10 k) (λ h k. whole_added q.map q 11 k) (λ h k. whole_added q.map q 12 k)

pub whole_stands : (q : Prefixes) (number : ℕ) → 0 < number → number < 13 → 4 < number → stands q number ≡ true → is_whole q.map ≡ true
whole_stands q number low high from h = whole_in q number low high from (and_right (leads_to q number) (stands_in q number) h)

whole_is : (m : Map) → is_whole m ≡ true → m ≡ Whole
whole_is Base h = absurd cc
whole_is Whole h = refl

eqb_same : (n : ℕ) → eqb n n ≡ true
eqb_same n = grind arith

-- behind bare prefixes VEX or EVEX leads to a map where some opcode stands
pub vector_stands : (p : Prefixes) (v : Vector) → is_whole p.map ≡ true → is_bare p ≡ true → 0 < number_of v → (number_of v ≡ 7 → eqb (pp v) 1 ≡ true) → stands (with_vector p v) (number_of v) ≡ true
vector_stands p v whole bare known o =
    let r = number_range v known in
    rw (bare, eqb_same (number_of v)) (stands_whole (with_vector p v) (whole_is p.map whole) (number_of v) known r.1 r.0 o)

-- ---- without VEX and EVEX

pub leads_free : (p : Prefixes) → p.vector ≡ None → is_rex_valid p.rex ≡ true → leads_to p 1 ≡ true
leads_free p free valid = subst (λ (o : Option Vector). leads o p 1 ≡ true) (sym free) valid

pub bare_led : (p : Prefixes) (v : Vector) (number : ℕ) → leads_to (with_vector p v) number ≡ true → is_bare p ≡ true
bare_led p v number led = and_left (is_bare p) (eqb (number_of v) number) led
