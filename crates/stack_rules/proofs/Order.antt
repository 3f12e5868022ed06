-- The order of places and of site points.
use Rattle.std.proofs.Common.{◌≡◌, ◌⊎◌, ℕ, ◌<◌, ◌≤◌, Bool, true, false, cond, List, All, length, get_or, inl, inr, arith, refl, ap, sym, ◌∙◌, subst}
use Rattle.std.specs.Cmp.{IsTotalOrder}
use Rattle.std.specs.declared.cmp.Ordering.{Ordering}
use Rattle.std.specs.List.Sorted.{IsSortedByKey}
use Rattle.std.specs.Ordering.{nat_cmp, is_lt, ordering_then}
use Rattle.std.proofs.lemmas.Bool.{cases_order, lt-ltb}
use Rattle.std.proofs.lemmas.Bool.Decides.{nat_tests}
use Rattle.std.proofs.lemmas.Cmp.{nat_cmp_total, on_total, then_total}
use Rattle.std.proofs.lemmas.List.MinMax.{ranks_by}
use Rattle.std.proofs.lemmas.List.Sorted.{sorted_far}
use Rattle.ot_base.specs.declared.place.Place.{Place}
use Rattle.ot_base.specs.Places.{is_before}
use Rattle.machine_defs.specs.Program.{Program}
use Rattle.program_graph.specs.declared.parts.GraphSite.{GraphSite as OwnSite}
use Rattle.stack_rules.specs.Points.{ComesBefore, AreInOrder, address_by_number, key_by_number, nowhere}

abbrev pub place_cmp : Place → Place → Ordering
place_cmp p q = ordering_then (nat_cmp p.sec q.sec) (nat_cmp p.off q.off)

place_total : IsTotalOrder place_cmp
place_total = then_total (on_total (λ (p : Place). p.sec) nat_cmp_total) (on_total (λ (p : Place). p.off) nat_cmp_total)

abbrev pub key_cmp : Place × ℕ → Place × ℕ → Ordering
key_cmp x y = ordering_then (place_cmp x.0 y.0) (nat_cmp x.1 y.1)

key_total : IsTotalOrder key_cmp
key_total = then_total (on_total (λ (x : Place × ℕ). x.0) place_total) (on_total (λ (x : Place × ℕ). x.1) nat_cmp_total)

not_lower : (a b c d : ℕ) → is_lt (ordering_then (nat_cmp a c) (nat_cmp b d)) ≡ false → is_lt (ordering_then (nat_cmp a c) (nat_cmp b d)) ≡ false
not_lower a b c d h = grind (arith, nat_tests)

-- sites that are sorted by their starts ascend
pub sites_ascend : (sites : List OwnSite) → IsSortedByKey (λ (s : OwnSite). s.start) place_cmp sites → (i j : ℕ) (d : OwnSite) → i ≤ j → j < length sites → is_before (get_or sites j d).start (get_or sites i d).start ≡ false
sites_ascend sites up i j d order inside =
    not_lower (get_or sites j d).start.sec (get_or sites j d).start.off (get_or sites i d).start.sec (get_or sites i d).start.off
    (sorted_far (λ (x y : OwnSite). is_lt (place_cmp x.start y.start)) (ranks_by place_total (λ (s : OwnSite). s.start)) sites up i j d order inside)

lower_place : (a b v c d w : ℕ) → is_lt (ordering_then (ordering_then (nat_cmp a c) (nat_cmp b d)) (nat_cmp v w)) ≡ false → is_lt (ordering_then (nat_cmp a c) (nat_cmp b d)) ≡ true → ⊥
lower_place a b v c d w h k = grind (arith, nat_tests)

lower_variant : (a b v c d w : ℕ) → is_lt (ordering_then (ordering_then (nat_cmp a c) (nat_cmp b d)) (nat_cmp v w)) ≡ false → a ≡ c → b ≡ d → v < w → ⊥
lower_variant a b v c d w h e f l = grind (arith, nat_tests)

-- where a point runs, by its number
pub address_is : (p : Program) (n : ℕ) → n < p.count → address_by_number p n ≡ p.address n
address_is p n l = ap (λ (b : Bool). cond b (p.address n) nowhere) (lt-ltb n p.count l)

pub key_is : (p : Program) (n : ℕ) → n < p.count → key_by_number p n ≡ (p.address n, p.variant n)
key_is p n l = ap (λ (b : Bool). cond b (p.address n, p.variant n) (nowhere, 0)) (lt-ltb n p.count l)

-- points that are sorted by address and variant are in order
pub points_in_order : (p : Program) (points : List ℕ) → All (λ q. q < p.count) points → IsSortedByKey (key_by_number p) key_cmp points → AreInOrder p points
points_in_order p points known up i j d order inside =
    go (get_or points j d) (get_or points i d) (known j d inside) (known i d (omega arith)) (sorted_far (λ (q r : ℕ). is_lt (key_cmp (key_by_number p q) (key_by_number p r))) (ranks_by key_total (key_by_number p)) points up i j d order inside)
  where
    away : (q r : ℕ) → is_lt (ordering_then (ordering_then (nat_cmp (p.address q).sec (p.address r).sec) (nat_cmp (p.address q).off (p.address r).off)) (nat_cmp (p.variant q) (p.variant r))) ≡ false → ComesBefore p q r → ⊥
    away q r h (inl k) = lower_place (p.address q).sec (p.address q).off (p.variant q) (p.address r).sec (p.address r).off (p.variant r) h k
    away q r h (inr (e, l)) = lower_variant (p.address q).sec (p.address q).off (p.variant q) (p.address r).sec (p.address r).off (p.variant r) h (ap (λ (z : Place). z.sec) e) (ap (λ (z : Place). z.off) e) l

    go : (q r : ℕ) → q < p.count → r < p.count → is_lt (key_cmp (key_by_number p q) (key_by_number p r)) ≡ false → ComesBefore p q r → ⊥
    go q r l m h = away q r (subst (λ (k : Place × ℕ). is_lt (key_cmp (p.address q, p.variant q) k) ≡ false) (key_is p r m) (subst (λ (k : Place × ℕ). is_lt (key_cmp k (key_by_number p r)) ≡ false) (key_is p q l) h))

-- a place of these numbers
spot : ℕ → ℕ → Place
spot sec off = record { sec = sec; off = off }

spot_is : (a : Place) → spot a.sec a.off ≡ a
unfolding spot
spot_is a = refl

-- places of equal numbers are equal
pub equal_places : (a b : Place) → a.sec ≡ b.sec → a.off ≡ b.off → a ≡ b
equal_places a b e f = let k : spot a.sec a.off ≡ spot b.sec b.off = cc in sym (spot_is a) ∙ (k ∙ spot_is b)

by_sec : (a b c d : ℕ) → a < c → is_lt (ordering_then (nat_cmp a c) (nat_cmp b d)) ≡ true
by_sec a b c d l = grind (arith, nat_tests)

by_off : (a b c d : ℕ) → a ≡ c → b < d → is_lt (ordering_then (nat_cmp a c) (nat_cmp b d)) ≡ true
by_off a b c d e l = grind (arith, nat_tests)

-- one of two places comes first, or they are equal
pub first_of_places : (a b : Place) → (is_before a b ≡ true) ⊎ ((is_before b a ≡ true) ⊎ (a ≡ b))
first_of_places a b = elim (cases_order a.sec b.sec) [
  | inl e ↦ elim (cases_order a.off b.off) [
    | inl f ↦ inr (inr (equal_places a b e f))
    | inr m ↦ elim m [ inl l ↦ inl (by_off a.sec a.off b.sec b.off e l) | inr l ↦ inr (inl (by_off b.sec b.off a.sec a.off (sym e) l)) ]
  ]
  | inr m ↦ elim m [ inl l ↦ inl (by_sec a.sec a.off b.sec b.off l) | inr l ↦ inr (inl (by_sec b.sec b.off a.sec a.off l)) ]
]

-- one of two points comes first, or they run at one place in one variant
pub first_of_points : (p : Program) (q r : ℕ) → ComesBefore p q r ⊎ (ComesBefore p r q ⊎ ((p.address q ≡ p.address r) × (p.variant q ≡ p.variant r)))
first_of_points p q r = elim (first_of_places (p.address q) (p.address r)) [
  | inl h ↦ inl (inl h)
  | inr m ↦ elim m [
    | inl h ↦ inr (inl (inl h))
    | inr e ↦ elim (cases_order (p.variant q) (p.variant r)) [
      | inl f ↦ inr (inr (e, f))
      | inr k ↦ elim k [ inl l ↦ inl (inr (e, l)) | inr l ↦ inr (inl (inr (sym e, l))) ]
    ]
  ]
]
