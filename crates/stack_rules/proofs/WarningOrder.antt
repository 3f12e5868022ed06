-- Warnings in the order in which they are told.
use Rattle.std.proofs.Common.{◌≡◌, ◌↔◌, ℕ, ◌<◌, ◌<ℤ◌, Bool, true, false, ◌&&◌, eqb, ◌⊎◌, inl, inr, List, Contains, get_or, ℤ, refl, sym, ap, ◌∙◌, subst, arith}
use Rattle.std.specs.Prelude.{AllPairs}
use Rattle.std.specs.List.{dedup}
use Rattle.std.specs.List.Sorted.{IsPermutation, IsSorted}
use Rattle.std.specs.Cmp.{IsEquivalence, IsTotalOrder, both_ways}
use Rattle.std.specs.declared.cmp.Ordering.{Ordering}
use Rattle.std.specs.declared.cmp.Ordering.TheVariants.{Less, Equal, Greater}
use Rattle.std.specs.Ordering.{nat_cmp, int_cmp, int_eq, is_eq, ordering_then}
use Rattle.std.proofs.lemmas.Cmp.{nat_cmp_total, int_cmp_total, on_total, then_total}
use Rattle.std.proofs.lemmas.List.Kept.{Contains-dedup, Contains-from_dedup, IsStrictlySortedBy-dedup}
use Rattle.std.proofs.lemmas.List.Sorted.{Contains-permutation, IsPermutation-sym}
use Rattle.std.proofs.lemmas.Map.Keys.{Less-from_sorted}
use Rattle.std.proofs.lemmas.Bool.{eq-eqb}
use Rattle.std.proofs.lemmas.Bool.Decides.{nat_tests}
use Rattle.std.proofs.lemmas.Int.{ints}
use Rattle.ot_base.specs.declared.place.Place.{Place}
use Rattle.ot_base.specs.declared.warning.Warning.{Warning}
use Rattle.stack_rules.specs.Before.{ComesBefore}

abbrev pub key_of : Warning → Place × ℕ × ℤ × ℤ
key_of w = (w.place, w.rule, w.a, w.b)

abbrev pub place_cmp : Place → Place → Ordering
place_cmp p q = ordering_then (nat_cmp p.sec q.sec) (nat_cmp p.off q.off)

abbrev pub warning_cmp : Warning → Warning → Ordering
warning_cmp v w = ordering_then (ordering_then (ordering_then (place_cmp v.place w.place) (nat_cmp v.rule w.rule)) (int_cmp v.a w.a)) (int_cmp v.b w.b)

pub warning_total : IsTotalOrder warning_cmp
warning_total =
    then_total (then_total (then_total (then_total (on_total (λ (w : Warning). w.place.sec) nat_cmp_total) (on_total (λ (w : Warning). w.place.off) nat_cmp_total)) (on_total (λ (w : Warning). w.rule) nat_cmp_total)) (on_total (λ (w : Warning). w.a) int_cmp_total)) (on_total (λ (w : Warning). w.b) int_cmp_total)

-- whether two warnings are one
abbrev pub same_warning : Warning → Warning → Bool
same_warning v w = (eqb v.place.sec w.place.sec && eqb v.place.off w.place.off) && (eqb v.rule w.rule && (int_eq v.a w.a && int_eq v.b w.b))

nat_less : (x y : ℕ) → nat_cmp x y ≡ Less → x < y
nat_less x y e = grind (arith, nat_tests)

nat_same : (x y : ℕ) → nat_cmp x y ≡ Equal → x ≡ y
nat_same x y e = grind (arith, nat_tests)

nat_tied : (x y : ℕ) → eqb x y ≡ is_eq (nat_cmp x y)
nat_tied x y = grind (arith, nat_tests)

int_less : (x y : ℤ) → int_cmp x y ≡ Less → x <ℤ y
int_less x y e = grind (arith, ints)

int_same : (x y : ℤ) → int_cmp x y ≡ Equal → x ≡ y
int_same x y e = grind (arith, ints)

-- of two orders in turn
then_less : (r s : Ordering) → ordering_then r s ≡ Less → (r ≡ Less) ⊎ ((r ≡ Equal) × (s ≡ Less))
then_less Less s e = inl refl
then_less Equal s e = inr (refl, e)
then_less Greater s e = absurd (let z : ⊥ = cc in z)

then_equal : (r s : Ordering) → ordering_then r s ≡ Equal → (r ≡ Equal) × (s ≡ Equal)
then_equal Less s e = absurd (let z : ⊥ = cc in z)
then_equal Equal s e = (refl, e)
then_equal Greater s e = absurd (let z : ⊥ = cc in z)

then_tied : (a b : Bool) (r s : Ordering) → a ≡ is_eq r → b ≡ is_eq s → (a && b) ≡ is_eq (ordering_then r s)
then_tied a b Less s e f = ap (λ x. x && b) e
then_tied a b Equal s e f = ap (λ x. x && b) e ∙ f
then_tied a b Greater s e f = ap (λ x. x && b) e

regrouped : (a b c d : Bool) → (a && (b && (c && d))) ≡ (((a && b) && c) && d)
regrouped false b c d = refl
regrouped true false c d = refl
regrouped true true c d = refl

-- the orders of two warnings' numbers, one after the other
module _ (v w : Warning) where
  pub tied : same_warning v w ≡ is_eq (warning_cmp v w)
  tied =
      regrouped (eqb v.place.sec w.place.sec && eqb v.place.off w.place.off) (eqb v.rule w.rule) (int_eq v.a w.a) (int_eq v.b w.b)
      ∙ then_tied _ _ (ordering_then (ordering_then (place_cmp v.place w.place) (nat_cmp v.rule w.rule)) (int_cmp v.a w.a)) (int_cmp v.b w.b)
      (then_tied _ _ (ordering_then (place_cmp v.place w.place) (nat_cmp v.rule w.rule)) (int_cmp v.a w.a)
      (then_tied _ _ (place_cmp v.place w.place) (nat_cmp v.rule w.rule)
      (then_tied _ _ (nat_cmp v.place.sec w.place.sec) (nat_cmp v.place.off w.place.off) (nat_tied v.place.sec w.place.sec) (nat_tied v.place.off w.place.off))
      (nat_tied v.rule w.rule)) refl) refl

  pub comes_before : warning_cmp v w ≡ Less → ComesBefore v w
  comes_before e = by_b (then_less (ordering_then (ordering_then (place_cmp v.place w.place) (nat_cmp v.rule w.rule)) (int_cmp v.a w.a)) (int_cmp v.b w.b) e)
    where
      by_off : (nat_cmp v.place.sec w.place.sec ≡ Less) ⊎ ((nat_cmp v.place.sec w.place.sec ≡ Equal) × (nat_cmp v.place.off w.place.off ≡ Less)) → ComesBefore v w
      by_off (inl l) = inl (nat_less v.place.sec w.place.sec l)
      by_off (inr (s, l)) = inr (nat_same v.place.sec w.place.sec s, inl (nat_less v.place.off w.place.off l))

      same_place : place_cmp v.place w.place ≡ Equal → (v.place.sec ≡ w.place.sec) × (v.place.off ≡ w.place.off)
      same_place h = let k = then_equal (nat_cmp v.place.sec w.place.sec) (nat_cmp v.place.off w.place.off) h in (nat_same v.place.sec w.place.sec k.0, nat_same v.place.off w.place.off k.1)

      by_rule : (place_cmp v.place w.place ≡ Less) ⊎ ((place_cmp v.place w.place ≡ Equal) × (nat_cmp v.rule w.rule ≡ Less)) → ComesBefore v w
      by_rule (inl l) = by_off (then_less (nat_cmp v.place.sec w.place.sec) (nat_cmp v.place.off w.place.off) l)
      by_rule (inr (s, l)) = let k = same_place s in inr (k.0, inr (k.1, inl (nat_less v.rule w.rule l)))

      same_rule : ordering_then (place_cmp v.place w.place) (nat_cmp v.rule w.rule) ≡ Equal → (place_cmp v.place w.place ≡ Equal) × (v.rule ≡ w.rule)
      same_rule h = let k = then_equal (place_cmp v.place w.place) (nat_cmp v.rule w.rule) h in (k.0, nat_same v.rule w.rule k.1)

      by_a : (ordering_then (place_cmp v.place w.place) (nat_cmp v.rule w.rule) ≡ Less) ⊎ ((ordering_then (place_cmp v.place w.place) (nat_cmp v.rule w.rule) ≡ Equal) × (int_cmp v.a w.a ≡ Less)) → ComesBefore v w
      by_a (inl l) = by_rule (then_less (place_cmp v.place w.place) (nat_cmp v.rule w.rule) l)
      by_a (inr (s, l)) = let r = same_rule s in let k = same_place r.0 in inr (k.0, inr (k.1, inr (r.1, inl (int_less v.a w.a l))))

      by_b : (ordering_then (ordering_then (place_cmp v.place w.place) (nat_cmp v.rule w.rule)) (int_cmp v.a w.a) ≡ Less) ⊎ ((ordering_then (ordering_then (place_cmp v.place w.place) (nat_cmp v.rule w.rule)) (int_cmp v.a w.a) ≡ Equal) × (int_cmp v.b w.b ≡ Less)) → ComesBefore v w
      by_b (inl l) = by_a (then_less (ordering_then (place_cmp v.place w.place) (nat_cmp v.rule w.rule)) (int_cmp v.a w.a) l)
      by_b (inr (s, l)) =
          let m = then_equal (ordering_then (place_cmp v.place w.place) (nat_cmp v.rule w.rule)) (int_cmp v.a w.a) s in
          let r = same_rule m.0 in
          let k = same_place r.0 in
          inr (k.0, inr (k.1, inr (r.1, inr (int_same v.a w.a m.1, int_less v.b w.b l))))

  -- warnings that tie are one
  pub tie_is_one : warning_cmp v w ≡ Equal → v ≡ w
  tie_is_one e =
      let n = then_equal (ordering_then (ordering_then (place_cmp v.place w.place) (nat_cmp v.rule w.rule)) (int_cmp v.a w.a)) (int_cmp v.b w.b) e in
      let m = then_equal (ordering_then (place_cmp v.place w.place) (nat_cmp v.rule w.rule)) (int_cmp v.a w.a) n.0 in
      let l = then_equal (place_cmp v.place w.place) (nat_cmp v.rule w.rule) m.0 in
      let k = then_equal (nat_cmp v.place.sec w.place.sec) (nat_cmp v.place.off w.place.off) l.0 in
      of_parts (nat_same v.place.sec w.place.sec k.0) (nat_same v.place.off w.place.off k.1) (nat_same v.rule w.rule l.1) (int_same v.a w.a m.1) (int_same v.b w.b n.1)
    where
      of_parts : v.place.sec ≡ w.place.sec → v.place.off ≡ w.place.off → v.rule ≡ w.rule → v.a ≡ w.a → v.b ≡ w.b → v ≡ w
      of_parts sec off rule a b =
          ap (λ (x : ℕ). record v { place = record v.place { sec = x } }) sec
          ∙ ap (λ (x : ℕ). record v { place = record { sec = w.place.sec; off = x } }) off
          ∙ ap (λ (x : ℕ). record v { place = w.place; rule = x }) rule
          ∙ ap (λ (x : ℤ). record { place = w.place; rule = w.rule; a = x; b = v.b }) a
          ∙ ap (λ (x : ℤ). record { place = w.place; rule = w.rule; a = w.a; b = x }) b

-- one by the order's laws
is_equal : (r : Ordering) → is_eq r ≡ true → r ≡ Equal
is_equal Less h = absurd (let z : ⊥ = cc in z)
is_equal Equal h = refl
is_equal Greater h = absurd (let z : ⊥ = cc in z)

pub same_is_one : (v w : Warning) → same_warning v w ≡ true → v ≡ w
same_is_one v w h = tie_is_one v w (is_equal (warning_cmp v w) (sym (tied v w) ∙ h))

-- what a sort by the key leaves ascends, once what is there twice is dropped
pub ascending : (sorted : List Warning) → IsSorted warning_cmp sorted → AllPairs ComesBefore (dedup same_warning sorted)
ascending sorted up i j d less inside = comes_before (get_or (dedup same_warning sorted) i d) (get_or (dedup same_warning sorted) j d) (Less-from_sorted warning_cmp (dedup same_warning sorted) i j d (IsStrictlySortedBy-dedup warning_total tied sorted up) less inside)

all_four : (a b c d e : Bool) → a ≡ true → b ≡ true → c ≡ true → d ≡ true → e ≡ true → ((a && b) && (c && (d && e))) ≡ true
all_four a b c d e h i j k l = rw (h, i, j, k, l) refl

nat_itself : (x : ℕ) → eqb x x ≡ true
nat_itself x = eq-eqb x x refl

int_itself : (x : ℤ) → int_eq x x ≡ true
int_itself x = grind (arith, ints)

itself : (w : Warning) → same_warning w w ≡ true
itself w = all_four _ _ _ _ _ (nat_itself w.place.sec) (nat_itself w.place.off) (nat_itself w.rule) (int_itself w.a) (int_itself w.b)

one_is_same : (v w : Warning) → v ≡ w → same_warning v w ≡ true
one_is_same v w e = subst (λ (x : Warning). same_warning v x ≡ true) e (itself v)

same_equivalence : IsEquivalence same_warning
same_equivalence = record {
  refl = itself;
  symm = λ v w. both_ways (same_warning v w) (same_warning w v) (λ h. one_is_same w v (sym (same_is_one v w h))) (λ h. one_is_same v w (sym (same_is_one w v h)));
  congr = λ v w x h. ap (λ (y : Warning). same_warning y x) (same_is_one v w h);
}

-- and has the same warnings
pub same_members : (xs sorted : List Warning) → IsPermutation xs sorted → (w : Warning) → Contains (dedup same_warning sorted) w ↔ Contains xs w
same_members xs sorted moved w = (
  λ c. Contains-permutation sorted xs w (IsPermutation-sym xs sorted moved) (Contains-from_dedup same_warning sorted w c),
  λ c. Contains-dedup same_equivalence same_is_one sorted w (Contains-permutation xs sorted w moved c),
)
