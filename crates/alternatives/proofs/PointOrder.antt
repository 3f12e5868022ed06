-- The order of points.
use Rattle.std.proofs.Common.{◌≡◌, ℕ, ◌<◌, true, false, refl, sym, ap, ◌∙◌, arith}
use Rattle.std.specs.Cmp.{IsTotalOrder}
use Rattle.std.specs.declared.cmp.Ordering.{Ordering}
use Rattle.std.specs.declared.cmp.Ordering.TheVariants.{Less, Equal, Greater}
use Rattle.std.specs.Ordering.{nat_cmp, ordering_then, ordering_reverse, is_lt, is_eq, eq_by_cmp}
use Rattle.std.proofs.lemmas.Bool.{false≢true}
use Rattle.std.proofs.lemmas.Bool.Decides.{nat_tests}
use Rattle.std.proofs.lemmas.Cmp.{then_total, on_total, nat_cmp_total, tied_itself}
use Rattle.ot_base.specs.declared.place.Place.{Place}
use Rattle.ot_base.specs.Places.{place_cmp}
use Rattle.alternatives.specs.declared.point.Point.{Point}
use Rattle.alternatives.specs.Points.{point_cmp}

-- points by variant, and then by place
abbrev pub variant_cmp : Point → Point → Ordering
variant_cmp p q = ordering_then (nat_cmp p.variant q.variant) (place_cmp p.place q.place)

pub place_total : IsTotalOrder place_cmp
place_total = then_total (on_total (λ (p : Place). p.sec) nat_cmp_total) (on_total (λ (p : Place). p.off) nat_cmp_total)

pub point_total : IsTotalOrder point_cmp
point_total = then_total (on_total (λ (p : Point). p.place) place_total) (on_total (λ (p : Point). p.variant) nat_cmp_total)

pub variant_total : IsTotalOrder variant_cmp
variant_total = then_total (on_total (λ (p : Point). p.variant) nat_cmp_total) (on_total (λ (p : Point). p.place) place_total)

then_equal : (o r : Ordering) → ordering_then o r ≡ Equal → (o ≡ Equal) × (r ≡ Equal)
then_equal Less r h = absurd (less_not h)
  where
    less_not : Less ≡ Equal → ⊥
    less_not e = cc
then_equal Equal r h = (refl, h)
then_equal Greater r h = absurd (greater_not h)
  where
    greater_not : Greater ≡ Equal → ⊥
    greater_not e = cc

nat_equal : (a b : ℕ) → nat_cmp a b ≡ Equal → a ≡ b
nat_equal a b h = grind (arith, nat_tests)

-- the point with these parts
pub same_point : (sec off variant : ℕ) (q : Point) → sec ≡ q.place.sec → off ≡ q.place.off → variant ≡ q.variant → record { place = record { sec = sec; off = off }; variant = variant } ≡ q
same_point sec off variant q a b c =
    ap (λ s. let p : Point = record { place = record { sec = s; off = off }; variant = variant } in p) a
    ∙ ap (λ o. let p : Point = record { place = record { sec = q.place.sec; off = o }; variant = variant } in p) b
    ∙ ap (λ v. let p : Point = record { place = q.place; variant = v } in p) c

pub place_equal : (p q : Place) → place_cmp p q ≡ Equal → p ≡ q
place_equal p q h =
    let parts = then_equal (nat_cmp p.sec q.sec) (nat_cmp p.off q.off) h in
    ap (λ s. let r : Place = record { sec = s; off = p.off } in r) (nat_equal p.sec q.sec parts.0)
    ∙ ap (λ o. let r : Place = record { sec = q.sec; off = o } in r) (nat_equal p.off q.off parts.1)

pub point_equal : (p q : Point) → point_cmp p q ≡ Equal → p ≡ q
point_equal p q h =
    let outer = then_equal (place_cmp p.place q.place) (nat_cmp p.variant q.variant) h in
    let inner = then_equal (nat_cmp p.place.sec q.place.sec) (nat_cmp p.place.off q.place.off) outer.0 in
    same_point p.place.sec p.place.off p.variant q (nat_equal p.place.sec q.place.sec inner.0) (nat_equal p.place.off q.place.off inner.1) (nat_equal p.variant q.variant outer.1)

-- of two that differ, the one that isn't before the other is behind it
less_by : (o : Ordering) (p q : Point) → point_cmp p q ≡ o → is_lt (point_cmp q p) ≡ false → eq_by_cmp variant_cmp p q ≡ false → o ≡ Less
less_by Less p q is not_less differ = refl
less_by Equal p q is not_less differ =
    let tied : eq_by_cmp variant_cmp p q ≡ true = ap (λ z. is_eq (variant_cmp p z)) (sym (point_equal p q is)) ∙ ap is_eq (tied_itself variant_total p) in
    absurd (false≢true (sym differ ∙ tied))
less_by Greater p q is not_less differ =
    let less : is_lt (point_cmp q p) ≡ true = ap is_lt (point_total.antisymm q p ∙ ap ordering_reverse is) in
    absurd (false≢true (sym not_less ∙ less))

pub less_from : (p q : Point) → is_lt (point_cmp q p) ≡ false → eq_by_cmp variant_cmp p q ≡ false → point_cmp p q ≡ Less
less_from p q not_less differ = less_by (point_cmp p q) p q refl not_less differ

-- which of two comes first, by their numbers
pub first_by_variant : (a b i j : ℕ) → i < j → ordering_then (ordering_then (nat_cmp a a) (nat_cmp b b)) (nat_cmp i j) ≡ Less
first_by_variant a b i j less = grind (arith, nat_tests)

pub first_by_off : (a b c d e f : ℕ) → a ≡ b → c < d → ordering_then (ordering_then (nat_cmp a b) (nat_cmp c d)) (nat_cmp e f) ≡ Less
first_by_off a b c d e f same less = grind (arith, nat_tests)

pub first_by_sec : (a b c d e f : ℕ) → a < b → ordering_then (ordering_then (nat_cmp a b) (nat_cmp c d)) (nat_cmp e f) ≡ Less
first_by_sec a b c d e f less = grind (arith, nat_tests)

pub variant_first : (a b c d e f : ℕ) → e < f → ordering_then (nat_cmp e f) (ordering_then (nat_cmp a b) (nat_cmp c d)) ≡ Less
variant_first a b c d e f less = grind (arith, nat_tests)

pub then_sec : (a b c d e f : ℕ) → e ≡ f → a < b → ordering_then (nat_cmp e f) (ordering_then (nat_cmp a b) (nat_cmp c d)) ≡ Less
then_sec a b c d e f same less = grind (arith, nat_tests)

pub then_off : (a b c d e f : ℕ) → e ≡ f → a ≡ b → c < d → ordering_then (nat_cmp e f) (ordering_then (nat_cmp a b) (nat_cmp c d)) ≡ Less
then_off a b c d e f same level less = grind (arith, nat_tests)
