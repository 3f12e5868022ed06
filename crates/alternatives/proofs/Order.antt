-- Where sites are, before a place or behind it.
use Rattle.std.proofs.Common.{◌≡◌, ◌⊎◌, ℕ, ◌+◌, ◌<◌, ◌≤◌, Bool, true, false, ◌&&◌, eqb, ltb, leb, List, length, get_or, inl, inr, refl, sym, ap, ◌∙◌, arith}
use Rattle.std.specs.Ordering.{nat_cmp, is_lt, ordering_then}
use Rattle.std.proofs.lemmas.Bool.{cases_lt, false≢true}
use Rattle.std.proofs.lemmas.Bool.Decides.{nat_tests}
use Rattle.ot_base.specs.declared.place.Place.{Place}
use Rattle.ot_base.specs.Places.{is_before}
use Rattle.alternatives.specs.declared.site.AlternativesSite.{AlternativesSite}
use Rattle.alternatives.specs.Sites.{in_alternatives_site, AscendApart, EndsBefore}

on_sec : (a b c d e f : ℕ) → is_lt (ordering_then (nat_cmp a c) (nat_cmp b d)) ≡ true → c < e → is_lt (ordering_then (nat_cmp a e) (nat_cmp b f)) ≡ true
on_sec a b c d e f before less = grind (arith, nat_tests)

on_off : (a b c d e f n : ℕ) → is_lt (ordering_then (nat_cmp a c) (nat_cmp b d)) ≡ true → c ≡ e → d + n ≤ f → is_lt (ordering_then (nat_cmp a e) (nat_cmp b f)) ≡ true
on_off a b c d e f n before same less = grind (arith, nat_tests)

-- a place before one that ends before another is before that one
pub before_on : (place p q : Place) (n : ℕ) → is_before place p ≡ true → EndsBefore p n q → is_before place q ≡ true
before_on place p q n before (inl less) = on_sec place.sec place.off p.sec p.off q.sec q.off before less
before_on place p q n before (inr (same, less)) = on_off place.sec place.off p.sec p.off q.sec q.off n before same less

not_held : (a b c d n : ℕ) → is_lt (ordering_then (nat_cmp a c) (nat_cmp b d)) ≡ true → (eqb c a && (leb d b && ltb b (d + n))) ≡ false
not_held a b c d n before = grind (arith, nat_tests)

-- no site holds a place before its start
pub before_not_held : (place : Place) (site : AlternativesSite) → is_before place site.start ≡ true → in_alternatives_site site place ≡ false
before_not_held place site before = not_held place.sec place.off site.start.sec site.start.off site.len before

sec_behind : (a b c d e f n : ℕ) → is_lt (ordering_then (nat_cmp a e) (nat_cmp b f)) ≡ false → c < e → (eqb c a && (leb d b && ltb b (d + n))) ≡ false
sec_behind a b c d e f n from less = grind (arith, nat_tests)

off_behind : (a b c d e f n : ℕ) → is_lt (ordering_then (nat_cmp a e) (nat_cmp b f)) ≡ false → c ≡ e → d + n ≤ f → (eqb c a && (leb d b && ltb b (d + n))) ≡ false
off_behind a b c d e f n from same less = grind (arith, nat_tests)

-- nor one from what comes behind it on
pub behind_not_held : (place q : Place) (site : AlternativesSite) → is_before place q ≡ false → EndsBefore site.start site.len q → in_alternatives_site site place ≡ false
behind_not_held place q site from (inl less) = sec_behind place.sec place.off site.start.sec site.start.off q.sec q.off site.len from less
behind_not_held place q site from (inr (same, less)) = off_behind place.sec place.off site.start.sec site.start.off q.sec q.off site.len from same less

-- a site behind one that a place is before has the place before it too
pub behind_on : (sites : List AlternativesSite) (place : Place) → AscendApart sites → (k n : ℕ) (d : AlternativesSite) → k ≤ n → n < length sites → is_before place (get_or sites k d).start ≡ true → is_before place (get_or sites n d).start ≡ true
behind_on sites place apart k n d order inside before = elim (cases_lt k n) [
  | inl lower ↦ before_on place (get_or sites k d).start (get_or sites n d).start (get_or sites k d).len before (apart k n d lower inside)
  | inr last ↦ let is : n ≡ k = omega arith in ap (λ j. is_before place (get_or sites j d).start) is ∙ before
]

either : (b : Bool) → (b ≡ true) ⊎ (b ≡ false)
either true = inl refl
either false = inr refl

-- and none before one that begins at a place or before it begins behind that place
pub from_on : (sites : List AlternativesSite) (place : Place) → AscendApart sites → (k n : ℕ) (d : AlternativesSite) → k ≤ n → n < length sites → is_before place (get_or sites n d).start ≡ false → is_before place (get_or sites k d).start ≡ false
from_on sites place apart k n d order inside from = elim (either (is_before place (get_or sites k d).start)) [
  | inl before ↦ absurd (false≢true (sym from ∙ behind_on sites place apart k n d order inside before))
  | inr clear ↦ clear
]
