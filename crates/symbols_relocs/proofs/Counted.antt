-- What a count that fits its neighbours tells of all functions.
use Rattle.std.proofs.Common.{◌≡◌, ℕ, ◌+◌, ◌-◌, ◌<◌, ◌≤◌, Bool, true, false, not, eqb, leb, ltb, ◌&&◌, ◌||◌, List, length, refl, sym, ap, ◌∙◌, arith, inl, inr}
use Rattle.std.specs.Ordering.{nat_cmp, is_lt, ordering_then}
use Rattle.std.proofs.lemmas.Bool.{cases_Bool, false≢true}
use Rattle.std.proofs.lemmas.Bool.Decides.{nat_tests}
use Rattle.ot_base.specs.declared.place.Place.{Place}
use Rattle.ot_base.specs.Places.{is_before}
use Rattle.symbols_relocs.specs.declared.function.Function.{Function}
use Rattle.symbols_relocs.specs.Counts.{is_behind, is_upto}
use Rattle.symbols_relocs.specs.Lists.{function, no_function, AreRising}
use Rattle.symbols_relocs.proofs.PlaceOrder.{rising_parts, not_true}

not_behind : (len count : ℕ) (b : Bool) → count < len → (leb len count || b) ≡ true → b ≡ true
not_behind len count true less h = refl
not_behind len count false less h = grind (arith, nat_tests)

not_upto : (count : ℕ) (b : Bool) → 0 < count → (eqb count 0 || b) ≡ true → b ≡ true
not_upto count true some h = refl
not_upto count false some h = grind (arith, nat_tests)

not_of : (b : Bool) → b ≡ false → not b ≡ true
not_of b h = ap not h

-- where the last of so many starts at a place or before it, so do those in front of it
pub counted_to : (fs : List Function) (count : ℕ) (place : Place) → AreRising fs → count ≤ length fs → is_upto fs count place ≡ true → (k : ℕ) → k < count → is_before place (function fs k).start ≡ false
counted_to fs count place up inside is k lower =
    let last : not (is_before place (function fs (count - 1)).start) ≡ true = not_upto count _ (omega arith) is in
    not_true _ (rising_parts fs place up k (count - 1) no_function (omega arith) (omega arith) last)

-- where one starts behind a place, so do those behind it
pub behind_on : (fs : List Function) (count : ℕ) (place : Place) → AreRising fs → is_behind fs count place ≡ true → (k : ℕ) → count ≤ k → k < length fs → is_before place (function fs k).start ≡ true
behind_on fs count place up is k from inside =
    let next : is_before place (function fs count).start ≡ true = not_behind (length fs) count _ (omega arith) is in
    elim (cases_Bool (is_before place (function fs k).start)) [
      | inl behind ↦ behind
      | inr not_so ↦ absurd (false≢true (sym (not_true _ (rising_parts fs place up count k no_function from inside (not_of _ not_so))) ∙ next))
    ]

-- what starts behind a place doesn't hold it
pub not_held : (a b c d n : ℕ) → is_lt (ordering_then (nat_cmp a c) (nat_cmp b d)) ≡ true → (eqb c a && (leb d b && ltb b (d + n))) ≡ false
not_held a b c d n x = grind (arith, nat_tests)
