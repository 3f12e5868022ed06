-- Which functions hold the places behind one that they hold or don't.
use Rattle.std.proofs.Common.{◌≡◌, ℕ, ◌+◌, ◌<◌, ◌≤◌, true, false, eqb, leb, ltb, ◌&&◌, List, length, Option, Some, None, arith, inl, inr}
use Rattle.std.specs.Ordering.{nat_cmp, is_lt, ordering_then}
use Rattle.std.proofs.lemmas.Bool.{cases_lt}
use Rattle.std.proofs.lemmas.Bool.Decides.{nat_tests}
use Rattle.ot_base.specs.declared.place.Place.{Place}
use Rattle.ot_base.specs.Places.{is_before}
use Rattle.elf_objects.specs.Elf.{Elf}
use Rattle.symbols_relocs.specs.declared.function.Function.{Function}
use Rattle.symbols_relocs.specs.Counts.{is_behind}
use Rattle.symbols_relocs.specs.Functions.{function_at}
use Rattle.symbols_relocs.specs.Lists.{function, in_function, AreFunctions, AreRising, IsIndexOfSymbol}
use Rattle.symbols_relocs.specs.Spans.{place_at, IsHolderOf}
use Rattle.symbols_relocs.proofs.Counted.{behind_on, not_held}
use Rattle.symbols_relocs.proofs.Found.{an_index, function_here, no_function_at, no_index}

ended : (a b c d e n : ℕ) → is_lt (ordering_then (nat_cmp c a) (nat_cmp d b)) ≡ false → (eqb a c && (leb b d && ltb d (b + n))) ≡ false → d ≤ e → (eqb a c && (leb b e && ltb e (b + n))) ≡ false
ended a b c d e n from other order = grind (arith, nat_tests)

-- what doesn't hold a place holds none behind it, up to where the next one starts
pub still_other : (fs : List Function) (count : ℕ) (place : Place) (off k : ℕ) → AreRising fs → ((j : ℕ) → j < count → is_before place (function fs j).start ≡ false) → is_behind fs count (place_at place.sec off) ≡ true → place.off ≤ off → k < length fs → in_function (function fs k) place ≡ false → in_function (function fs k) (place_at place.sec off) ≡ false
still_other fs count place off k up to next order inside other =
    let f : Function = function fs k in
    elim (cases_lt k count) [
      | inl less ↦ ended f.start.sec f.start.off place.sec place.off off f.size (to k less) other order
      | inr from ↦ not_held place.sec off f.start.sec f.start.off f.size (behind_on fs count (place_at place.sec off) up next k from inside)
    ]

-- so the function of a place is found
pub holder_is : (o : Elf) (fs : List Function) (all : AreFunctions o fs) (place : Place) (found : Option ℕ) → IsHolderOf fs place found → IsIndexOfSymbol fs found (function_at o place)
holder_is o fs all place None none = no_index fs (function_at o place) (no_function_at o fs all place none)
holder_is o fs all place (Some i) is = an_index fs i (function_at o place) is.inside (function_here o fs all place i is.inside is.holds is.last)
