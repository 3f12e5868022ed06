-- The symbols of functions, while they are listed.
use Rattle.std.proofs.Common.{◌≡◌, ◌⊎◌, inl, inr, ℕ, ◌+◌, ◌<◌, Bool, true, false, List, [], ◌∷◌, ◌++◌, arith, refl, sym, ap, ◌∙◌}
use Rattle.std.proofs.lemmas.Bool.{cases_lt}
use Rattle.std.proofs.lemmas.List.{length_push}
use Rattle.std.proofs.lemmas.List.Elements.{Contains-append_left, Contains-push, Contains-push_cases}
use Rattle.elf_objects.specs.Elf.{Elf}
use Rattle.symbols_relocs.specs.declared.function.Function.{Function}
use Rattle.symbols_relocs.specs.Functions.{is_function}
use Rattle.symbols_relocs.specs.Lists.{function_symbol, AreSymbols, IsSymbolBelow}

pub lt_or_eq : (i n : ℕ) → i < n + 1 → (i < n) ⊎ (i ≡ n)
lt_or_eq i n h = elim (cases_lt i n) [ inl lt ↦ inl lt | inr ge ↦ inr (omega arith) ]

apart : (x : Bool) → x ≡ true → x ≡ false → ⊥
apart true p q = cc
apart false p q = cc

pub no_symbols : (o : Elf) → AreSymbols o 0 []
no_symbols o = record {
  few = omega arith;
  each = λ f has. let inside = has.1 in absurd (omega arith);
  all = λ k low some. absurd (omega arith);
}

module _ (o : Elf) (k : ℕ) (xs : List Function) (s : AreSymbols o k xs) where
  more_below : (f : Function) → IsSymbolBelow o k f → IsSymbolBelow o (k + 1) f
  more_below f w = record { below = let h = w.below in omega arith; some = w.some; is = w.is }

  pub one_more : is_function o k ≡ true → AreSymbols o (k + 1) (xs ++ function_symbol o k ∷ [])
  one_more some = record {
    few = let len = length_push xs (function_symbol o k) in let h = s.few in omega arith;
    each = λ f has. elim (Contains-push_cases xs (function_symbol o k) f has) [
      | inl old ↦ more_below f (s.each f old)
      | inr new ↦ rw (← new) (record { below = omega arith; some = some; is = refl })
    ];
    all = λ j low is. elim (lt_or_eq j k low) [
      | inl old ↦ Contains-append_left xs (function_symbol o k ∷ []) (function_symbol o j) (s.all j old is)
      | inr new ↦ rw new (Contains-push xs (function_symbol o k))
    ];
  }

  pub no_more : is_function o k ≡ false → AreSymbols o (k + 1) xs
  no_more none = record {
    few = let h = s.few in omega arith;
    each = λ f has. more_below f (s.each f has);
    all = λ j low is. elim (lt_or_eq j k low) [
      | inl old ↦ s.all j old is
      | inr new ↦ absurd (apart (is_function o k) (let e : is_function o k ≡ is_function o j = ap (is_function o) (sym new) in e ∙ is) none)
    ];
  }

pub as_symbols : (o : Elf) (k : ℕ) (xs ys : List Function) → xs ≡ ys → AreSymbols o k ys → AreSymbols o k xs
as_symbols o k xs ys e s = rw e s

pub as_bound : (o : Elf) (k n : ℕ) (xs : List Function) → k ≡ n → AreSymbols o k xs → AreSymbols o n xs
as_bound o k n xs e s = rw (← e) s
