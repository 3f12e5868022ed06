-- The number or the address of a word, from what is parsed of it.
use Rattle.std.proofs.Common.{◌≡◌, ℕ, ◌<◌, ◌≤◌, ◌^◌, Bool, true, false, List, [], ◌∷◌, Some, None, Err, length, refl, sym, ap, arith, cond, subst, drop}
use Rattle.std.specs.Prelude.{nat_le, nat_lt, ◌&&◌, ◌==◌}
use Rattle.std.specs.List.{list_all}
use Rattle.std.specs.Char.{digit_value}
use Rattle.std.specs.Str.Parse.{AllDigits, IsNumeral, ParsesUnsigned, digits_value, without_leading_plus}
use Rattle.std.proofs.lemmas.Bool.Decides.{nat_tests}
use Rattle.std.proofs.lemmas.Int.Digits.{digits_value-lt}
use Rattle.std.proofs.Math.Nat.{pow-le-pow_right}
use Rattle.cli_words.specs.Numbers.{address_of, is_address, is_digit, is_hexadecimal_digit, is_numeral, number_of}

digit_below_ten : (c : ℕ) → is_digit c ≡ true → digit_value c < 10
digit_below_ten c h = grind (arith, nat_tests)

digit_below_sixteen : (c : ℕ) → is_hexadecimal_digit c ≡ true → digit_value c < 16
digit_below_sixteen c h = grind (arith, nat_tests)

and_left : (a b : Bool) → (a && b) ≡ true → a ≡ true
and_left true b h = refl
and_left false b h = h

and_right : (a b : Bool) → (a && b) ≡ true → b ≡ true
and_right true b h = h
and_right false b h = cc

all_digits : (radix : ℕ) (is_one : ℕ → Bool) → ((c : ℕ) → is_one c ≡ true → digit_value c < radix) → (word : List ℕ) → list_all is_one word ≡ true → AllDigits radix word
all_digits radix is_one below [] h = tt
all_digits radix is_one below (c ∷ cs) h = (below c (and_left _ _ h), all_digits radix is_one below cs (and_right _ _ h))

digit_not_plus : (c : ℕ) → is_digit c ≡ true → (c == 43) ≡ false
digit_not_plus c h = grind (arith, nat_tests)

hexadecimal_not_plus : (c : ℕ) → is_hexadecimal_digit c ≡ true → (c == 43) ≡ false
hexadecimal_not_plus c h = grind (arith, nat_tests)

positive : (n : ℕ) → nat_lt 0 n ≡ true → 0 < n
positive n h = grind (arith, nat_tests)

small : (n : ℕ) → nat_le n 100000 ≡ true → n < 2 ^ 32
small n h = grind (arith, nat_tests)

sixteen : (n : ℕ) → nat_le n 16 ≡ true → n ≤ 16
sixteen n h = grind (arith, nat_tests)

no_plus : (is_one : ℕ → Bool) → ((c : ℕ) → is_one c ≡ true → (c == 43) ≡ false) → (word : List ℕ) → list_all is_one word ≡ true → without_leading_plus word ≡ word
no_plus is_one not_plus [] h = refl
no_plus is_one not_plus (c ∷ cs) h = ap (λ b. drop (cond b 1 0) (c ∷ cs)) (not_plus c (and_left _ _ h))

digits_of : (word : List ℕ) → is_numeral word ≡ true → list_all is_digit word ≡ true
digits_of word t = and_left _ _ (and_right _ _ t)

some_digit : (word : List ℕ) → is_numeral word ≡ true → 0 < length word
some_digit word t = positive (length word) (and_left _ _ (and_left _ _ t))

none_here : (b : Bool) (v : ℕ) → (b ≡ true → ⊥) → None ≡ cond b (Some v) None
none_here true v h = absurd (h refl)
none_here false v h = refl

-- a numeral that is refused writes too large a number
pub too_large : {E : Type 0} (word : List ℕ) (e : E) → is_numeral word ≡ true → ParsesUnsigned {E = E} 32 10 word (Err e) → None ≡ number_of word
unfolding number_of
too_large word e t h = none_here _ _ (λ both.
    let numeral : IsNumeral 10 word × (digits_value 10 word < 2 ^ 32) = ((some_digit word t, all_digits 10 is_digit digit_below_ten word (digits_of word t)), small _ (and_right _ _ both)) in
    h (subst (λ (w : List ℕ). IsNumeral 10 w × (digits_value 10 w < 2 ^ 32)) (sym (no_plus is_digit digit_not_plus word (digits_of word t))) numeral))

-- 16 digits fit 64 bits
sixteen_fit : (word : List ℕ) → AllDigits 16 word → length word ≤ 16 → digits_value 16 word < 2 ^ 64
sixteen_fit word all short =
    let below : digits_value 16 word < 16 ^ length word = digits_value-lt 16 word all in
    let most : 16 ^ length word ≤ 16 ^ 16 = pow-le-pow_right {n = 16} (omega arith) short in
    omega (arith, below, most)

-- so no address is refused
pub address_fits : {E : Type 0} (word : List ℕ) (e : E) → is_address word ≡ true → ParsesUnsigned {E = E} 64 16 word (Err e) → None ≡ address_of word
address_fits word e t h =
    let digits : list_all is_hexadecimal_digit word ≡ true = and_right _ _ t in
    let all : AllDigits 16 word = all_digits 16 is_hexadecimal_digit digit_below_sixteen word digits in
    let counts = and_left _ _ t in
    let numeral : IsNumeral 16 word × (digits_value 16 word < 2 ^ 64) = ((positive (length word) (and_left _ _ counts), all), sixteen_fit word all (sixteen (length word) (and_right _ _ counts))) in
    absurd (h (subst (λ (w : List ℕ). IsNumeral 16 w × (digits_value 16 w < 2 ^ 64)) (sym (no_plus is_hexadecimal_digit hexadecimal_not_plus word digits)) numeral))
