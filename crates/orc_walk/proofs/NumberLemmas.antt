-- The numbers that digits write.
use Rattle.std.proofs.Common.{◌≡◌, ℕ, ◌+◌, ◌*◌, ◌^◌, ◌<◌, ◌≤◌, Bool, true, false, ◌&&◌, List, [], ◌∷◌, length, refl, sym, eqb, arith, Vec, Option, Some, None, Result, Ok, Err}
use Rattle.std.specs.Prelude.{All, IfOk, IfSome, option_map}
use Rattle.std.specs.Result.{result_ok}
use Rattle.std.specs.declared.alloc.Global.{Global}
use Rattle.hex.specs.Hex.{decode_of}
use Rattle.hex.proofs.HexLemmas.{decode_of-ok}
use Rattle.std.specs.Char.{digit_value}
use Rattle.std.specs.List.{list_all}
use Rattle.std.proofs.lemmas.Bool.Decides.{nat_tests}
use Rattle.std.proofs.lemmas.Grind.{pow_more}
use Rattle.std.proofs.Math.Nat.{pow-le-pow_right, mul-le-mul_left, mul-le-mul_right}
use Rattle.std.proofs.lemmas.List.Elements.{All-nil, All-cons}
use Rattle.orc_walk.specs.Numbers.{is_hexadecimal_digit, is_decimal_digit}

-- one digit more is still below the next power of 16
pub below_more : (v r d i : ℕ) → v < 16 ^ i → r ≤ 16 → d < r → v * r + d < 16 ^ (i + 1)
below_more v r d i small radix digit =
    let next : (v + 1) * r ≤ (v + 1) * 16 = mul-le-mul_left (v + 1) radix in
    let power : (v + 1) * 16 ≤ 16 ^ i * 16 = mul-le-mul_right 16 (omega arith) in
    let product : (v + 1) * r ≡ v * r + r = grind arith in
    let total : 16 ^ (i + 1) ≡ 16 ^ i * 16 = pow_more 16 i in
    omega (arith, next, power, product, total)

-- 16 digits fit 64 bits
pub fits : (v i : ℕ) → i ≤ 16 → v < 16 ^ i → v < 2 ^ 64
fits v i few small =
    let most : 16 ^ i ≤ 16 ^ 16 = pow-le-pow_right {n = 16} (omega arith) few in
    omega (arith, most)

hexadecimal_below : (c : ℕ) → is_hexadecimal_digit c ≡ true → digit_value c < 16
hexadecimal_below c h = grind (arith, nat_tests)

decimal_below : (c : ℕ) → is_decimal_digit c ≡ true → digit_value c < 10
decimal_below c h = grind (arith, nat_tests)

both_true : (a b : Bool) → (a && b) ≡ true → (a ≡ true) × (b ≡ true)
both_true true b h = (refl, h)
both_true false b h = (h, let e : false ≡ true = h in cc)

each_digit : (p : ℕ → Bool) (P : ℕ → Type 0) → ((c : ℕ) → p c ≡ true → P c) → (word : List ℕ) → list_all p word ≡ true → All P word
each_digit p P says [] h = All-nil P
each_digit p P says (c ∷ cs) h =
    let both = both_true (p c) (list_all p cs) h in
    All-cons P c cs (says c both.0) (each_digit p P says cs both.1)

pub hexadecimal_digits : (word : List ℕ) → list_all is_hexadecimal_digit word ≡ true → All (λ c. digit_value c < 16) word
hexadecimal_digits word h = each_digit is_hexadecimal_digit (λ c. digit_value c < 16) hexadecimal_below word h

pub decimal_digits : (word : List ℕ) → list_all is_decimal_digit word ≡ true → All (λ c. digit_value c < 10) word
decimal_digits word h = each_digit is_decimal_digit (λ c. digit_value c < 10) decimal_below word h

pub product_fits : (v r i : ℕ) → v < 16 ^ i → r ≤ 16 → i < 16 → v * r < 2 ^ 64
product_fits v r i small radix few =
    let next : v * r ≤ v * 16 = mul-le-mul_left v radix in
    let total : 16 ^ (i + 1) ≡ 16 ^ i * 16 = pow_more 16 i in
    let most : 16 ^ (i + 1) ≤ 16 ^ 16 = pow-le-pow_right {n = 16} (omega arith) {i = i + 1} {j = 16} (omega arith) in
    omega (arith, next, total, most)

pub sum_fits : (v r d i : ℕ) → v < 16 ^ i → r ≤ 16 → d < r → i < 16 → v * r + d < 2 ^ 64
sum_fits v r d i small radix digit few = fits (v * r + d) (i + 1) (omega arith) (below_more v r d i small radix digit)

ok_from : {A E : Type 0} (r : Result A E) (x : A) → result_ok r ≡ Some x → r ≡ Ok x
ok_from (Ok y) x h = cc
ok_from (Err e) x h = absurd (let e : None ≡ Some x = h in cc)

-- what a word of digits writes has a byte at least
some_bytes : (word : List ℕ) (written : Option (Vec ℕ Global)) → 0 < length word → option_map (λ v. v.items) written ≡ result_ok (decode_of word) → IfSome written (λ v. 0 < length v.items)
some_bytes word None long h = tt
some_bytes word (Some v) long h =
    let twice = decode_of-ok word v.items (ok_from (decode_of word) v.items (sym h)) in
    omega (arith, twice.2)

not_zero : (n : ℕ) → eqb n 0 ≡ false → 0 < n
not_zero n h = grind (arith, nat_tests)

pub written_bytes : {E : Type 0} (word : List ℕ) (r : Result (Option (Vec ℕ Global)) E) → eqb (length word) 0 ≡ false → IfOk r (λ written. option_map (λ v. v.items) written ≡ result_ok (decode_of word)) → IfOk r (λ written. IfSome written (λ v. 0 < length v.items))
written_bytes word (Ok written) full h = some_bytes word written (not_zero (length word) full) h
written_bytes word (Err e) full h = tt
