-- The object of so many functions is short enough for a file.
use Rattle.std.proofs.Common.{◌≡◌, ℕ, zero, suc, ◌+◌, ◌*◌, ◌%◌, ◌≤◌, Bool, true, false, List, [], ◌∷◌, ◌++◌, length, refl, ap, ◌∙◌, arith, length-append}
use Rattle.std.specs.Prelude.{codes, ◌==◌, if◌then◌else◌}
use Rattle.std.specs.Fmt.{decimal}
use Rattle.std.specs.List.{flat_map}
use Rattle.std.proofs.lemmas.Bool.Decides.{nat_tests}
use Rattle.std.proofs.lemmas.Fmt.{length-decimal-le}
use Rattle.std.proofs.lemmas.List.{append-nil}
use Rattle.std.proofs.lemmas.List.Concat.{flat_map-append}
use Rattle.std.proofs.lemmas.List.FromFn.{length-map-range_with_len}
use Rattle.demo_objects.specs.Demo.{branch_code, call_code, demo_code, demo_spec, demo_symbol, demo_symbols, demo_text, frame_code}
use Rattle.demo_objects.specs.Layout.{bodies_end, file_of, headers_place, names_entry, next_multiple, with_names}
use Rattle.demo_objects.specs.Made.{made, name_text, strings_body, strings_entry, symbols_entry}
use Rattle.demo_objects.specs.Spec.{NewSymbol, Spec}
use Rattle.demo_objects.proofs.Can.{length-symbols_body}
use Rattle.demo_objects.proofs.CanDemo.{demo_front, sections-are, symbols-more, text-more}
use Rattle.demo_objects.proofs.Sizes.{AreAligned, length-file_of}

code_short : (i : ℕ) → length (demo_code i) ≤ 16
code_short i = by (i % 3 == 0) (i % 3 == 1)
  where
    by : (a b : Bool) → length (if a then frame_code else if b then call_code else branch_code) ≤ 16
    by true b = omega arith
    by false true = omega arith
    by false false = omega arith

text_short : (n : ℕ) → length (demo_text n) ≤ 16 * n
text_short zero = omega arith
text_short (suc n) =
    let next : suc n ≡ n + 1 = omega arith in
    let more : length (demo_text (suc n)) ≡ length (demo_text n ++ demo_code n) = ap length (ap demo_text next ∙ text-more n) in
    omega (arith, more, length-append (demo_text n) (demo_code n), text_short n, code_short n)

name_short : (name : List ℕ) → length (name_text name) ≤ length name + 1
name_short name = by (length name == 0)
  where
    by : (b : Bool) → length (if b then [] else name ++ 0 ∷ []) ≤ length name + 1
    by true = omega arith
    by false = omega (arith, length-append name (0 ∷ []))

strings_short : (n : ℕ) → n ≤ 100000 → length (strings_body (demo_symbols n)) ≤ 7 * n + 1
strings_short zero h = omega arith
strings_short (suc n) h =
    let next : suc n ≡ n + 1 = omega arith in
    let text : NewSymbol → List ℕ = λ x. name_text x.name in
    let all : flat_map text (demo_symbols (suc n)) ≡ flat_map text (demo_symbols n) ++ name_text (codes "f" ++ decimal n) =
    ap (λ (m : ℕ). flat_map text (demo_symbols m)) next
    ∙ ap (flat_map text) (symbols-more n)
    ∙ flat_map-append text (demo_symbols n) (demo_symbol n ∷ [])
    ∙ ap (λ (xs : List ℕ). flat_map text (demo_symbols n) ++ xs) (append-nil (name_text (demo_symbol n).name)) in
    let more : length (flat_map text (demo_symbols (suc n))) ≡ length (flat_map text (demo_symbols n) ++ name_text (codes "f" ++ decimal n)) = ap length all in
    let digits : length (decimal n) ≤ 5 = length-decimal-le 5 n (omega arith) (omega arith) (omega arith) in
    omega (arith, more, digits, length-append (flat_map text (demo_symbols n)) (name_text (codes "f" ++ decimal n)), name_short (codes "f" ++ decimal n), length-append (codes "f") (decimal n), strings_short n (omega arith))

aligned : (n : ℕ) → AreAligned (with_names (demo_front n))
aligned n zero d h = omega arith
aligned n (suc zero) d h = omega arith
aligned n (suc (suc zero)) d h = omega arith
aligned n (suc (suc (suc zero))) d h = omega arith
aligned n (suc (suc (suc (suc k)))) d h = absurd (omega arith)

next_most : (a n : ℕ) → 1 ≤ a → next_multiple a n ≤ n + a
next_most a n h = grind (arith, nat_tests)

pub demo_short : (n : ℕ) → n ≤ 100000 → length (made (demo_spec n)) ≤ 67108864
demo_short n h =
    let s : Spec = demo_spec n in
    let es = with_names (demo_front n) in
    let text = text_short n in
    let strings = strings_short n h in
    let symbols = length-symbols_body (demo_symbols n) in
    let count : length (demo_symbols n) ≡ suc n = ap (λ (m : ℕ). suc m) (length-map-range_with_len demo_symbol 0 n) in
    let e1 : ℕ = next_multiple 1 64 + length (demo_text n) in
    let e2 : ℕ = next_multiple 8 e1 + length (symbols_entry s).body in
    let e3 : ℕ = next_multiple 1 e2 + length (strings_entry s).body in
    let e4 : ℕ = next_multiple 1 e3 + length (names_entry (demo_front n)).body in
    let m1 = next_most 1 64 (omega arith) in
    let m2 = next_most 8 e1 (omega arith) in
    let m3 = next_most 1 e2 (omega arith) in
    let m4 = next_most 1 e3 (omega arith) in
    let m5 = next_most 8 e4 (omega arith) in
    let names : length (names_entry (demo_front n)).body ≡ 33 = refl in
    let end : bodies_end 64 es ≡ e4 = refl in
    let place : headers_place es ≡ next_multiple 8 e4 = refl in
    let all : length (file_of es) ≡ headers_place es + 64 * (length es + 1) = length-file_of es (aligned n) in
    let same : length (made (demo_spec n)) ≡ length (file_of es) = ap (λ xs. length (file_of xs)) (sections-are n) in
    omega arith
