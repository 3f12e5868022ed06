-- Lists that stand behind others, and what is found there.
use Rattle.std.proofs.Common.{◌≡◌, ℕ, zero, suc, ◌+◌, ◌<◌, Bool, true, false, nat_lt, List, [], ◌∷◌, ◌++◌, map, length, Some, refl, ap, ◌∙◌, arith, length-append}
use Rattle.std.specs.Prelude.{All, option_map, position, slice_get}
use Rattle.std.specs.List.{enumerate_from, position_or_len}
use Rattle.std.proofs.lemmas.Bool.{lt-ltb}
use Rattle.std.proofs.lemmas.List.Elements.{All-nil, All-cons, All-head, All-tail}

-- an element of the first list
pub slice_get-front : {X : Type 0} (xs ys : List X) (k : ℕ) → k < length xs → slice_get (xs ++ ys) k ≡ slice_get xs k
slice_get-front [] ys k h = absurd (omega arith)
slice_get-front (x ∷ xs) ys zero h = refl
slice_get-front (x ∷ xs) ys (suc k) h = slice_get-front xs ys k (omega arith)

-- an element of the second
pub slice_get-behind : {X : Type 0} (xs ys : List X) (n k : ℕ) → n ≡ length xs + k → slice_get (xs ++ ys) n ≡ slice_get ys k
slice_get-behind [] ys n k e = ap (slice_get ys) (omega arith)
slice_get-behind (x ∷ xs) ys zero k e = absurd (omega arith)
slice_get-behind (x ∷ xs) ys (suc n) k e = slice_get-behind xs ys n k (omega arith)

-- where no element of the first list passes
past : {X : Type 0} (p : X → Bool) (xs ys : List X) → All (λ x. p x ≡ false) xs → position_or_len p (xs ++ ys) ≡ length xs + position_or_len p ys
past p [] ys none = omega arith
past p (x ∷ xs) ys none =
    let here : p x ≡ false = All-head (λ x. p x ≡ false) x xs none in
    let rest = past p xs ys (All-tail (λ x. p x ≡ false) x xs none) in
    rw here (omega arith)

pub position-behind : {X : Type 0} (p : X → Bool) (xs ys : List X) (k : ℕ) → All (λ x. p x ≡ false) xs → position_or_len p ys ≡ k → k < length ys
    → position p (xs ++ ys) ≡ Some (length xs + k)
position-behind p xs ys k none e h =
    let at : position_or_len p (xs ++ ys) ≡ length xs + k = past p xs ys none ∙ ap (λ (n : ℕ). length xs + n) e in
    let inside : nat_lt (length xs + k) (length (xs ++ ys)) ≡ true = lt-ltb _ _ (omega (arith, length-append xs ys)) in
    rw (at, inside) refl

-- each element with its index, turned into another
pub slice_get-each : {X Y : Type 0} (f : ℕ × X → Y) (n : ℕ) (xs : List X) (k : ℕ)
    → slice_get (map f (enumerate_from n xs)) k ≡ option_map (λ x. f (n + k, x)) (slice_get xs k)
slice_get-each f n [] k = refl
slice_get-each f n (x ∷ xs) zero = ap (λ (m : ℕ). Some (f (m, x))) (omega arith)
slice_get-each f n (x ∷ xs) (suc k) =
    slice_get-each f (n + 1) xs k ∙ ap (λ (m : ℕ). option_map (λ y. f (m, y)) (slice_get xs k)) (omega arith)

pub length-each : {X Y : Type 0} (f : ℕ × X → Y) (n : ℕ) (xs : List X) → length (map f (enumerate_from n xs)) ≡ length xs
length-each f n [] = refl
length-each f n (x ∷ xs) = let e = length-each f (n + 1) xs in omega (arith, e)

pub All-each : {X Y : Type 0} (P : X → Type 0) (Q : Y → Type 0) (f : ℕ × X → Y) (n : ℕ) (xs : List X) → ((m : ℕ) (x : X) → P x → Q (f (m, x))) → All P xs
    → All Q (map f (enumerate_from n xs))
All-each P Q f n [] step all = All-nil Q
All-each P Q f n (x ∷ xs) step all =
    All-cons Q _ _ (step n x (All-head P x xs all)) (All-each P Q f (n + 1) xs step (All-tail P x xs all))
