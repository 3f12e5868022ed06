-- Numbers in eight bytes, and lists of parts that are equally long.
use Rattle.std.proofs.Common.{◌≡◌, ℕ, zero, suc, ◌+◌, ◌*◌, ◌/◌, ◌%◌, ◌^◌, ◌<◌, ◌≤◌, List, [], ◌∷◌, ◌++◌, refl, sym, ◌∙◌, ap, length, take, drop, get_or, length-append, arith}
use Rattle.std.proofs.Math.Nat.{div-div-eq-div-mul, pow-suc}
use Rattle.std.proofs.Math.Seq.{drop-append-add}
use Rattle.std.specs.Prelude.{flat_map}
use Rattle.std.specs.Int.{byte_at, bytes_low_first}
use Rattle.byteorder.specs.Endian.{little_from, little_number, little_bytes}
use Rattle.byteorder.specs.Numbers.{little_from-cons, little_from-lt, little_number-reads_back, length-bytes_low_first}
use Rattle.elf_objects.specs.Number.{xword}

-- a byte of a number is one place lower in a 256th of it
byte_shifted : (k x : ℕ) → byte_at (suc k) x ≡ byte_at k (x / 256)
byte_shifted zero x = refl
byte_shifted (suc k) x = ap (λ (y : ℕ). y % 256) (ap (λ (p : ℕ). x / p) (pow-suc 256 (suc k) ∙ swapped (256 ^ suc k)) ∙ sym (div-div-eq-div-mul x 256 (256 ^ suc k)))
  where
    swapped : (p : ℕ) → p * 256 ≡ 256 * p
    swapped p = omega arith

bytes_shifted : (j k x : ℕ) → bytes_low_first (suc j) k x ≡ bytes_low_first j k (x / 256)
bytes_shifted j zero x = refl
bytes_shifted j (suc k) x = ap (λ b. b ∷ bytes_low_first (suc (suc j)) k x) (byte_shifted j x) ∙ ap (λ bs. byte_at j (x / 256) ∷ bs) (bytes_shifted (suc j) k x)

-- the bytes of the number in some bytes are these
bytes_again : (k : ℕ) (xs : List ℕ) → ((i : ℕ) → get_or xs i 0 < 256) → k ≤ length xs → bytes_low_first 0 k (little_from 0 k xs) ≡ take k xs
bytes_again zero xs small long = refl
bytes_again (suc k) [] small long = absurd (omega arith)
bytes_again (suc k) (a ∷ xs) small long =
    let rest : little_from 1 k (a ∷ xs) ≡ little_from 0 k xs = little_from-cons 0 k a xs in
    let few : a < 256 = small 0 in
    let low : (a + 256 * little_from 0 k xs) % 256 ≡ a = omega arith in
    let high : (a + 256 * little_from 0 k xs) / 256 ≡ little_from 0 k xs = omega arith in
    ap (λ (n : ℕ). bytes_low_first 0 (suc k) (a + 256 * n)) rest
    ∙ ap (λ b. b ∷ bytes_low_first 1 k (a + 256 * little_from 0 k xs)) low
    ∙ ap (λ bs. a ∷ bs) (bytes_shifted 0 k (a + 256 * little_from 0 k xs) ∙ ap (bytes_low_first 0 k) high ∙ bytes_again k xs (λ i. small (suc i)) (omega arith))

pub eight_bytes : (xs : List ℕ) (n : ℕ) → ((i : ℕ) → get_or xs i 0 < 256) → 8 ≤ length xs → n ≡ little_number 8 xs → little_bytes 8 n ≡ take 8 xs
eight_bytes xs n small long is = ap (bytes_low_first 0 8) is ∙ bytes_again 8 xs small long

pub length_eight : (n : ℕ) → length (little_bytes 8 n) ≡ 8
length_eight n = length-bytes_low_first 0 8 n

-- the number that is written at an offset
pub xword_here : (bytes : List ℕ) (at n : ℕ) (tail : List ℕ) → n < 2 ^ 64 → drop at bytes ≡ little_bytes 8 n ++ tail → xword bytes at ≡ n
unfolding xword
xword_here bytes at n tail fits h = ap (little_number 8) h ∙ little_number-reads_back 8 n tail fits

pub xword_fits : (bytes : List ℕ) (at : ℕ) → ((i : ℕ) → get_or (drop at bytes) i 0 < 256) → xword bytes at < 2 ^ 64
unfolding xword
xword_fits bytes at small = little_from-lt 0 8 (drop at bytes) small

-- a list of parts of one length
pub length_each : {X : Type 0} (f : X → List ℕ) (m : ℕ) (xs : List X) → ((x : X) → length (f x) ≡ m) → length (flat_map f xs) ≡ m * length xs
length_each f m [] long = sym (none m)
  where
    none : (m : ℕ) → m * 0 ≡ 0
    none m = omega arith
length_each f m (x ∷ xs) long =
    let front = long x in
    let back = length_each f m xs long in
    omega (arith, front, back, length-append (f x) (flat_map f xs))

pub drop_each : {X : Type 0} (f : X → List ℕ) (m : ℕ) (xs : List X) (i : ℕ) → ((x : X) → length (f x) ≡ m) → i ≤ length xs → drop (m * i) (flat_map f xs) ≡ flat_map f (drop i xs)
drop_each f m xs zero long le = ap (λ (n : ℕ). drop n (flat_map f xs)) (none m)
  where
    none : (m : ℕ) → m * 0 ≡ 0
    none m = omega arith
drop_each f m [] (suc i) long le = absurd (omega arith)
drop_each f m (x ∷ xs) (suc i) long le =
    let front = long x in
    let places : m * suc i ≡ length (f x) + m * i = omega (arith, front) in
    ap (λ (n : ℕ). drop n (f x ++ flat_map f xs)) places
    ∙ drop-append-add (f x) (flat_map f xs) (m * i)
    ∙ drop_each f m xs i long (omega arith)
