-- What a slice holds after a write to a part of it.
use Rattle.std.proofs.Common.{◌≡◌, ℕ, ◌+◌, ◌-◌, List, [], ◌++◌, length, take, drop, sym, ap, ◌∙◌, arith}
use Rattle.std.proofs.lemmas.List.{append-nil, append_assoc, drop-drop, drop-take}
use borrow.Rule.Slice.PartMut.{put_mid}
use Rattle.elf_write.specs.Layout.{written, encoded}
use Rattle.elf_write.proofs.Lists.{length-encoded}

pub put-written : (at w n : ℕ) (xs ys : List ℕ) → ys ≡ encoded w n ++ drop w (take (at + w - at) (drop at xs))
    → put_mid at (at + w - at) xs ys ≡ written at (encoded w n) xs
put-written at w n xs ys e =
    let k : at + w - at ≡ w = omega arith in
    let z : at + w - at ≡ w + 0 = omega arith in
    let none : drop w (take (at + w - at) (drop at xs)) ≡ [] = ap (λ (j : ℕ). drop w (take j (drop at xs))) z ∙ drop-take w 0 (drop at xs) in
    let is : ys ≡ encoded w n = e ∙ ap (λ (r : List ℕ). encoded w n ++ r) none ∙ append-nil (encoded w n) in
    let l = length-encoded w n in
    let m : at + w ≡ at + length (encoded w n) = omega arith in
    rw (is, k)
    (ap (λ (r : List ℕ). take at xs ++ (encoded w n ++ r)) (drop-drop w at xs ∙ ap (λ (j : ℕ). drop j xs) m)
    ∙ sym (append_assoc (take at xs) (encoded w n) (drop (at + length (encoded w n)) xs)))
