-- What is made of the elements of a list that ascends, where something is made of some of them only.
use Rattle.std.proofs.Common.{◌≡◌, true, Bool, cond, List, [], ◌∷◌, map, filter, Option, Some, None, inl, inr, refl, sym, ap, ◌∙◌}
use Rattle.std.specs.Prelude.{filter_map, is_some}
use Rattle.std.specs.List.{cons_option}
use Rattle.std.specs.List.Sorted.{IsStrictlySortedBy}
use Rattle.std.specs.Cmp.{IsTotalOrder}
use Rattle.std.specs.declared.cmp.Ordering.{Ordering}
use Rattle.std.specs.declared.cmp.Ordering.TheVariants.{Equal}
use Rattle.std.proofs.lemmas.List.Kept.{IsStrictlySortedBy-filter}
use Rattle.alternatives.proofs.Ascending.{In, every-filter, every-from_in, every-in, every-passes, in-filter, same_elements}

pub in_kept : {X : Type 0} (p : X → Bool) (xs : List X) (q : X) → In q (filter p xs) → In q xs
in_kept p xs q h = every-in (λ x. In x xs) (filter p xs) q (every-filter (λ x. In x xs) p xs (every-from_in (λ x. In x xs) xs (λ x k. k))) h

pub kept_passes : {X : Type 0} (p : X → Bool) (xs : List X) (q : X) → In q (filter p xs) → p q ≡ true
kept_passes p xs q h = every-in (λ x. p x ≡ true) (filter p xs) q (every-passes p xs) h

one_kept : {X Y : Type 0} (f : X → Option Y) (x : X) (ys : List X) (rest : List Y) (made : Option Y) → f x ≡ made → rest ≡ filter_map f ys → cons_option made rest ≡ filter_map f (cond (is_some made) (x ∷ ys) ys)
one_kept f x ys rest None is same = same
one_kept f x ys rest (Some y) is same = ap (λ zs. y ∷ zs) same ∙ sym (ap (λ o. cons_option o (filter_map f ys)) is)

-- only those count of which something is made
made_kept : {X Y : Type 0} (f : X → Option Y) (xs : List X) → filter_map f xs ≡ filter_map f (filter (λ x. is_some (f x)) xs)
made_kept f [] = refl
made_kept f (x ∷ xs) = one_kept f x (filter (λ y. is_some (f y)) xs) (filter_map f xs) (f x) refl (made_kept f xs)

-- so it is the same of fewer that ascend, if they have all of those
pub made_of_fewer : {X Y : Type 0} (c : X → X → Ordering) (total : IsTotalOrder c) (same : (x y : X) → c x y ≡ Equal → x ≡ y) (f : X → Option Y) (xs ys : List X) → IsStrictlySortedBy c xs → IsStrictlySortedBy c ys → ((q : X) → In q ys → In q xs) → ((q : X) → In q xs → is_some (f q) ≡ true → In q ys) → filter_map f xs ≡ filter_map f ys
made_of_fewer {X} {Y} c total same f xs ys a b within all =
    let p : X → Bool = λ q. is_some (f q) in
    made_kept f xs
    ∙ ap (filter_map f) (same_elements c total same (filter p xs) (filter p ys) (IsStrictlySortedBy-filter c p xs a) (IsStrictlySortedBy-filter c p ys b)
    (λ q h. in-filter p ys q (all q (in_kept p xs q h) (kept_passes p xs q h)) (kept_passes p xs q h))
    (λ q h. in-filter p xs q (within q (in_kept p ys q h)) (kept_passes p ys q h)))
    ∙ sym (made_kept f ys)

-- where something is made of each
pub made_of_each : {X Y Z : Type 0} (f : X → Option Y) (g : Z → X) (h : Z → Y) (zs : List Z) → ((z : Z) → In z zs → f (g z) ≡ Some (h z)) → filter_map f (map g zs) ≡ map h zs
made_of_each f g h [] each = refl
made_of_each f g h (z ∷ zs) each =
    ap (λ o. cons_option o (filter_map f (map g zs))) (each z (inl refl))
    ∙ ap (λ ys. h z ∷ ys) (made_of_each f g h zs (λ y k. each y (inr k)))
