-- One relocation more, and one section more.
use Rattle.std.proofs.Common.{◌≡◌, ℕ, ◌+◌, ◌<◌, Bool, true, false, List, [], ◌∷◌, ◌++◌, length, take, get_or, Option, Some, None, refl, sym, ap, ◌∙◌, append-nil, append_assoc}
use Rattle.std.specs.Prelude.{filter, filter_map, flat_map}
use Rattle.std.proofs.lemmas.List.{take_more}
use Rattle.std.proofs.lemmas.List.Concat.{flat_map-append}

-- what a list gives behind another
filter_map-step : {X Y : Type 0} (f : X → Option Y) (x : X) (xs ys : List X) (v : Option Y) → f x ≡ v → filter_map f (xs ++ ys) ≡ filter_map f xs ++ filter_map f ys → filter_map f ((x ∷ xs) ++ ys) ≡ filter_map f (x ∷ xs) ++ filter_map f ys
filter_map-step f x xs ys (Some y) e rest = rw (e, rest) refl
filter_map-step f x xs ys None e rest = rw (e, rest) refl

pub filter_map-append : {X Y : Type 0} (f : X → Option Y) (xs ys : List X) → filter_map f (xs ++ ys) ≡ filter_map f xs ++ filter_map f ys
filter_map-append f [] ys = refl
filter_map-append f (x ∷ xs) ys = filter_map-step f x xs ys (f x) refl (filter_map-append f xs ys)

filter-step : {X : Type 0} (p : X → Bool) (x : X) (xs ys : List X) (b : Bool) → p x ≡ b → filter p (xs ++ ys) ≡ filter p xs ++ filter p ys → filter p ((x ∷ xs) ++ ys) ≡ filter p (x ∷ xs) ++ filter p ys
filter-step p x xs ys true e rest = rw (e, rest) refl
filter-step p x xs ys false e rest = rw (e, rest) refl

pub filter-append : {X : Type 0} (p : X → Bool) (xs ys : List X) → filter p (xs ++ ys) ≡ filter p xs ++ filter p ys
filter-append p [] ys = refl
filter-append p (x ∷ xs) ys = filter-step p x xs ys (p x) refl (filter-append p xs ys)

-- one element more
pub given_more : {X Y : Type 0} (f : X → Option Y) (xs : List X) (i : ℕ) (x d : X) (y : Y) (old before new : List Y) → i < length xs → get_or xs i d ≡ x → f x ≡ Some y
    → before ≡ old ++ filter_map f (take i xs) → new ≡ before ++ y ∷ [] → new ≡ old ++ filter_map f (take (i + 1) xs)
given_more f xs i x d y old before new inside at gives was is =
    let one : filter_map f (x ∷ []) ≡ y ∷ [] = rw gives refl in
    is ∙ ap (λ ys. ys ++ y ∷ []) was ∙ append_assoc old (filter_map f (take i xs)) (y ∷ [])
    ∙ ap (λ ys. old ++ ys)
    (ap (λ ys. filter_map f (take i xs) ++ ys) (sym one) ∙ sym (filter_map-append f (take i xs) (x ∷ []))
    ∙ ap (λ z. filter_map f (take i xs ++ z ∷ [])) (sym at) ∙ ap (filter_map f) (sym (take_more xs i d inside)))

pub none_given : {X Y : Type 0} (f : X → Option Y) (xs : List X) (i : ℕ) (x d : X) (old before : List Y) → i < length xs → get_or xs i d ≡ x → f x ≡ None
    → before ≡ old ++ filter_map f (take i xs) → before ≡ old ++ filter_map f (take (i + 1) xs)
none_given f xs i x d old before inside at gives was =
    let one : filter_map f (x ∷ []) ≡ [] = rw gives refl in
    was
    ∙ ap (λ ys. old ++ ys)
    (sym (append-nil (filter_map f (take i xs))) ∙ ap (λ ys. filter_map f (take i xs) ++ ys) (sym one) ∙ sym (filter_map-append f (take i xs) (x ∷ []))
    ∙ ap (λ z. filter_map f (take i xs ++ z ∷ [])) (sym at) ∙ ap (filter_map f) (sym (take_more xs i d inside)))

-- one list more of those that pass
pub joined_more : {X Y : Type 0} (p : X → Bool) (f : X → List Y) (xs : List X) (i : ℕ) (x d : X) (old before new : List Y) → i < length xs → get_or xs i d ≡ x → p x ≡ true
    → before ≡ old ++ flat_map f (filter p (take i xs)) → new ≡ before ++ f x → new ≡ old ++ flat_map f (filter p (take (i + 1) xs))
joined_more p f xs i x d old before new inside at passes was is =
    let one : flat_map f (filter p (x ∷ [])) ≡ f x = rw passes (append-nil (f x)) in
    is ∙ ap (λ ys. ys ++ f x) was ∙ append_assoc old (flat_map f (filter p (take i xs))) (f x)
    ∙ ap (λ ys. old ++ ys)
    (ap (λ ys. flat_map f (filter p (take i xs)) ++ ys) (sym one) ∙ sym (flat_map-append f (filter p (take i xs)) (filter p (x ∷ [])))
    ∙ ap (flat_map f) (sym (filter-append p (take i xs) (x ∷ [])) ∙ ap (λ z. filter p (take i xs ++ z ∷ [])) (sym at) ∙ ap (filter p) (sym (take_more xs i d inside))))

pub none_joined : {X Y : Type 0} (p : X → Bool) (f : X → List Y) (xs : List X) (i : ℕ) (x d : X) (old before : List Y) → i < length xs → get_or xs i d ≡ x → p x ≡ false
    → before ≡ old ++ flat_map f (filter p (take i xs)) → before ≡ old ++ flat_map f (filter p (take (i + 1) xs))
none_joined p f xs i x d old before inside at fails was =
    let one : filter p (x ∷ []) ≡ [] = rw fails refl in
    was
    ∙ ap (λ ys. old ++ flat_map f ys)
    (sym (append-nil (filter p (take i xs))) ∙ ap (λ ys. filter p (take i xs) ++ ys) (sym one) ∙ sym (filter-append p (take i xs) (x ∷ []))
    ∙ ap (λ z. filter p (take i xs ++ z ∷ [])) (sym at) ∙ ap (filter p) (sym (take_more xs i d inside)))
