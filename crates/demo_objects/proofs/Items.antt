-- What is known of the items of a list.
use Rattle.std.proofs.Common.{◌≡◌, ℕ, zero, suc, ◌+◌, ◌<◌, ◌≤◌, List, [], ◌∷◌, ◌++◌, length, map, take, get_or, sym, ap, subst, ◌∙◌, arith}
use Rattle.std.specs.Prelude.{All}
use Rattle.std.proofs.lemmas.List.{get_or-map, length-map, map-append, take_all, take_more}
use Rattle.std.proofs.lemmas.List.Elements.{All-append}

-- of an item that the code reads, what holds of each
pub item-all : {X Y : Type 0} (f : X → Y) (P : Y → Type 0) (xs : List X) (k : ℕ) (x : X) → x ≡ get_or xs k x → k < length xs → All P (map f xs) → P (f x)
item-all f P xs k x is h ok =
    let l = length-map xs f in
    subst P (get_or-map f xs k x (f x) h ∙ ap f (sym is)) (ok k (f x) (omega arith))

-- a list of one item
pub all-only : {Y : Type 0} (P : Y → Type 0) (y : Y) → P y → All P (y ∷ [])
all-only P y p zero d h = p
all-only P y p (suc k) d h = absurd (omega arith)

-- one item more
pub all-more : {X Y : Type 0} (f : X → Y) (P : Y → Type 0) (xs : List X) (k : ℕ) (x : X) → x ≡ get_or xs k x → k < length xs → All P (map f (take k xs)) → P (f x) → All P (map f (take (k + 1) xs))
all-more {X} {Y} f P xs k x is h ok one =
    let e : map f (take (k + 1) xs) ≡ map f (take k xs) ++ f x ∷ [] =
    ap (map f) (take_more xs k x h) ∙ map-append f (take k xs) (get_or xs k x ∷ []) ∙ ap (λ (y : X). map f (take k xs) ++ f y ∷ []) (sym is) in
    subst (All P) (sym e) (All-append P (map f (take k xs)) (f x ∷ []) ok (all-only P (f x) one))

pub all-taken : {X Y : Type 0} (f : X → Y) (P : Y → Type 0) (xs : List X) (k : ℕ) → length xs ≤ k → All P (map f (take k xs)) → All P (map f xs)
all-taken {X} f P xs k h ok = subst (λ (ys : List X). All P (map f ys)) (take_all k xs h) ok

-- the same of the items themselves
pub all-next : {X : Type 0} (P : X → Type 0) (xs : List X) (k : ℕ) (d : X) → k < length xs → All P (take k xs) → P (get_or xs k d) → All P (take (k + 1) xs)
all-next P xs k d h ok one = subst (All P) (sym (take_more xs k d h)) (All-append P (take k xs) (get_or xs k d ∷ []) ok (all-only P (get_or xs k d) one))

pub all-whole : {X : Type 0} (P : X → Type 0) (xs : List X) (k : ℕ) → length xs ≤ k → All P (take k xs) → All P xs
all-whole P xs k h ok = subst (All P) (take_all k xs h) ok
