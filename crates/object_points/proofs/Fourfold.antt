-- Four items for each of some others.
use Rattle.std.proofs.Common.{◌≡◌, ℕ, zero, suc, ◌+◌, ◌*◌, Bool, true, false, List, [], ◌∷◌, ◌++◌, Some, length, refl, sym, ap, ◌∙◌, subst, arith, if◌then◌else◌}
use Rattle.std.specs.Prelude.{slice_get}
use Rattle.program_graph.specs.declared.parts.Owner.{Owner}
use Rattle.object_points.specs.declared.code_owners.CodeOwner.{CodeOwner}
use Rattle.object_points.specs.Owners.{all_owners, fourfold, owner_by}

pub none_fourfold : (loose : Bool) (before : List Owner) → before ≡ before ++ fourfold loose []
unfolding fourfold
none_fourfold loose [] = refl
none_fourfold loose (x ∷ xs) = ap (λ (ys : List Owner). x ∷ ys) (none_fourfold loose xs)

-- the four of one
abbrev pub four_of : Bool → CodeOwner → List Owner
four_of loose x = owner_by x loose false false ∷ owner_by x loose false true ∷ owner_by x loose true false ∷ owner_by x loose true true ∷ []

pub fourfold_more : (loose : Bool) (xs : List CodeOwner) (x : CodeOwner) → fourfold loose (xs ++ x ∷ []) ≡ fourfold loose xs ++ four_of loose x
unfolding fourfold
fourfold_more loose [] x = refl
fourfold_more loose (y ∷ xs) x = ap (λ (ys : List Owner). owner_by y loose false false ∷ owner_by y loose false true ∷ owner_by y loose true false ∷ owner_by y loose true true ∷ ys) (fourfold_more loose xs x)

append_four : (before : List Owner) (a b c d : Owner) → (((before ++ a ∷ []) ++ b ∷ []) ++ c ∷ []) ++ d ∷ [] ≡ before ++ (a ∷ b ∷ c ∷ d ∷ [])
append_four [] a b c d = refl
append_four (x ∷ before) a b c d = ap (λ (ys : List Owner). x ∷ ys) (append_four before a b c d)

assoc : (xs ys zs : List Owner) → (xs ++ ys) ++ zs ≡ xs ++ (ys ++ zs)
assoc [] ys zs = refl
assoc (x ∷ xs) ys zs = ap (λ (l : List Owner). x ∷ l) (assoc xs ys zs)

-- four pushed behind the others
pub pushed_four : (before : List Owner) (loose : Bool) (xs : List CodeOwner) (x : CodeOwner) → ((((before ++ fourfold loose xs) ++ owner_by x loose false false ∷ []) ++ owner_by x loose false true ∷ []) ++ owner_by x loose true false ∷ []) ++ owner_by x loose true true ∷ [] ≡ before ++ fourfold loose (xs ++ x ∷ [])
pushed_four before loose xs x =
    append_four (before ++ fourfold loose xs) (owner_by x loose false false) (owner_by x loose false true) (owner_by x loose true false) (owner_by x loose true true)
    ∙ assoc before (fourfold loose xs) (four_of loose x)
    ∙ ap (λ (ys : List Owner). before ++ ys) (sym (fourfold_more loose xs x))

pub fourfold_length : (loose : Bool) (xs : List CodeOwner) → length (fourfold loose xs) ≡ 4 * length xs
unfolding fourfold
fourfold_length loose [] = refl
fourfold_length loose (x ∷ xs) = omega (arith, fourfold_length loose xs)

abbrev pub which : Bool → Bool → ℕ
which uncovered patches = (if uncovered then 2 else 0) + (if patches then 1 else 0)

four_more : (k : ℕ) (u p : Bool) → 4 * suc k + which u p ≡ suc (suc (suc (suc (4 * k + which u p))))
four_more k true true = omega arith
four_more k true false = omega arith
four_more k false true = omega arith
four_more k false false = omega arith

same_some : (x y : CodeOwner) → Some x ≡ Some y → x ≡ y
same_some x y e = cc

pub fourfold_at : (loose : Bool) (xs : List CodeOwner) (k : ℕ) (x : CodeOwner) (u p : Bool) → slice_get xs k ≡ Some x → slice_get (fourfold loose xs) (4 * k + which u p) ≡ Some (owner_by x loose u p)
unfolding fourfold
fourfold_at loose [] k x u p at = absurd (let z : ⊥ = cc in z)
fourfold_at loose (y ∷ xs) zero x true true at = ap (λ (z : CodeOwner). Some (owner_by z loose true true)) (same_some y x at)
fourfold_at loose (y ∷ xs) zero x true false at = ap (λ (z : CodeOwner). Some (owner_by z loose true false)) (same_some y x at)
fourfold_at loose (y ∷ xs) zero x false true at = ap (λ (z : CodeOwner). Some (owner_by z loose false true)) (same_some y x at)
fourfold_at loose (y ∷ xs) zero x false false at = ap (λ (z : CodeOwner). Some (owner_by z loose false false)) (same_some y x at)
fourfold_at loose (y ∷ xs) (suc k) x u p at = subst (λ n. slice_get (fourfold loose (y ∷ xs)) n ≡ Some (owner_by x loose u p)) (sym (four_more k u p)) (fourfold_at loose xs k x u p at)

-- in front, and behind
get_left : (xs ys : List Owner) (k : ℕ) (x : Owner) → slice_get xs k ≡ Some x → slice_get (xs ++ ys) k ≡ Some x
get_left [] ys k x at = absurd (let z : ⊥ = cc in z)
get_left (y ∷ xs) ys zero x at = at
get_left (y ∷ xs) ys (suc k) x at = get_left xs ys k x at

get_right : (xs ys : List Owner) (n k : ℕ) → n ≡ length xs → slice_get (xs ++ ys) (n + k) ≡ slice_get ys k
get_right [] ys n k is = let e : n + k ≡ k = omega (arith, is) in ap (slice_get ys) e
get_right (x ∷ xs) ys zero k is = absurd (omega (arith, is))
get_right (x ∷ xs) ys (suc n) k is = let e : suc n + k ≡ suc (n + k) = omega arith in subst (λ m. slice_get (x ∷ (xs ++ ys)) m ≡ slice_get ys k) (sym e) (get_right xs ys n k (omega (arith, is)))

-- the item of a number, of code that isn't loose, and of loose code
pub plain_at : (some : Bool) (xs : List CodeOwner) (k : ℕ) (x : CodeOwner) (u p : Bool) → slice_get xs k ≡ Some x → slice_get (all_owners some xs) (4 * k + which u p) ≡ Some (owner_by x false u p)
plain_at some xs k x u p at = get_left (fourfold false xs) (if some then fourfold true xs else []) (4 * k + which u p) (owner_by x false u p) (fourfold_at false xs k x u p at)

pub loose_at : (xs : List CodeOwner) (k : ℕ) (x : CodeOwner) (u p : Bool) → slice_get xs k ≡ Some x → slice_get (all_owners true xs) (4 * length xs + (4 * k + which u p)) ≡ Some (owner_by x true u p)
loose_at xs k x u p at = get_right (fourfold false xs) (fourfold true xs) (4 * length xs) (4 * k + which u p) (sym (fourfold_length false xs)) ∙ fourfold_at true xs k x u p at
