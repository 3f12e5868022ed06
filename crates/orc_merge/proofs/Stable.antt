-- Lists of rows in which those that tie stand alike.
use Rattle.std.proofs.Common.{◌≡◌, ℕ, suc, ◌<◌, ◌≤◌, Bool, true, false, cond, ◌&&◌, not, List, [], ◌∷◌, Option, Some, None, refl, sym, ◌∙◌, ap, subst, inl, inr, leb, arith}
use Rattle.std.specs.Prelude.{All, Contains, filter}
use Rattle.std.specs.List.Sorted.{IsStableBy, ties}
use Rattle.std.proofs.lemmas.List.Elements.{All-head, All-tail, All-contains, filter_agree}
use Rattle.table_defs.specs.Lookup.{AddressedRow, at_or_below, comes_before, later, last_of}
use Rattle.orc_walk.specs.Rows.{IsInOrder}
use Rattle.orc_merge.proofs.Latest.{rank, lower, not_lower, is_lower, is_not_lower, IsGreatest, last_is_greatest, Contains-head, Contains-tail, Contains-cases, Contains-none}
use Rattle.orc_merge.proofs.Bounds.{Contains-filter}

pub filter_swapped : {X : Type 0} (p q : X → Bool) (xs : List X) → filter p (filter q xs) ≡ filter q (filter p xs)
filter_swapped p q [] = refl
filter_swapped p q (x ∷ xs) = go (filter_swapped p q xs) (p x) (q x) refl refl
  where
    go : filter p (filter q xs) ≡ filter q (filter p xs) → (a b : Bool) → p x ≡ a → q x ≡ b → filter p (cond (q x) (x ∷ filter q xs) (filter q xs)) ≡ filter q (cond (p x) (x ∷ filter p xs) (filter p xs))
    go rest true true h k =
        ap (λ c. filter p (cond c (x ∷ filter q xs) (filter q xs))) k ∙ ap (λ c. cond c (x ∷ filter p (filter q xs)) (filter p (filter q xs))) h
        ∙ ap (λ ys. x ∷ ys) rest
        ∙ sym (ap (λ c. filter q (cond c (x ∷ filter p xs) (filter p xs))) h ∙ ap (λ c. cond c (x ∷ filter q (filter p xs)) (filter q (filter p xs))) k)
    go rest true false h k =
        ap (λ c. filter p (cond c (x ∷ filter q xs) (filter q xs))) k ∙ rest
        ∙ sym (ap (λ c. filter q (cond c (x ∷ filter p xs) (filter p xs))) h ∙ ap (λ c. cond c (x ∷ filter q (filter p xs)) (filter q (filter p xs))) k)
    go rest false true h k =
        ap (λ c. filter p (cond c (x ∷ filter q xs) (filter q xs))) k ∙ ap (λ c. cond c (x ∷ filter p (filter q xs)) (filter p (filter q xs))) h
        ∙ rest
        ∙ sym (ap (λ c. filter q (cond c (x ∷ filter p xs) (filter p xs))) h)
    go rest false false h k =
        ap (λ c. filter p (cond c (x ∷ filter q xs) (filter q xs))) k ∙ rest
        ∙ sym (ap (λ c. filter q (cond c (x ∷ filter p xs) (filter p xs))) h)

-- of those at or below an address, too
low_stable : (xs ys : List AddressedRow) (address : ℕ) → IsStableBy comes_before xs ys → IsStableBy comes_before (at_or_below address xs) (at_or_below address ys)
low_stable xs ys address stable row =
    filter_swapped (ties comes_before row) (λ x. leb x.address address) ys
    ∙ ap (filter (λ x. leb x.address address)) (stable row)
    ∙ sym (filter_swapped (ties comes_before row) (λ x. leb x.address address) xs)

ties_itself : (row : AddressedRow) → ties comes_before row row ≡ true
ties_itself row = ap (λ b. not b && not b) (is_not_lower row row (omega arith))

tie : (x y : AddressedRow) → rank x ≡ rank y → ties comes_before x y ≡ true
tie x y same = ap (λ b. not b && not (comes_before y x)) (is_not_lower x y (omega arith)) ∙ ap not (is_not_lower y x (omega arith))

no_tie : (x y : AddressedRow) → rank y < rank x → ties comes_before x y ≡ false
no_tie x y less = ap (λ b. not b && not (comes_before y x)) (is_not_lower x y (omega arith)) ∙ ap not (is_lower y x less)

filter_among : {X : Type 0} (p : X → Bool) (xs : List X) (y : X) → Contains (filter p xs) y → Contains xs y
filter_among p [] y among = absurd (Contains-none y among)
filter_among p (x ∷ xs) y among = go (p x) (λ there. filter_among p xs y there) among
  where
    go : (b : Bool) → (Contains (filter p xs) y → Contains xs y) → Contains (cond b (x ∷ filter p xs) (filter p xs)) y → Contains (x ∷ xs) y
    go true rest there = elim (Contains-cases x y (filter p xs) there) [
      | inl same ↦ subst (λ z. Contains (z ∷ xs) y) (sym same) (Contains-head y xs)
      | inr later ↦ Contains-tail x y xs (rest later)
    ]
    go false rest there = Contains-tail x y xs (rest there)

-- what is in the one is in the other
among_both : (xs ys : List AddressedRow) (y : AddressedRow) → IsStableBy comes_before xs ys → Contains ys y → Contains xs y
among_both xs ys y stable among = filter_among (ties comes_before y) xs y (subst (λ zs. Contains zs y) (stable y) (Contains-filter (ties comes_before y) ys y among (ties_itself y)))

none_ties : (x : AddressedRow) (xs : List AddressedRow) → All (λ y. rank y < rank x) xs → filter (ties comes_before x) xs ≡ []
none_ties x [] all = refl
none_ties x (y ∷ xs) all = ap (λ b. cond b (y ∷ filter (ties comes_before x) xs) (filter (ties comes_before x) xs)) (no_tie x y (All-head (λ y. rank y < rank x) y xs all)) ∙ none_ties x xs (All-tail (λ y. rank y < rank x) y xs all)

-- the last row is the last of those that tie with it
last_tie : (xs : List AddressedRow) (x : AddressedRow) → last_of xs ≡ Some x → last_of (filter (ties comes_before x) xs) ≡ Some x
last_tie [] x h = absurd (let e : None ≡ Some x = h in cc)
last_tie (z ∷ zs) x h = go (λ is. last_tie zs x is) (last_of zs) refl (last_is_greatest zs) h
  where
    some_same : {A : Type 0} {a b : A} → Some a ≡ Some b → a ≡ b
    some_same e = cc

    first : z ≡ x → filter (ties comes_before x) zs ≡ [] → last_of (filter (ties comes_before x) (z ∷ zs)) ≡ Some x
    first same none =
        ap (λ b. last_of (cond b (z ∷ filter (ties comes_before x) zs) (filter (ties comes_before x) zs))) (ap (ties comes_before x) same ∙ ties_itself x)
        ∙ ap (λ ys. last_of (z ∷ ys)) none ∙ ap Some same

    onward : last_of (filter (ties comes_before x) zs) ≡ Some x → comes_before x z ≡ false → (b : Bool) → last_of (cond b (z ∷ filter (ties comes_before x) zs) (filter (ties comes_before x) zs)) ≡ Some x
    onward rest not_before true = ap (λ o. Some (later z o)) rest ∙ ap (λ b. Some (cond b z x)) not_before
    onward rest not_before false = rest

    pick : (last_of zs ≡ Some x → last_of (filter (ties comes_before x) zs) ≡ Some x) → (w : AddressedRow) → last_of zs ≡ Some w → All (λ y. rank y ≤ rank w) zs → (b : Bool) → comes_before w z ≡ b → Some (cond b z w) ≡ Some x → last_of (filter (ties comes_before x) (z ∷ zs)) ≡ Some x
    pick rest w is all true before same =
        let at : z ≡ x = some_same same in
        let less : rank w < rank x = subst (λ r. rank w < rank r) at (lower w z before) in
        first at (none_ties x zs (λ k d lt. let le = all k d lt in omega arith))
    pick rest w is all false before same =
        let at : w ≡ x = some_same same in
        onward (rest (is ∙ ap Some at)) (subst (λ r. comes_before r z ≡ false) at before) (ties comes_before x z)

    go : (last_of zs ≡ Some x → last_of (filter (ties comes_before x) zs) ≡ Some x) → (o : Option AddressedRow) → last_of zs ≡ o → IsGreatest zs o → Some (later z o) ≡ Some x → last_of (filter (ties comes_before x) (z ∷ zs)) ≡ Some x
    go rest None is none same = first (some_same same) (ap (filter (ties comes_before x)) none)
    go rest (Some w) is greatest same = pick rest w is greatest.1 (comes_before w z) refl same

-- so both have one last row,
same_last_of : (xs ys : List AddressedRow) → IsStableBy comes_before xs ys → last_of ys ≡ last_of xs
same_last_of xs ys stable = go (last_of xs) (last_of ys) refl refl (last_is_greatest xs) (last_is_greatest ys)
  where
    go : (o p : Option AddressedRow) → last_of xs ≡ o → last_of ys ≡ p → IsGreatest xs o → IsGreatest ys p → p ≡ o
    go None None is other first second = refl
    go None (Some y) is other first second = absurd (Contains-none y (subst (λ zs. Contains zs y) first (among_both xs ys y stable second.0)))
    go (Some x) None is other first second = absurd (Contains-none x (subst (λ zs. Contains zs x) second (among_both ys xs x (λ row. sym (stable row)) first.0)))
    go (Some x) (Some y) is other first second =
        let one : rank x ≤ rank y = All-contains (λ z. rank z ≤ rank y) ys x second.1 (among_both ys xs x (λ row. sym (stable row)) first.0) in
        let two : rank y ≤ rank x = All-contains (λ z. rank z ≤ rank x) xs y first.1 (among_both xs ys y stable second.0) in
        let same : rank x ≡ rank y = omega arith in
        sym (last_tie ys y other)
        ∙ ap last_of (filter_agree (ties comes_before y) (ties comes_before x) (λ z. alike z same) ys ∙ stable x)
        ∙ last_tie xs x is
      where
        alike : (z : AddressedRow) → rank x ≡ rank y → ties comes_before y z ≡ ties comes_before x z
        alike z same = two_tests (comes_before y z) (comes_before z y) (comes_before x z) (comes_before z x) (before y x z (sym same)) (after y x z (sym same))
          where
            before : (a b c : AddressedRow) → rank a ≡ rank b → comes_before a c ≡ comes_before b c
            before a b c e = go_before (comes_before b c) refl
              where
                go_before : (t : Bool) → comes_before b c ≡ t → comes_before a c ≡ comes_before b c
                go_before true h = is_lower a c (let lt = lower b c h in omega arith) ∙ sym h
                go_before false h = is_not_lower a c (let le = not_lower b c h in omega arith) ∙ sym h

            after : (a b c : AddressedRow) → rank a ≡ rank b → comes_before c a ≡ comes_before c b
            after a b c e = go_after (comes_before c b) refl
              where
                go_after : (t : Bool) → comes_before c b ≡ t → comes_before c a ≡ comes_before c b
                go_after true h = is_lower c a (let lt = lower c b h in omega arith) ∙ sym h
                go_after false h = is_not_lower c a (let le = not_lower c b h in omega arith) ∙ sym h

            two_tests : (a b c d : Bool) → a ≡ c → b ≡ d → (not a && not b) ≡ (not c && not d)
            two_tests a b c d h k = cc

-- at or below an address as well
pub same_low : (xs ys : List AddressedRow) (address : ℕ) → IsStableBy comes_before xs ys → last_of (at_or_below address ys) ≡ last_of (at_or_below address xs)
same_low xs ys address stable = same_last_of (at_or_below address xs) (at_or_below address ys) (low_stable xs ys address stable)

-- Lists in order in which those that tie stand alike are one.
rest_in_order : (x : AddressedRow) (xs : List AddressedRow) → IsInOrder (x ∷ xs) → IsInOrder xs
rest_in_order x xs order i j d less lt = order (suc i) (suc j) d (omega arith) (omega arith)

first_is_least : (x : AddressedRow) (xs : List AddressedRow) → IsInOrder (x ∷ xs) → (y : AddressedRow) → Contains (x ∷ xs) y → rank x ≤ rank y
first_is_least x xs order y among =
    elim (Contains-cases x y xs among) [
      | inl same ↦ let e : rank x ≡ rank y = ap rank same in omega arith
      | inr there ↦ behind there
    ]
  where
    behind : Contains xs y → rank x ≤ rank y
    behind (k, lt, is) = not_lower y x (subst (λ z. comes_before z x ≡ false) is (order 0 (suc k) y (omega arith) (omega arith)))

pub same_in_order : (xs ys : List AddressedRow) → IsInOrder xs → IsInOrder ys → IsStableBy comes_before xs ys → ys ≡ xs
same_in_order [] [] one other stable = refl
same_in_order [] (y ∷ ys) one other stable = absurd (Contains-none y (among_both [] (y ∷ ys) y stable (Contains-head y ys)))
same_in_order (x ∷ xs) [] one other stable = absurd (Contains-none x (among_both [] (x ∷ xs) x (λ row. sym (stable row)) (Contains-head x xs)))
same_in_order (x ∷ xs) (y ∷ ys) one other stable =
    let first : rank x ≤ rank y = first_is_least x xs one y (among_both (x ∷ xs) (y ∷ ys) y stable (Contains-head y ys)) in
    let second : rank y ≤ rank x = first_is_least y ys other x (among_both (y ∷ ys) (x ∷ xs) x (λ row. sym (stable row)) (Contains-head x xs)) in
    let same : y ≡ x = head_same (omega arith) in
    ap (λ z. z ∷ ys) same ∙ ap (λ zs. x ∷ zs) (same_in_order xs ys (rest_in_order x xs one) (rest_in_order y ys other) (λ row. rest_same same row (ties comes_before row x) refl))
  where
    heads : {X : Type 0} (a b : X) (us vs : List X) → a ∷ us ≡ b ∷ vs → a ≡ b
    heads a b us vs h = cc

    tails : {X : Type 0} (a b : X) (us vs : List X) → a ∷ us ≡ b ∷ vs → us ≡ vs
    tails a b us vs h = cc

    head_same : rank x ≡ rank y → y ≡ x
    head_same same =
        heads y x (filter (ties comes_before x) ys) (filter (ties comes_before x) xs)
        (sym (ap (λ b. cond b (y ∷ filter (ties comes_before x) ys) (filter (ties comes_before x) ys)) (tie x y same))
        ∙ stable x
        ∙ ap (λ b. cond b (x ∷ filter (ties comes_before x) xs) (filter (ties comes_before x) xs)) (ties_itself x))

    rest_same : y ≡ x → (row : AddressedRow) (b : Bool) → ties comes_before row x ≡ b → filter (ties comes_before row) ys ≡ filter (ties comes_before row) xs
    rest_same same row true is =
        tails y x (filter (ties comes_before row) ys) (filter (ties comes_before row) xs)
        (sym (ap (λ b. cond b (y ∷ filter (ties comes_before row) ys) (filter (ties comes_before row) ys)) (ap (ties comes_before row) same ∙ is))
        ∙ stable row
        ∙ ap (λ b. cond b (x ∷ filter (ties comes_before row) xs) (filter (ties comes_before row) xs)) is)
    rest_same same row false is =
        sym (ap (λ b. cond b (y ∷ filter (ties comes_before row) ys) (filter (ties comes_before row) ys)) (ap (ties comes_before row) same ∙ is))
        ∙ stable row
        ∙ ap (λ b. cond b (x ∷ filter (ties comes_before row) xs) (filter (ties comes_before row) xs)) is
