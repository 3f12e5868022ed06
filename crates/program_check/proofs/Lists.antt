-- Lists of rows that ascend.
use Rattle.std.proofs.Common.{◌≡◌, ℕ, zero, suc, ◌<◌, true, List, [], ◌∷◌, ◌++◌, length, get_or, Contains, inl, inr, arith, refl, sym, ◌∙◌, subst}
use Rattle.std.proofs.lemmas.List.Elements.{Contains-append_cases, Contains-get_or}
use Rattle.ot_base.specs.declared.row.PlacedRow.{PlacedRow}
use Rattle.ot_base.specs.Places.{is_before}
use Rattle.unwinding_law.proofs.Lists.{here, there, cases, nowhere}
use Rattle.program_check.specs.Changes.{Ascends}
use Rattle.program_check.proofs.Places.{before_through, not_before_itself}

-- two lists that ascend, each row of the first before each of the second
pub ascends_append : (xs ys : List PlacedRow) → Ascends xs → Ascends ys → ((x y : PlacedRow) → Contains xs x → Contains ys y → is_before x.place y.place ≡ true) → Ascends (xs ++ ys)
ascends_append [] ys up down across = down
ascends_append (x ∷ xs) ys up down across = (
  (λ y c. elim (Contains-append_cases xs ys y c) [ inl d ↦ up.0 y d | inr d ↦ across x y (here x xs) d ]),
  ascends_append xs ys up.1 down (λ z y c d. across z y (there x xs z c) d),
)

-- one more row behind all others
pub ascends_push : (xs : List PlacedRow) (x : PlacedRow) → Ascends xs → ((y : PlacedRow) → Contains xs y → is_before y.place x.place ≡ true) → Ascends (xs ++ x ∷ [])
ascends_push xs x up behind = ascends_append xs (x ∷ []) up ((λ y c. nowhere y c), tt) (λ y z c d. elim (cases x [] z d) [ inl e ↦ subst (λ (w : PlacedRow). is_before y.place w.place ≡ true) e (behind y c) | inr n ↦ nowhere z n ])

-- an earlier row lies before a later one
pub ascends_at : (xs : List PlacedRow) → Ascends xs → (i j : ℕ) (d e : PlacedRow) → i < j → j < length xs → is_before (get_or xs i d).place (get_or xs j e).place ≡ true
ascends_at [] up i j d e l inside = absurd (omega arith)
ascends_at (x ∷ xs) up i zero d e l inside = absurd (omega arith)
ascends_at (x ∷ xs) up zero (suc j) d e l inside = up.0 (get_or xs j e) (Contains-get_or xs j e (omega arith))
ascends_at (x ∷ xs) up (suc i) (suc j) d e l inside = ascends_at xs up.1 i j d e (omega arith) (omega arith)

-- the first of two lists with the same rows
same_first : (x y : PlacedRow) (xs ys : List PlacedRow) → Ascends (x ∷ xs) → Ascends (y ∷ ys) → Contains (y ∷ ys) x → Contains (x ∷ xs) y → x ≡ y
same_first x y xs ys up down c d = elim (cases y ys x c) [
  | inl e ↦ sym e
  | inr late ↦ elim (cases x xs y d) [
    | inl e ↦ e
    | inr later ↦ absurd (not_before_itself x.place (before_through x.place y.place x.place (up.0 y later) (down.0 x late)))
  ]
]

-- those behind the first
rest_in : (x y : PlacedRow) (xs ys : List PlacedRow) → x ≡ y → Ascends (x ∷ xs) → ((z : PlacedRow) → Contains (x ∷ xs) z → Contains (y ∷ ys) z) → (z : PlacedRow) → Contains xs z → Contains ys z
rest_in x y xs ys e up f z c = elim (cases y ys z (f z (there x xs z c))) [
  | inl g ↦ absurd (not_before_itself x.place (subst (λ (w : PlacedRow). is_before x.place w.place ≡ true) (sym (e ∙ g)) (up.0 z c)))
  | inr d ↦ d
]

-- two lists that ascend and have the same rows are one
pub same_rows : (xs ys : List PlacedRow) → Ascends xs → Ascends ys → ((x : PlacedRow) → Contains xs x → Contains ys x) → ((x : PlacedRow) → Contains ys x → Contains xs x) → xs ≡ ys
same_rows [] [] up down f g = refl
same_rows [] (y ∷ ys) up down f g = nowhere y (g y (here y ys))
same_rows (x ∷ xs) [] up down f g = nowhere x (f x (here x xs))
same_rows (x ∷ xs) (y ∷ ys) up down f g =
    let e : x ≡ y = same_first x y xs ys up down (f x (here x xs)) (g y (here y ys)) in
    let rest : xs ≡ ys = same_rows xs ys up.1 down.1 (rest_in x y xs ys e up f) (rest_in y x ys xs (sym e) down g) in
    cc
