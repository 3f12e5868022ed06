-- Leaving out the rows that repeat the one before: what holds at an offset stays.
use Rattle.std.proofs.Common.{◌≡◌, ℕ, zero, suc, ◌<◌, ◌≤◌, ◌⊎◌, Bool, true, false, cond, List, [], ◌∷◌, ◌++◌, Option, Some, None, Contains, refl, sym, ap, ◌∙◌, subst, inl, inr, arith, append-nil}
use Rattle.std.specs.Prelude.{filter_map}
use Rattle.std.specs.List.{cons_option}
use Rattle.std.proofs.lemmas.List.Elements.{filter_map-append, Contains-append_cases}
use Rattle.ot_base.specs.declared.row.Row.{Row}
use Rattle.ot_base.specs.declared.row.PlacedRow.{PlacedRow}
use Rattle.machine_defs.specs.Program.{below}
use Rattle.ot_base.specs.Rows.{same_row}
use Rattle.machine_defs.specs.Rows.{without_repeats}
use Rattle.unwinding_law.proofs.Lists.{here, there, cases, nowhere, from_below}
use Rattle.table_law.proofs.Lists.{from_filter_map}
use Rattle.table_law.proofs.Equal.{same_row_is}

-- each row lies below those behind it
abbrev pub Rises : List PlacedRow → Type 0
Rises [] = Unit {0}
Rises (x ∷ xs) = ((y : PlacedRow) → Contains xs y → x.place.off < y.place.off) × Rises xs

-- the rows that are left are rows of the list
pub left_in : (before : Row) (xs : List PlacedRow) (y : PlacedRow) → Contains (without_repeats before xs) y → Contains xs y
left_in before [] y c = nowhere y c
left_in before (x ∷ xs) y c = go (same_row before x.row) c (λ b d. left_in b xs y d)
  where
    go : (b : Bool) → Contains (cond b (without_repeats before xs) (x ∷ without_repeats x.row xs)) y → ((r : Row) → Contains (without_repeats r xs) y → Contains xs y) → Contains (x ∷ xs) y
    go true c f = there x xs y (f before c)
    go false c f = elim (cases x (without_repeats x.row xs) y c) [ inl e ↦ subst (λ (z : PlacedRow). Contains (z ∷ xs) y) (sym e) (here y xs) | inr d ↦ there x xs y (f x.row d) ]

-- a row is the last at or below an offset
pub record IsLastUpTo (at : ℕ) (xs : List PlacedRow) (x : PlacedRow) : Type 0 where
  pub listed : Contains xs x
  pub low : x.place.off ≤ at
  pub last : (y : PlacedRow) → Contains xs y → y.place.off ≤ at → (y.place.off < x.place.off) ⊎ (y ≡ x)

-- all rows lie above an offset
abbrev pub AllAbove : ℕ → List PlacedRow → Type 0
AllAbove at xs = (y : PlacedRow) → Contains xs y → at < y.place.off

-- what a row that is the last at or below an offset becomes: a row of equal contents is the last, or all rows
-- lie above it, and it was equal to the one before
abbrev pub StaysLast : ℕ → Row → Row → List PlacedRow → Type 0
StaysLast at before row xs = ((x : PlacedRow) × IsLastUpTo at xs x × (x.row ≡ row)) ⊎ ((row ≡ before) × AllAbove at xs)

module _ (at : ℕ) where
  -- nothing behind the last one lies at or below
  above_behind : (x : PlacedRow) (xs : List PlacedRow) → Rises (x ∷ xs) → ((y : PlacedRow) → Contains (x ∷ xs) y → y.place.off ≤ at → (y.place.off < x.place.off) ⊎ (y ≡ x)) → AllAbove at xs
  above_behind x xs rises last y c = go (let t : (at < y.place.off) ⊎ (y.place.off ≤ at) = grind arith in t)
    where
      rise : x.place.off < y.place.off
      rise = rises.0 y c

      go : (at < y.place.off) ⊎ (y.place.off ≤ at) → at < y.place.off
      go (inl l) = l
      go (inr l) = elim (last y (there x xs y c) l) [ inl m ↦ absurd (omega (arith, rise)) | inr e ↦ let k : y.place.off ≡ x.place.off = ap (λ (z : PlacedRow). z.place.off) e in absurd (omega (arith, rise)) ]

  -- the row in front is the last where all behind it lie above
  front_last : (x : PlacedRow) (xs : List PlacedRow) → x.place.off ≤ at → AllAbove at xs → IsLastUpTo at (x ∷ xs) x
  front_last x xs low above = record {
    listed = here x xs;
    low = low;
    last = λ y c l. elim (cases x xs y c) [ inl e ↦ inr (sym e) | inr d ↦ let m : at < y.place.off = above y d in absurd (omega (arith, m)) ];
  }

  -- a row in front of a list leaves its last
  more_last : (x : PlacedRow) (xs : List PlacedRow) (y : PlacedRow) → x.place.off < y.place.off → IsLastUpTo at xs y → IsLastUpTo at (x ∷ xs) y
  more_last x xs y rise h = record {
    listed = there x xs y h.listed;
    low = h.low;
    last = λ z c l. elim (cases x xs z c) [ inl e ↦ inl (let k : x.place.off ≡ z.place.off = ap (λ (w : PlacedRow). w.place.off) e in omega arith) | inr d ↦ h.last z d l ];
  }

  -- the last row at or below an offset stays when repeats are left out
  pub stays_last : (before : Row) (xs : List PlacedRow) (x : PlacedRow) → Rises xs → IsLastUpTo at xs x → StaysLast at before x.row (without_repeats before xs)
  stays_last before [] x rises h = nowhere x h.listed
  stays_last before (z ∷ xs) x rises h = go (cases z xs x h.listed) (same_row before z.row) refl (λ b k. stays_last b xs x rises.1 k)
    where
      go : (z ≡ x) ⊎ Contains xs x → (b : Bool) → same_row before z.row ≡ b → ((r : Row) → IsLastUpTo at xs x → StaysLast at r x.row (without_repeats r xs)) → StaysLast at before x.row (cond b (without_repeats before xs) (z ∷ without_repeats z.row xs))
      go (inl e) true same f = inr (sym (same_row_is before z.row same ∙ ap (λ (w : PlacedRow). w.row) e), λ y c. behind y (left_in before xs y c))
        where
          behind : AllAbove at xs
          behind = above_behind z xs rises (subst (λ (w : PlacedRow). (y : PlacedRow) → Contains (z ∷ xs) y → y.place.off ≤ at → (y.place.off < w.place.off) ⊎ (y ≡ w)) (sym e) h.last)
      go (inl e) false same f = inl (z, front_last z (without_repeats z.row xs) low (λ y c. behind y (left_in z.row xs y c)), ap (λ (w : PlacedRow). w.row) e)
        where
          behind : AllAbove at xs
          behind = above_behind z xs rises (subst (λ (w : PlacedRow). (y : PlacedRow) → Contains (z ∷ xs) y → y.place.off ≤ at → (y.place.off < w.place.off) ⊎ (y ≡ w)) (sym e) h.last)

          low : z.place.off ≤ at
          low = subst (λ (w : PlacedRow). w.place.off ≤ at) (sym e) h.low
      go (inr d) b same f = rest b same
        where
          inner : IsLastUpTo at xs x
          inner = record { listed = d; low = h.low; last = λ y c l. h.last y (there z xs y c) l }

          low : z.place.off ≤ at
          low = let rise : z.place.off < x.place.off = rises.0 x d in omega (arith, rise, h.low)

          rest : (b : Bool) → same_row before z.row ≡ b → StaysLast at before x.row (cond b (without_repeats before xs) (z ∷ without_repeats z.row xs))
          rest true same = f before inner
          rest false same = elim (f z.row inner) [
            | inl k ↦ inl (k.0, more_last z (without_repeats z.row xs) k.0 (rises.0 k.0 (left_in z.row xs k.0 k.1.listed)) k.1, k.2)
            | inr k ↦ inl (z, front_last z (without_repeats z.row xs) low k.1, sym k.0)
          ]

-- a row that lies above all others may be put behind them
rises_push : (xs : List PlacedRow) (x : PlacedRow) → Rises xs → ((y : PlacedRow) → Contains xs y → y.place.off < x.place.off) → Rises (xs ++ x ∷ [])
rises_push [] x rises h = ((λ y c. nowhere y c), tt)
rises_push (z ∷ xs) x rises h = ((λ y c. elim (Contains-append_cases xs (x ∷ []) y c) [ inl d ↦ rises.0 y d | inr d ↦ elim (cases x [] y d) [ inl e ↦ subst (λ (w : PlacedRow). z.place.off < w.place.off) e (h z (here z xs)) | inr k ↦ nowhere y k ] ]), rises_push xs x rises.1 (λ y c. h y (there z xs y c)))

-- rows that are given by ascending offsets rise
pub rises_below : (f : ℕ → Option PlacedRow) → ((off : ℕ) (x : PlacedRow) → f off ≡ Some x → x.place.off ≡ off) → (n : ℕ) → Rises (filter_map f (below n))
rises_below f is zero = tt
rises_below f is (suc n) = subst Rises (sym (filter_map-append f (below n) (n ∷ []))) (go (f n) refl (rises_below f is n))
  where
    low : (y : PlacedRow) → Contains (filter_map f (below n)) y → y.place.off < n
    low y c = let r = from_filter_map f (below n) y c in let l : r.0 < n = from_below n r.0 r.1 in let e : y.place.off ≡ r.0 = is r.0 y r.2 in omega arith

    go : (o : Option PlacedRow) → f n ≡ o → Rises (filter_map f (below n)) → Rises (filter_map f (below n) ++ cons_option o [])
    go None e rises = subst Rises (sym (append-nil (filter_map f (below n)))) rises
    go (Some x) e rises = rises_push (filter_map f (below n)) x rises (λ y c. let l : y.place.off < n = low y c in let k : x.place.off ≡ n = is n x e in omega arith)
