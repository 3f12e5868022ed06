-- Rows of sections, one section after another, without those that are equal to the one before.
use Rattle.std.proofs.Common.{◌≡◌, ◌≢◌, ℕ, suc, ◌-◌, ◌<◌, Bool, true, false, cond, List, [], ◌∷◌, ◌++◌, Option, Some, Contains, length, flat_map, slice_get, arith, refl, ap, sym, ◌∙◌, subst, append_assoc, append-nil}
use Rattle.std.proofs.lemmas.List.{length_push}
use Rattle.std.specs.List.{AllPairs}
use Rattle.std.proofs.lemmas.Bool.{eq-eqb, ne_eqb}
use Rattle.ot_base.specs.declared.row.Row.{Row}
use Rattle.ot_base.specs.declared.row.PlacedRow.{PlacedRow}
use Rattle.ot_base.specs.Rows.{same_row, zero_row}
use Rattle.machine_defs.specs.Program.{TextSection}
use Rattle.machine_defs.specs.Rows.{without_repeats}
use Rattle.unwinding_law.proofs.Lists.{here, there}
use Rattle.program_check.specs.Changes.{row_before, after_row, add_all}
use Rattle.program_check.proofs.Merging.{add_all-append}

-- the last row of a list
abbrev pub last_of : List PlacedRow → Option PlacedRow
last_of rows = slice_get rows (length rows - 1)

get_behind : (xs : List PlacedRow) (x : PlacedRow) → slice_get (xs ++ x ∷ []) (length xs) ≡ Some x
get_behind [] x = refl
get_behind (y ∷ xs) x = get_behind xs x

pub last_push : (xs : List PlacedRow) (x : PlacedRow) → last_of (xs ++ x ∷ []) ≡ Some x
last_push xs x = let e : length (xs ++ x ∷ []) - 1 ≡ length xs = omega (arith, length_push xs x) in ap (λ (n : ℕ). slice_get (xs ++ x ∷ []) n) e ∙ get_behind xs x

-- what holds behind a row in its section, and in another one
pub before_same : (sec : ℕ) (x : PlacedRow) → x.place.sec ≡ sec → row_before sec (Some x) ≡ x.row
before_same sec x e = ap (λ (b : Bool). cond b x.row zero_row) (eq-eqb x.place.sec sec e)

before_other : (sec : ℕ) (x : PlacedRow) → x.place.sec ≢ sec → row_before sec (Some x) ≡ zero_row
before_other sec x e = ap (λ (b : Bool). cond b x.row zero_row) (ne_eqb x.place.sec sec e)

-- what is added, and what holds in another section behind it
abbrev Added : List PlacedRow → List PlacedRow → ℕ → Row → Type 0
Added rows xs sec before = (add_all rows xs ≡ rows ++ without_repeats before xs)
    × ((other : ℕ) → other ≢ sec → row_before other (last_of rows) ≡ zero_row → row_before other (last_of (rows ++ without_repeats before xs)) ≡ zero_row)

-- rows of one section are added without repeats
add_section : (sec : ℕ) (xs rows : List PlacedRow) (before : Row) → ((x : PlacedRow) → Contains xs x → x.place.sec ≡ sec) → row_before sec (last_of rows) ≡ before → Added rows xs sec before
add_section sec [] rows before inside is = (sym (append-nil rows), λ other differ h. subst (λ (zs : List PlacedRow). row_before other (last_of zs) ≡ zero_row) (sym (append-nil rows)) h)
add_section sec (x ∷ xs) rows before inside is = go (same_row before x.row) refl (λ r b e. add_section sec xs r b (λ y c. inside y (there x xs y c)) e)
  where
    here_is : x.place.sec ≡ sec
    here_is = inside x (here x xs)

    before_is : row_before x.place.sec (last_of rows) ≡ before
    before_is = ap (λ (n : ℕ). row_before n (last_of rows)) here_is ∙ is

    after : (b : Bool) → same_row before x.row ≡ b → after_row rows x ≡ cond b rows (rows ++ x ∷ [])
    after b e = ap (λ (r : Row). cond (same_row r x.row) rows (rows ++ x ∷ [])) before_is ∙ ap (λ (c : Bool). cond c rows (rows ++ x ∷ [])) e

    go : (b : Bool) → same_row before x.row ≡ b → ((r : List PlacedRow) (w : Row) → row_before sec (last_of r) ≡ w → Added r xs sec w) → Added rows (x ∷ xs) sec before
    go true e f =
        let r = f rows before is in
        let left : without_repeats before (x ∷ xs) ≡ without_repeats before xs = ap (λ (c : Bool). cond c (without_repeats before xs) (x ∷ without_repeats x.row xs)) e in (
          ap (λ (z : List PlacedRow). add_all z xs) (after true e) ∙ (r.0 ∙ ap (λ (z : List PlacedRow). rows ++ z) (sym left)),
          λ other differ h. subst (λ (z : List PlacedRow). row_before other (last_of (rows ++ z)) ≡ zero_row) (sym left) (r.1 other differ h),
        )
    go false e f =
        let more : List PlacedRow = rows ++ x ∷ [] in
        let r = f more x.row (ap (row_before sec) (last_push rows x) ∙ before_same sec x here_is) in
        let left : without_repeats before (x ∷ xs) ≡ x ∷ without_repeats x.row xs = ap (λ (c : Bool). cond c (without_repeats before xs) (x ∷ without_repeats x.row xs)) e in
        let whole : more ++ without_repeats x.row xs ≡ rows ++ without_repeats before (x ∷ xs) = append_assoc rows (x ∷ []) (without_repeats x.row xs) ∙ ap (λ (z : List PlacedRow). rows ++ z) (sym left) in (
          ap (λ (z : List PlacedRow). add_all z xs) (after false e) ∙ (r.0 ∙ whole),
          λ other differ h. subst (λ (z : List PlacedRow). row_before other (last_of z) ≡ zero_row) whole
              (r.1 other differ (ap (row_before other) (last_push rows x) ∙ before_other other x (λ k. differ (sym k ∙ here_is)))),
        )

module _ (rows_in : TextSection → List PlacedRow) (inside : (text : TextSection) (x : PlacedRow) → Contains (rows_in text) x → x.place.sec ≡ text.sec) where
  -- without repeats
  abbrev pub left_in : TextSection → List PlacedRow
  left_in text = without_repeats zero_row (rows_in text)

  -- rows of several sections
  add_sections : (texts : List TextSection) (rows : List PlacedRow) → AllPairs (λ one other. one.sec < other.sec) texts → ((text : TextSection) → Contains texts text → row_before text.sec (last_of rows) ≡ zero_row) → add_all rows (flat_map rows_in texts) ≡ rows ++ flat_map left_in texts
  add_sections [] rows up none = sym (append-nil rows)
  add_sections (text ∷ texts) rows up none =
      let r = add_section text.sec (rows_in text) rows zero_row (inside text) (none text (here text texts)) in
      let rest = add_sections texts (rows ++ left_in text) (λ i j d l k. up (suc i) (suc j) d (omega arith) (omega arith))
      (λ other c. r.1 other.sec (λ e. let l : text.sec < other.sec = later text texts up other c in omega arith) (none other (there text texts other c))) in
      add_all-append rows (rows_in text) (flat_map rows_in texts)
      ∙ ap (λ (z : List PlacedRow). add_all z (flat_map rows_in texts)) r.0
      ∙ rest
      ∙ append_assoc rows (left_in text) (flat_map left_in texts)
    where
      later : (text : TextSection) (texts : List TextSection) → AllPairs (λ one other. one.sec < other.sec) (text ∷ texts) → (other : TextSection) → Contains texts other → text.sec < other.sec
      later text texts up other (k, l, e) = subst (λ (t : TextSection). text.sec < t.sec) e (up 0 (suc k) other (omega arith) (omega arith))

  pub added : (texts : List TextSection) → AllPairs (λ one other. one.sec < other.sec) texts → add_all [] (flat_map rows_in texts) ≡ flat_map left_in texts
  added texts up = add_sections texts [] up (λ text c. refl)
