-- The bases of sections, and rows at their addresses, one more of each.
use Rattle.std.proofs.Common.{◌≡◌, ℕ, ◌+◌, ◌<◌, Bool, true, false, cond, List, [], ◌∷◌, ◌++◌, Option, Some, None, refl, sym, ◌∙◌, ap, eqb, take, length, get_or, pos, arith}
use Rattle.std.specs.Prelude.{find, option_map, is_some}
use Rattle.std.specs.List.{cons_option}
use Rattle.std.specs.Option.{option_or}
use Rattle.std.specs.Ordering.{nat_cmp, is_eq}
use Rattle.std.specs.BTreeMap.{BTreeMap, get, Updates}
use Rattle.std.proofs.lemmas.Bool.Decides.{nat_tests}
use Rattle.std.proofs.lemmas.List.{take_more}
use Rattle.std.proofs.lemmas.List.Folds.{find-append}
use Rattle.std.proofs.lemmas.List.Elements.{filter_map-append}
use Rattle.ot_base.specs.declared.row.Row.{Row}
use Rattle.ot_base.specs.declared.row.PlacedRow.{PlacedRow}
use Rattle.table_defs.specs.declared.range.Range.{Range}
use Rattle.table_defs.specs.Lookup.{AddressedRow, addressed, addressed_row as placed_row}
use Rattle.orc_walk.specs.Rows.{addressed_row, rows_of}
use Rattle.orc_walk.specs.Bases.{HasBases}

-- the row that stands for none, where a list is read past its end
abbrev pub some_placed : PlacedRow
some_placed = record { place = record { sec = 0; off = 0 }; row = record { sp_offset = pos 0; bp_offset = pos 0; sp_reg = 0; bp_reg = 0; kind = 0; signal = false } }

-- the order of numbers tells equal ones as the test does
pub same_key : (a b : ℕ) → is_eq (nat_cmp a b) ≡ eqb a b
same_key a b = grind (arith, nat_tests)

abbrev base_found : List Range → ℕ → Option ℕ
base_found ranges sec = option_map (λ range. range.base) (find (λ range. eqb range.sec sec) ranges)

one_range : (x : Range) (sec : ℕ) → base_found (x ∷ []) sec ≡ cond (eqb x.sec sec) (Some x.base) None
one_range x sec = go (eqb x.sec sec)
  where
    go : (b : Bool) → option_map (λ (r : Range). r.base) (cond b (Some x) None) ≡ cond b (Some x.base) None
    go true = refl
    go false = refl

map_or : (one other : Option Range) → option_map (λ (r : Range). r.base) (option_or one other) ≡ option_or (option_map (λ r. r.base) one) (option_map (λ r. r.base) other)
map_or None other = refl
map_or (Some x) other = refl

found_push : (done : List Range) (x : Range) (sec : ℕ) → base_found (done ++ x ∷ []) sec ≡ option_or (base_found done sec) (cond (eqb x.sec sec) (Some x.base) None)
found_push done x sec =
    ap (option_map (λ r. r.base)) (find-append (λ r. eqb r.sec sec) done (x ∷ []))
    ∙ map_or _ _
    ∙ ap (option_or (base_found done sec)) (one_range x sec)

or_none : {A : Type 0} (o : Option A) → option_or o None ≡ o
or_none None = refl
or_none (Some x) = refl

pub same_section : (a b : ℕ) → eqb a b ≡ true → a ≡ b
same_section a b h = grind (arith, nat_tests)

-- a section's first range gives its base
pub bases_more : (done : List Range) (x : Range) (m n : BTreeMap ℕ ℕ) → HasBases done m → get nat_cmp m x.sec ≡ None → Updates nat_cmp m n x.sec (Some x.base) → HasBases (done ++ x ∷ []) n
bases_more done x m n has absent updates sec =
    updates.0 sec
    ∙ ap (λ b. cond b (Some x.base) (get nat_cmp m sec)) (same_key x.sec sec)
    ∙ go (eqb x.sec sec) refl
    ∙ sym (found_push done x sec)
  where
    go : (b : Bool) → eqb x.sec sec ≡ b → cond b (Some x.base) (get nat_cmp m sec) ≡ option_or (base_found done sec) (cond (eqb x.sec sec) (Some x.base) None)
    go true is =
        let none : base_found done sec ≡ None = sym (has sec) ∙ ap (get nat_cmp m) (sym (same_section x.sec sec is)) ∙ absent in
        sym (ap (λ o. option_or o (cond (eqb x.sec sec) (Some x.base) None)) none ∙ ap (λ b. cond b (Some x.base) None) is)
    go false is = has sec ∙ sym (ap (λ b. option_or (base_found done sec) (cond b (Some x.base) None)) is ∙ or_none _)

some_stays : {A : Type 0} (o p : Option A) → is_some o ≡ true → option_or o p ≡ o
some_stays None p h = cc
some_stays (Some x) p h = refl

-- a further range of a section changes nothing
pub bases_stay : (done : List Range) (x : Range) (m : BTreeMap ℕ ℕ) → HasBases done m → is_some (get nat_cmp m x.sec) ≡ true → HasBases (done ++ x ∷ []) m
bases_stay done x m has there sec = has sec ∙ sym (found_push done x sec ∙ go (eqb x.sec sec) refl)
  where
    go : (b : Bool) → eqb x.sec sec ≡ b → option_or (base_found done sec) (cond b (Some x.base) None) ≡ base_found done sec
    go true is = some_stays (base_found done sec) (Some x.base) (ap is_some (sym (has sec) ∙ ap (get nat_cmp m) (sym (same_section x.sec sec is))) ∙ there)
    go false is = or_none _

abbrev at_address : ℕ → PlacedRow → AddressedRow
at_address at placed = record { address = at; row = placed.row }

abbrev at_base : PlacedRow → ℕ → AddressedRow
at_base placed base = at_address (base + placed.place.off) placed

base_at : (ranges : List Range) (m : BTreeMap ℕ ℕ) (placed : PlacedRow) → HasBases ranges m → placed_row ranges placed ≡ option_map (at_base placed) (get nat_cmp m placed.place.sec)
base_at ranges m placed has = map_through (find (λ range. eqb range.sec placed.place.sec) ranges) ∙ ap (option_map (at_base placed)) (sym (has placed.place.sec))
  where
    map_through : (o : Option Range) → option_map (λ (at : ℕ). at_address at placed) (option_map (λ (range : Range). range.base + placed.place.off) o) ≡ option_map (at_base placed) (option_map (λ range. range.base) o)
    map_through None = refl
    map_through (Some range) = refl

rows_push : (items : List (ℕ × Row)) (item : ℕ × Row) → rows_of (items ++ item ∷ []) ≡ rows_of items ++ addressed_row item ∷ []
rows_push [] item = refl
rows_push (x ∷ items) item = ap (λ rows. addressed_row x ∷ rows) (rows_push items item)

abbrev pub front_rows : List Range → List PlacedRow → ℕ → List AddressedRow
front_rows ranges rows i = addressed ranges (take i rows)

rows_more : (ranges : List Range) (rows : List PlacedRow) (i : ℕ) (d : PlacedRow) → i < length rows → front_rows ranges rows (i + 1) ≡ front_rows ranges rows i ++ cons_option (placed_row ranges (get_or rows i d)) []
rows_more ranges rows i d lt = ap (addressed ranges) (take_more rows i d lt) ∙ filter_map-append (placed_row ranges) (take i rows) (get_or rows i d ∷ [])

pub row_added : (ranges : List Range) (m : BTreeMap ℕ ℕ) (rows : List PlacedRow) (i base : ℕ) (d : PlacedRow) (items : List (ℕ × Row)) → i < length rows → HasBases ranges m → rows_of items ≡ front_rows ranges rows i
    → get nat_cmp m (get_or rows i d).place.sec ≡ Some base
    → rows_of (items ++ (base + (get_or rows i d).place.off, (get_or rows i d).row) ∷ []) ≡ front_rows ranges rows (i + 1)
row_added ranges m rows i base d items lt has so_far is =
    rows_push items (base + (get_or rows i d).place.off, (get_or rows i d).row)
    ∙ ap (λ xs. xs ++ at_base (get_or rows i d) base ∷ []) so_far
    ∙ sym (rows_more ranges rows i d lt
    ∙ ap (λ o. front_rows ranges rows i ++ cons_option o []) (base_at ranges m (get_or rows i d) has ∙ ap (option_map (at_base (get_or rows i d))) is))

append_nil : {A : Type 0} (xs : List A) → xs ++ [] ≡ xs
append_nil [] = refl
append_nil (x ∷ xs) = ap (λ ys. x ∷ ys) (append_nil xs)

pub row_left_out : (ranges : List Range) (m : BTreeMap ℕ ℕ) (rows : List PlacedRow) (i : ℕ) (d : PlacedRow) (items : List (ℕ × Row)) → i < length rows → HasBases ranges m → rows_of items ≡ front_rows ranges rows i
    → get nat_cmp m (get_or rows i d).place.sec ≡ None
    → rows_of items ≡ front_rows ranges rows (i + 1)
row_left_out ranges m rows i d items lt has so_far is =
    so_far
    ∙ sym (rows_more ranges rows i d lt
    ∙ ap (λ o. front_rows ranges rows i ++ cons_option o []) (base_at ranges m (get_or rows i d) has ∙ ap (option_map (at_base (get_or rows i d))) is)
    ∙ append_nil _)

pub none_there : {A : Type 0} (o : Option A) → is_some o ≡ false → o ≡ None
none_there None h = refl
none_there (Some x) h = cc
