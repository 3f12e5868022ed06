-- The last rows of sections, with one row more.
use Rattle.std.proofs.Common.{◌≡◌, ℕ, Bool, true, false, cond, not, List, [], ◌∷◌, ◌++◌, Option, Some, None, refl, sym, ◌∙◌, ap, eqb}
use Rattle.std.specs.Prelude.{option_map}
use Rattle.std.specs.List.{cons_option}
use Rattle.std.specs.Ordering.{nat_cmp}
use Rattle.std.specs.BTreeMap.{BTreeMap, get, Updates}
use Rattle.std.proofs.lemmas.List.Elements.{filter_map-append}
use Rattle.ot_base.specs.declared.row.Row.{Row}
use Rattle.ot_base.specs.declared.row.PlacedRow.{PlacedRow}
use Rattle.table_defs.specs.Lookup.{AddressedRow, comes_before, last_of}
use Rattle.orc_walk.specs.Rows.{addressed_row}
use Rattle.orc_walk.proofs.BaseLemmas.{same_key, same_section}
use Rattle.orc_merge.specs.Ends.{at_offset, rows_of_section, last_row, goes_last, HasLasts}
use Rattle.orc_merge.proofs.Latest.{latest, last_of-append}
use Rattle.orc_merge.proofs.Bounds.{section_row}

append_nil : {A : Type 0} (xs : List A) → xs ++ [] ≡ xs
append_nil [] = refl
append_nil (x ∷ xs) = ap (λ ys. x ∷ ys) (append_nil xs)

-- one row more of any section
last_push : (sec : ℕ) (done : List PlacedRow) (placed : PlacedRow) → last_row sec (done ++ placed ∷ []) ≡ cond (eqb placed.place.sec sec) (latest (last_row sec done) (Some (at_offset placed))) (last_row sec done)
last_push sec done placed = ap last_of (filter_map-append (section_row sec) done (placed ∷ [])) ∙ go (eqb placed.place.sec sec)
  where
    go : (b : Bool) → last_of (rows_of_section sec done ++ cons_option (cond b (Some (at_offset placed)) None) []) ≡ cond b (latest (last_row sec done) (Some (at_offset placed))) (last_row sec done)
    go true = last_of-append (rows_of_section sec done) (at_offset placed ∷ [])
    go false = ap last_of (append_nil (rows_of_section sec done))

is_later : (o : Option AddressedRow) (x : AddressedRow) → goes_last o x ≡ true → latest o (Some x) ≡ Some x
is_later None x h = refl
is_later (Some last) x h = go (comes_before x last) h
  where
    go : (b : Bool) → not b ≡ true → Some (cond b last x) ≡ Some x
    go true e = absurd (let f : false ≡ true = e in cc)
    go false e = refl

is_earlier : (o : Option AddressedRow) (x : AddressedRow) → goes_last o x ≡ false → latest o (Some x) ≡ o
is_earlier None x h = absurd (let f : true ≡ false = h in cc)
is_earlier (Some last) x h = go (comes_before x last) h
  where
    go : (b : Bool) → not b ≡ false → Some (cond b last x) ≡ Some last
    go true e = refl
    go false e = absurd (let f : true ≡ false = e in cc)

abbrev item_at : PlacedRow → ℕ × Row
item_at placed = (placed.place.off, placed.row)

-- it is the last of its section
pub lasts_more : (done : List PlacedRow) (placed : PlacedRow) (m n : BTreeMap ℕ (ℕ × Row)) → HasLasts done m → goes_last (option_map addressed_row (get nat_cmp m placed.place.sec)) (at_offset placed) ≡ true → Updates nat_cmp m n placed.place.sec (Some (item_at placed)) → HasLasts (done ++ placed ∷ []) n
lasts_more done placed m n has last updates sec =
    ap (option_map addressed_row) (updates.0 sec ∙ ap (λ b. cond b (Some (item_at placed)) (get nat_cmp m sec)) (same_key placed.place.sec sec))
    ∙ go (eqb placed.place.sec sec) refl
    ∙ sym (last_push sec done placed)
  where
    go : (b : Bool) → eqb placed.place.sec sec ≡ b → option_map addressed_row (cond b (Some (item_at placed)) (get nat_cmp m sec)) ≡ cond (eqb placed.place.sec sec) (latest (last_row sec done) (Some (at_offset placed))) (last_row sec done)
    go true is =
        let same : placed.place.sec ≡ sec = same_section placed.place.sec sec is in
        let before : last_row sec done ≡ option_map addressed_row (get nat_cmp m placed.place.sec) = sym (has sec) ∙ ap (λ s. option_map addressed_row (get nat_cmp m s)) (sym same) in
        sym (ap (λ b. cond b (latest (last_row sec done) (Some (at_offset placed))) (last_row sec done)) is ∙ ap (λ o. latest o (Some (at_offset placed))) before ∙ is_later _ (at_offset placed) last)
    go false is = has sec ∙ sym (ap (λ b. cond b (latest (last_row sec done) (Some (at_offset placed))) (last_row sec done)) is)

-- or an earlier one
pub lasts_stay : (done : List PlacedRow) (placed : PlacedRow) (m : BTreeMap ℕ (ℕ × Row)) → HasLasts done m → goes_last (option_map addressed_row (get nat_cmp m placed.place.sec)) (at_offset placed) ≡ false → HasLasts (done ++ placed ∷ []) m
lasts_stay done placed m has earlier sec = has sec ∙ sym (last_push sec done placed ∙ go (eqb placed.place.sec sec) refl)
  where
    go : (b : Bool) → eqb placed.place.sec sec ≡ b → cond b (latest (last_row sec done) (Some (at_offset placed))) (last_row sec done) ≡ last_row sec done
    go true is =
        let same : placed.place.sec ≡ sec = same_section placed.place.sec sec is in
        let before : last_row sec done ≡ option_map addressed_row (get nat_cmp m placed.place.sec) = sym (has sec) ∙ ap (λ s. option_map addressed_row (get nat_cmp m s)) (sym same) in
        ap (λ o. latest o (Some (at_offset placed))) before ∙ is_earlier _ (at_offset placed) earlier ∙ sym before
    go false is = refl
