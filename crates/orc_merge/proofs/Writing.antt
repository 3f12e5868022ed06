-- The bytes of a tape's rows, with one row more.
use Rattle.std.proofs.Common.{◌≡◌, ℕ, ◌+◌, ◌<◌, List, [], ◌∷◌, ◌++◌, Some, refl, sym, ◌∙◌, ap, subst, length, get_or, take, append_assoc}
use Rattle.std.specs.Prelude.{slice_get}
use Rattle.std.proofs.lemmas.List.{take_more, get_or-map, length-map}
use Rattle.std.proofs.lemmas.List.Concat.{flat_map-append}
use Rattle.std.proofs.lemmas.List.Elements.{All-get_or}
use Rattle.std.proofs.lemmas.Option.{get_or_from_slice_get, slice_get_within}
use Rattle.byteorder.specs.Endian.{little_bytes}
use Rattle.ot_base.specs.declared.row.Row.{Row}
use Rattle.table_defs.specs.Lookup.{AddressedRow}
use Rattle.orc_walk.specs.Rows.{addressed_row, rows_of}
use Rattle.orc_bytes.specs.RowBytes.{bytes_of_row, IsRow}
use Rattle.orc_merge.specs.Merged.{IsTableRow, IsMergedTable}
use Rattle.orc_merge.specs.TableBytes.{magic, address_bytes, row_section, table_bytes}

rows_push : (items : List (ℕ × Row)) (item : ℕ × Row) → rows_of (items ++ item ∷ []) ≡ rows_of items ++ addressed_row item ∷ []
rows_push [] item = refl
rows_push (x ∷ items) item = ap (λ rows. addressed_row x ∷ rows) (rows_push items item)

append_nil : {A : Type 0} (xs : List A) → xs ++ [] ≡ xs
append_nil [] = refl
append_nil (x ∷ xs) = ap (λ ys. x ∷ ys) (append_nil xs)

next_rows : (items : List (ℕ × Row)) (i : ℕ) (item : ℕ × Row) → slice_get items i ≡ Some item → rows_of (take (i + 1) items) ≡ rows_of (take i items) ++ addressed_row item ∷ []
next_rows items i item is =
    ap rows_of (take_more items i item (slice_get_within items i item is))
    ∙ rows_push (take i items) (get_or items i item)
    ∙ ap (λ x. rows_of (take i items) ++ addressed_row x ∷ []) (get_or_from_slice_get items i item item is)

pub next_address : (items : List (ℕ × Row)) (i : ℕ) (item : ℕ × Row) → slice_get items i ≡ Some item → address_bytes (rows_of (take (i + 1) items)) ≡ address_bytes (rows_of (take i items)) ++ little_bytes 8 item.0
next_address items i item is =
    ap address_bytes (next_rows items i item is)
    ∙ flat_map-append (λ (row : AddressedRow). little_bytes 8 row.address) (rows_of (take i items)) (addressed_row item ∷ [])
    ∙ ap (λ xs. address_bytes (rows_of (take i items)) ++ xs) (append_nil (little_bytes 8 item.0))

pub next_row : (items : List (ℕ × Row)) (i : ℕ) (item : ℕ × Row) → slice_get items i ≡ Some item → row_section (rows_of (take (i + 1) items)) ≡ row_section (rows_of (take i items)) ++ bytes_of_row item.1
next_row items i item is =
    ap row_section (next_rows items i item is)
    ∙ flat_map-append (λ (row : AddressedRow). bytes_of_row row.row) (rows_of (take i items)) (addressed_row item ∷ [])
    ∙ ap (λ xs. row_section (rows_of (take i items)) ++ xs) (append_nil (bytes_of_row item.1))

pub row_known : (items : List (ℕ × Row)) (i : ℕ) (item : ℕ × Row) → IsMergedTable (rows_of items) → slice_get items i ≡ Some item → IsRow item.1
row_known items i item is there =
    let lt : i < length items = slice_get_within items i item there in
    let same : get_or (rows_of items) i (addressed_row item) ≡ addressed_row item = get_or-map addressed_row items i item (addressed_row item) lt ∙ ap addressed_row (get_or_from_slice_get items i item item there) in
    (subst IsTableRow same (All-get_or IsTableRow (rows_of items) i (addressed_row item) (subst (λ n. i < n) (sym (length-map items addressed_row)) lt) is.each)).held

-- the parts of a table, one behind the other
pub whole_table : (rows : List AddressedRow) (nothing head counted addressed whole : List ℕ) (count : ℕ) {number : List ℕ} → nothing ≡ [] → head ≡ nothing ++ magic → counted ≡ head ++ number → number ≡ little_bytes 8 count → count ≡ length rows → addressed ≡ counted ++ address_bytes rows → whole ≡ addressed ++ row_section rows → whole ≡ table_bytes rows
unfolding table_bytes
whole_table rows nothing head counted addressed whole count {number} none begins counts number_is count_is addresses ends =
    let front : counted ≡ magic ++ little_bytes 8 (length rows) =
    counts ∙ ap (λ xs. xs ++ number) (begins ∙ ap (λ xs. xs ++ magic) none) ∙ ap (λ xs. magic ++ xs) (number_is ∙ ap (little_bytes 8) count_is) in
    ends
    ∙ ap (λ xs. xs ++ row_section rows) (addresses ∙ ap (λ xs. xs ++ address_bytes rows) front)
    ∙ append_assoc (magic ++ little_bytes 8 (length rows)) (address_bytes rows) (row_section rows)
    ∙ append_assoc magic (little_bytes 8 (length rows)) (address_bytes rows ++ row_section rows)
