-- One more row at the end of the bodies.
use Rattle.std.proofs.Common.{append-nil, ◌≤◌, ◌≡◌, ℕ, ◌+◌, ◌*◌, ◌<◌, List, [], ◌∷◌, ◌++◌, map, length, take, get_or, Option, refl, ◌∙◌, ap, arith}
use Rattle.std.specs.Prelude.{flat_map}
use Rattle.std.specs.List.{enumerate_from}
use Rattle.std.proofs.lemmas.List.{take_more, length-take}
use Rattle.std.proofs.lemmas.List.Concat.{flat_map-append}
use Rattle.ot_base.specs.declared.row.PlacedRow.{PlacedRow}
use Rattle.elf_objects.specs.declared.symbol.Reloc.{Reloc}
use Rattle.orc_bytes.specs.RowBytes.{bytes_of_row}
use Rattle.orc_bytes.specs.RelocBytes.{bytes_of_reloc}
use Rattle.orc_bytes.specs.Sections.{row_section, slot, slots, rela_section}

enumerate_from-push : {X : Type 0} (n : ℕ) (xs : List X) (x : X) → enumerate_from n (xs ++ x ∷ []) ≡ enumerate_from n xs ++ (n + length xs, x) ∷ []
enumerate_from-push n [] x = ap (λ (k : ℕ). (k, x) ∷ []) (omega arith)
enumerate_from-push n (y ∷ xs) x =
    let at : n + 1 + length xs ≡ n + length (y ∷ xs) = omega arith in
    ap (λ es. (n, y) ∷ es) (enumerate_from-push (n + 1) xs x ∙ ap (λ (k : ℕ). enumerate_from (n + 1) xs ++ (k, x) ∷ []) at)

map-push : {A B : Type 0} (f : A → B) (xs : List A) (x : A) → map f (xs ++ x ∷ []) ≡ map f xs ++ f x ∷ []
map-push f [] x = refl
map-push f (y ∷ xs) x = ap (λ ys. f y ∷ ys) (map-push f xs x)

-- the relocations of one more row
pub slots-push : (section_symbol : ℕ → Option ℕ) (rows : List PlacedRow) (placed : PlacedRow) → slots section_symbol (rows ++ placed ∷ []) ≡ slots section_symbol rows ++ slot section_symbol (4 * length rows) placed ∷ []
slots-push section_symbol rows placed =
    ap (map (λ entry. slot section_symbol (4 * entry.0) entry.1)) (enumerate_from-push 0 rows placed)
    ∙ map-push (λ entry. slot section_symbol (4 * entry.0) entry.1) (enumerate_from 0 rows) (0 + length rows, placed)
    ∙ ap (λ (k : ℕ). slots section_symbol rows ++ slot section_symbol (4 * k) placed ∷ []) (omega arith)

-- their bytes
pub rela_section-push : (section_symbol : ℕ → Option ℕ) (rows : List PlacedRow) (placed : PlacedRow) → rela_section section_symbol (rows ++ placed ∷ []) ≡ rela_section section_symbol rows ++ bytes_of_reloc (slot section_symbol (4 * length rows) placed)
rela_section-push section_symbol rows placed =
    ap (flat_map bytes_of_reloc) (slots-push section_symbol rows placed)
    ∙ flat_map-append bytes_of_reloc (slots section_symbol rows) (slot section_symbol (4 * length rows) placed ∷ [])
    ∙ ap (λ bytes. rela_section section_symbol rows ++ bytes) (append-nil (bytes_of_reloc (slot section_symbol (4 * length rows) placed)))

front_length : (rows : List PlacedRow) (i : ℕ) → i ≤ length rows → length (take i rows) ≡ i
front_length rows i h = let e = length-take i rows in omega (arith, e)

-- a loop's step for each of the bodies
pub row_more : (rows : List PlacedRow) (i : ℕ) (d : PlacedRow) (old new piece : List ℕ) → i < length rows → old ≡ row_section (take i rows) → new ≡ old ++ piece → piece ≡ bytes_of_row (get_or rows i d).row → new ≡ row_section (take (i + 1) rows)
row_more rows i d old new piece h was is of =
    let front = take_more rows i d h in
    let joined : row_section (take i rows ++ get_or rows i d ∷ []) ≡ row_section (take i rows) ++ bytes_of_row (get_or rows i d).row =
    flat_map-append (λ (placed : PlacedRow). bytes_of_row placed.row) (take i rows) (get_or rows i d ∷ [])
    ∙ ap (λ bytes. row_section (take i rows) ++ bytes) (append-nil (bytes_of_row (get_or rows i d).row)) in
    rw (is, was, of, front, joined) refl

pub rela_more : (section_symbol : ℕ → Option ℕ) (rows : List PlacedRow) (i at : ℕ) (d : PlacedRow) (old new piece : List ℕ) (reloc : Reloc) → i < length rows → old ≡ rela_section section_symbol (take i rows) → new ≡ old ++ piece → piece ≡ bytes_of_reloc reloc → reloc ≡ slot section_symbol at (get_or rows i d) → at ≡ 4 * i → new ≡ rela_section section_symbol (take (i + 1) rows)
rela_more section_symbol rows i at d old new piece reloc h was is of slot_is at_is =
    let front = take_more rows i d h in
    let count = front_length rows i (omega (arith, h)) in
    let place : at ≡ 4 * length (take i rows) = omega (arith, at_is, count) in
    let joined = rela_section-push section_symbol (take i rows) (get_or rows i d) in
    rw (is, was, of, slot_is, place, front, joined) refl
