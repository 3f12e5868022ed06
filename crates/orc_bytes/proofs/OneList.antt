-- The ORC sections of an object tell their rows.
use Rattle.std.proofs.Common.{◌≡◌, ℕ, zero, suc, ◌+◌, ◌*◌, ◌/◌, ◌%◌, ◌^◌, ◌<◌, ◌≤◌, ◌⊎◌, Bool, true, false, cond, List, [], ◌∷◌, ◌++◌, map, length, Option, Some, None, ℤ, pos, refl, sym, ◌∙◌, ap, subst, inl, inr, FitsSigned, Fits, w16, of_z, to_z, arith}
use Rattle.std.proofs.lemmas.Option.{none-some}
use Rattle.std.proofs.Math.Facts.{Fits-of_z, to_z-of_z}
use Rattle.std.proofs.lemmas.Bool.{and_parts, eqb-true, false≢true}
use Rattle.std.specs.Prelude.{All, IsSome, unwrap_or}
use Rattle.std.specs.List.{enumerate_from}
use Rattle.std.proofs.lemmas.List.Elements.{All-head, All-tail}
use Rattle.ot_base.specs.declared.row.Row.{Row}
use Rattle.ot_base.specs.declared.row.PlacedRow.{PlacedRow}
use Rattle.elf_objects.specs.declared.symbol.Home.{Home}
use Rattle.elf_objects.specs.declared.symbol.Home.TheVariants as home
use Rattle.elf_objects.specs.declared.symbol.Reloc.{Reloc}
use Rattle.elf_objects.specs.Below.{least_below, first_of}
use Rattle.elf_objects.specs.Elf.{Elf}
use Rattle.elf_objects.specs.Contents.{is_home, stands_for, symbol_at, section_symbol_of}
use Rattle.orc_bytes.specs.RowBytes.{bytes_of_row, packed_fields, IsRow}
use Rattle.orc_bytes.specs.Sections.{IsRowOf, row_section, slot}
use Rattle.orc_bytes.specs.Laws.{OneListFits}

-- what is found passes
found_front : (o : Option ℕ) (b : Bool) (n k : ℕ) → first_of o (cond b (Some n) None) ≡ Some k → (o ≡ Some k) ⊎ ((b ≡ true) × (n ≡ k))
found_front (Some j) b n k h = inl h
found_front None true n k h = inr (refl, cc)
found_front None false n k h = absurd (none-some _ h)

found_passes : (p : ℕ → Bool) (n k : ℕ) → least_below p n ≡ Some k → p k ≡ true
unfolding least_below
found_passes p zero k h = absurd (none-some _ h)
found_passes p (suc n) k h =
    elim (found_front (least_below p n) (p n) n k h) [
      | inl lower ↦ found_passes p n k lower
      | inr here ↦ subst (λ (j : ℕ). p j ≡ true) here.1 here.0
    ]

-- and lies below the bound
found_below : (p : ℕ → Bool) (n k : ℕ) → least_below p n ≡ Some k → k < n
unfolding least_below
found_below p zero k h = absurd (none-some _ h)
found_below p (suc n) k h =
    elim (found_front (least_below p n) (p n) n k h) [
      | inl lower ↦ let below = found_below p n k lower in omega arith
      | inr here ↦ let same = here.1 in omega arith
    ]

-- the symbol that stands for a section is one of the table's
pub symbol_below : (object : Elf) (i k : ℕ) → section_symbol_of object i ≡ Some k → k < length object.symbols
symbol_below object i k h = found_below _ (length object.symbols) k h

-- a symbol stands for one section
home_section : (i j : ℕ) (h : Home) → is_home i h ≡ true → is_home j h ≡ true → i ≡ j
home_section i j (home.Section n) one two = eqb-true i n one ∙ sym (eqb-true j n two)
home_section i j home.Undefined one two = absurd (false≢true one)
home_section i j home.Absolute one two = absurd (false≢true one)
home_section i j home.Common one two = absurd (false≢true one)

-- the symbol that stands for a section is defined there
home_is : (i : ℕ) (h : Home) → is_home i h ≡ true → h ≡ home.Section i
home_is i (home.Section n) one = ap home.Section (sym (eqb-true i n one))
home_is i home.Undefined one = absurd (false≢true one)
home_is i home.Absolute one = absurd (false≢true one)
home_is i home.Common one = absurd (false≢true one)

pub symbol_home : (object : Elf) (i k : ℕ) → section_symbol_of object i ≡ Some k → (symbol_at object k).home ≡ home.Section i
symbol_home object i k h =
    home_is i (symbol_at object k).home
    (and_parts _ _ (found_passes (λ n. stands_for i (symbol_at object n)) (length object.symbols) k h)).1

symbol_section : (object : Elf) (i j k : ℕ) → section_symbol_of object i ≡ Some k → section_symbol_of object j ≡ Some k → i ≡ j
symbol_section object i j k one two =
    home_section i j (symbol_at object k).home
    (and_parts _ _ (found_passes (λ n. stands_for i (symbol_at object n)) (length object.symbols) k one)).1
    (and_parts _ _ (found_passes (λ n. stands_for j (symbol_at object n)) (length object.symbols) k two)).1

-- two sections with one symbol are one section
same_section : (object : Elf) (i j : ℕ) → IsSome (section_symbol_of object i) → IsSome (section_symbol_of object j) → unwrap_or (section_symbol_of object i) 0 ≡ unwrap_or (section_symbol_of object j) 0 → i ≡ j
same_section object i j one two h =
    go (section_symbol_of object i) (section_symbol_of object j) refl refl one two h
  where
    go : (o p : Option ℕ) → section_symbol_of object i ≡ o → section_symbol_of object j ≡ p → IsSome o → IsSome p → unwrap_or o 0 ≡ unwrap_or p 0 → i ≡ j
    go (Some k) (Some l) e f one two h = symbol_section object i j k e (f ∙ ap (λ (n : ℕ). Some n) (sym h))
    go None p e f one two h = absurd (false≢true one)
    go (Some k) None e f one two h = absurd (false≢true two)

-- numbers of 16 bits with the same two bytes
two_bytes : (m n : ℕ) → m < 2 ^ 16 → n < 2 ^ 16 → m % 256 ≡ n % 256 → m / 256 % 256 ≡ n / 256 % 256 → m ≡ n
two_bytes m n h k low high = omega arith

same_offset : (x y : ℤ) → FitsSigned w16 x → FitsSigned w16 y → of_z w16 x % 256 ≡ of_z w16 y % 256 → of_z w16 x / 256 % 256 ≡ of_z w16 y / 256 % 256 → x ≡ y
same_offset x y h k low high =
    let fits : Fits w16 (of_z w16 x) = Fits-of_z h in
    let fits' : Fits w16 (of_z w16 y) = Fits-of_z k in
    let bits : of_z w16 x ≡ of_z w16 y = two_bytes (of_z w16 x) (of_z w16 y) (omega (arith, fits.fits)) (omega (arith, fits'.fits)) low high in
    sym (to_z-of_z h) ∙ ap (to_z w16) bits ∙ to_z-of_z k

-- the packed fields tell the fields
same_fields : (a b c a' b' c' : ℕ) (s s' : Bool) → a ≤ 9 → b ≤ 9 → c ≤ 4 → a' ≤ 9 → b' ≤ 9 → c' ≤ 4 → a + b * 2 ^ 4 + c * 2 ^ 8 + cond s (2 ^ 11) 0 ≡ a' + b' * 2 ^ 4 + c' * 2 ^ 8 + cond s' (2 ^ 11) 0 → (a ≡ a') × (b ≡ b') × (c ≡ c') × (s ≡ s')
same_fields a b c a' b' c' true true h1 h2 h3 h4 h5 h6 e = (omega arith, omega arith, omega arith, refl)
same_fields a b c a' b' c' true false h1 h2 h3 h4 h5 h6 e = absurd (omega arith)
same_fields a b c a' b' c' false true h1 h2 h3 h4 h5 h6 e = absurd (omega arith)
same_fields a b c a' b' c' false false h1 h2 h3 h4 h5 h6 e = (omega arith, omega arith, omega arith, refl)

packed_below : (r : Row) → IsRow r → packed_fields r < 2 ^ 16
packed_below r h = below r.sp_reg r.bp_reg r.kind r.signal h.fields.sp_reg h.fields.bp_reg h.fields.kind
  where
    below : (a b c : ℕ) (s : Bool) → a ≤ 9 → b ≤ 9 → c ≤ 4 → a + b * 2 ^ 4 + c * 2 ^ 8 + cond s (2 ^ 11) 0 < 2 ^ 16
    below a b c true h k l = omega arith
    below a b c false h k l = omega arith

row_cells : (r s : Row) (xs ys : List ℕ) → bytes_of_row r ++ xs ≡ bytes_of_row s ++ ys → (bytes_of_row r ≡ bytes_of_row s) × (xs ≡ ys)
unfolding bytes_of_row
row_cells r s xs ys h = (cc, cc)

made_alike : (a a' b b' : ℤ) (c c' d d' e e' : ℕ) (s s' : Bool) → a ≡ a' → b ≡ b' → c ≡ c' → d ≡ d' → e ≡ e' → s ≡ s' → ◌≡◌ {A = Row} (record { sp_offset = a; bp_offset = b; sp_reg = c; bp_reg = d; kind = e; signal = s }) (record { sp_offset = a'; bp_offset = b'; sp_reg = c'; bp_reg = d'; kind = e'; signal = s' })
made_alike a a' b b' c c' d d' e e' s s' h1 h2 h3 h4 h5 h6 = cc

-- six bytes tell the row
same_row : (r s : Row) → IsRow r → IsRow s → bytes_of_row r ≡ bytes_of_row s → r ≡ s
unfolding bytes_of_row
same_row r s one two h =
    let sp_low : of_z w16 r.sp_offset % 256 ≡ of_z w16 s.sp_offset % 256 = cc in
    let sp_high : of_z w16 r.sp_offset / 256 % 256 ≡ of_z w16 s.sp_offset / 256 % 256 = cc in
    let bp_low : of_z w16 r.bp_offset % 256 ≡ of_z w16 s.bp_offset % 256 = cc in
    let bp_high : of_z w16 r.bp_offset / 256 % 256 ≡ of_z w16 s.bp_offset / 256 % 256 = cc in
    let low : packed_fields r % 256 ≡ packed_fields s % 256 = cc in
    let high : packed_fields r / 256 % 256 ≡ packed_fields s / 256 % 256 = cc in
    let packed : packed_fields r ≡ packed_fields s = two_bytes (packed_fields r) (packed_fields s) (packed_below r one) (packed_below s two) low high in
    let fields = same_fields r.sp_reg r.bp_reg r.kind s.sp_reg s.bp_reg s.kind r.signal s.signal one.fields.sp_reg one.fields.bp_reg one.fields.kind two.fields.sp_reg two.fields.bp_reg two.fields.kind packed in
    made_alike r.sp_offset s.sp_offset r.bp_offset s.bp_offset r.sp_reg s.sp_reg r.bp_reg s.bp_reg r.kind s.kind r.signal s.signal
    (same_offset r.sp_offset s.sp_offset one.sp_offset two.sp_offset sp_low sp_high)
    (same_offset r.bp_offset s.bp_offset one.bp_offset two.bp_offset bp_low bp_high)
    fields.0 fields.1 fields.2 fields.3

placed_alike : (x y : PlacedRow) → x.place.sec ≡ y.place.sec → x.place.off ≡ y.place.off → x.row ≡ y.row → x ≡ y
placed_alike x y sec off row = made x.place.sec y.place.sec x.place.off y.place.off x.row y.row sec off row
  where
    made : (a a' b b' : ℕ) (r r' : Row) → a ≡ a' → b ≡ b' → r ≡ r' → ◌≡◌ {A = PlacedRow} (record { place = record { sec = a; off = b }; row = r }) (record { place = record { sec = a'; off = b' }; row = r' })
    made a a' b b' r r' h1 h2 h3 = cc

-- a relocation and six bytes tell the placed row
same_placed : (object : Elf) (m n : ℕ) (x y : PlacedRow) → IsRowOf object x → IsRowOf object y → bytes_of_row x.row ≡ bytes_of_row y.row → slot (section_symbol_of object) m x ≡ slot (section_symbol_of object) n y → x ≡ y
same_placed object m n x y one two bytes slots_alike =
    let symbols = ap (λ (r : Reloc). r.sym) slots_alike in
    let addends : ◌≡◌ {A = ℤ} (pos x.place.off) (pos y.place.off) = ap (λ (r : Reloc). r.addend) slots_alike in
    placed_alike x y
    (same_section object x.place.sec y.place.sec one.symbol two.symbol symbols)
    (pos-injective addends)
    (same_row x.row y.row one.row two.row bytes)
  where
    pos-injective : {a b : ℕ} → ◌≡◌ {A = ℤ} (pos a) (pos b) → a ≡ b
    pos-injective h = cc

slots_from : Elf → ℕ → List PlacedRow → List Reloc
slots_from object n rows = map (λ entry. slot (section_symbol_of object) (4 * entry.0) entry.1) (enumerate_from n rows)

same_rows : (object : Elf) (n : ℕ) (xs ys : List PlacedRow) → All (IsRowOf object) xs → All (IsRowOf object) ys → row_section xs ≡ row_section ys → slots_from object n xs ≡ slots_from object n ys → xs ≡ ys
unfolding slots_from
same_rows object n [] [] one two bytes places = refl
same_rows object n [] (y ∷ ys) one two bytes places = cc
same_rows object n (x ∷ xs) [] one two bytes places = cc
same_rows object n (x ∷ xs) (y ∷ ys) one two bytes places =
    let cells = row_cells x.row y.row (row_section xs) (row_section ys) bytes in
    let first : slot (section_symbol_of object) (4 * n) x ≡ slot (section_symbol_of object) (4 * n) y = front_alike places in
    let further : slots_from object (n + 1) xs ≡ slots_from object (n + 1) ys = rest_alike places in
    let here : x ≡ y = same_placed object (4 * n) (4 * n) x y (All-head (IsRowOf object) x xs one) (All-head (IsRowOf object) y ys two) cells.0 first in
    let there : xs ≡ ys = same_rows object (n + 1) xs ys (All-tail (IsRowOf object) x xs one) (All-tail (IsRowOf object) y ys two) cells.1 further in
    joined here there
  where
    front_alike : {a b : Reloc} {us vs : List Reloc} → (a ∷ us) ≡ (b ∷ vs) → a ≡ b
    front_alike h = cc

    rest_alike : {a b : Reloc} {us vs : List Reloc} → (a ∷ us) ≡ (b ∷ vs) → us ≡ vs
    rest_alike h = cc

    joined : {a b : PlacedRow} {us vs : List PlacedRow} → a ≡ b → us ≡ vs → (a ∷ us) ≡ (b ∷ vs)
    joined h k = cc

some_alike : {A : Type 0} {x y : A} {o : Option A} → o ≡ Some x → o ≡ Some y → x ≡ y
some_alike h k = cc

pub one_list_fits : OneListFits
unfolding slots_from
one_list_fits object one other first second =
    same_rows object 0 one other first.each second.each (some_alike first.table second.table) (some_alike first.relocs second.relocs)
