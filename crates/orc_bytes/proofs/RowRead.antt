-- Six bytes and the row that they are, in both directions.
use Rattle.std.proofs.Common.{◌≡◌, ◌≢◌, ℕ, ◌+◌, ◌*◌, ◌/◌, ◌%◌, ◌^◌, ◌<◌, ◌≤◌, Bool, true, false, cond, List, [], ◌∷◌, ◌++◌, length, take, drop, get_or, ℤ, refl, sym, ◌∙◌, ap, subst, w16, of_z, to_z, FitsSigned, Fits, append_assoc, arith}
use Rattle.std.proofs.Math.Facts.{Fits-of_z, to_z-of_z}
use Rattle.std.proofs.lemmas.Int.{of_z-to_z}
use Rattle.std.proofs.lemmas.Bool.{eqb-true, eqb-false}
use Rattle.std.specs.Prelude.{◌==◌}
use Rattle.byteorder.specs.Endian.{little_number, little_bytes}
use Rattle.byteorder.specs.Numbers.{little_number-reads_back}
use Rattle.ot_base.specs.declared.row.Row.{Row}
use Rattle.elf_objects.specs.Number.{half}
use Rattle.table_defs.specs.Fields.{HasKnownFields}
use Rattle.orc_bytes.specs.RowBytes.{bytes_of_row, packed_fields, IsRow}
use Rattle.orc_bytes.specs.Faults.{row_in, HasRow}

-- Bytes to row to bytes.

two_bytes : (a b n : ℕ) → a < 256 → b < 256 → n ≡ a + 256 * b → little_bytes 2 n ≡ a ∷ b ∷ []
two_bytes a b n ha hb h =
    let low : n % 256 ≡ a = omega arith in
    let high : n / 256 % 256 ≡ b = omega arith in
    cc (low, high)

-- the number in two bytes
half_of : (a b : ℕ) (rest : List ℕ) → half (a ∷ b ∷ rest) 0 ≡ a + 256 * b
unfolding half
half_of a b rest = omega arith

signal_of : (h : ℕ) → h < 2 ^ 12 → cond (h / 2048 % 2 == 1) (2 ^ 11) 0 ≡ h / 2048 * 2048
signal_of h few = go (h / 2048 % 2 == 1) refl
  where
    go : (b : Bool) → (h / 2048 % 2 == 1) ≡ b → cond b (2 ^ 11) 0 ≡ h / 2048 * 2048
    go true e = let one = eqb-true _ _ e in omega arith
    go false e = let other : h / 2048 % 2 ≢ 1 = eqb-false _ _ e in omega arith

packed_again : (h : ℕ) → h < 2 ^ 12 → h % 16 + h / 16 % 16 * 2 ^ 4 + h / 256 % 8 * 2 ^ 8 + cond (h / 2048 % 2 == 1) (2 ^ 11) 0 ≡ h
packed_again h few = let s = signal_of h few in omega arith

-- six bytes
pub six_bytes : (xs : List ℕ) → ((k : ℕ) → get_or xs k 0 < 256) → 6 ≤ length xs → HasRow xs → bytes_of_row (row_in xs) ≡ take 6 xs
unfolding bytes_of_row half
six_bytes [] small long is = absurd (omega arith)
six_bytes (a ∷ []) small long is = absurd (omega arith)
six_bytes (a ∷ b ∷ []) small long is = absurd (omega arith)
six_bytes (a ∷ b ∷ c ∷ []) small long is = absurd (omega arith)
six_bytes (a ∷ b ∷ c ∷ d ∷ []) small long is = absurd (omega arith)
six_bytes (a ∷ b ∷ c ∷ d ∷ e ∷ []) small long is = absurd (omega arith)
six_bytes (a ∷ b ∷ c ∷ d ∷ e ∷ f ∷ rest) small long is =
    let ha : a < 256 = small 0 in
    let hb : b < 256 = small 1 in
    let hc : c < 256 = small 2 in
    let hd : d < 256 = small 3 in
    let he : e < 256 = small 4 in
    let hf : f < 256 = small 5 in
    let xs : List ℕ = a ∷ b ∷ c ∷ d ∷ e ∷ f ∷ rest in
    let few : half xs 4 < 2 ^ 12 = is.unused in
    let first : half xs 0 ≡ a + 256 * b = omega arith in
    let second : half xs 2 ≡ c + 256 * d = omega arith in
    let third : half xs 4 ≡ e + 256 * f = omega arith in
    let sp : of_z w16 (to_z w16 (half xs 0)) ≡ a + 256 * b = of_z-to_z w16 (half xs 0) (omega arith) ∙ first in
    let bp : of_z w16 (to_z w16 (half xs 2)) ≡ c + 256 * d = of_z-to_z w16 (half xs 2) (omega arith) ∙ second in
    let packed : packed_fields (row_in xs) ≡ e + 256 * f = packed_again (half xs 4) few ∙ third in
    joined (two_bytes a b _ ha hb sp) (two_bytes c d _ hc hd bp) (two_bytes e f _ he hf packed)
  where
    joined : {us vs ws : List ℕ} {a b c d e f : ℕ} → us ≡ a ∷ b ∷ [] → vs ≡ c ∷ d ∷ [] → ws ≡ e ∷ f ∷ [] → us ++ (vs ++ ws) ≡ a ∷ b ∷ c ∷ d ∷ e ∷ f ∷ []
    joined h k l = rw (h, k, l) refl

-- Row to bytes to row.

half_here : (n : ℕ) (rest : List ℕ) → n < 2 ^ 16 → half (little_bytes 2 n ++ rest) 0 ≡ n
unfolding half
half_here n rest few = little_number-reads_back 2 n rest few

packed_below : (r : Row) → HasKnownFields r → packed_fields r < 2 ^ 12
packed_below r h = below r.sp_reg r.bp_reg r.kind r.signal h.sp_reg h.bp_reg h.kind
  where
    below : (a b c : ℕ) (s : Bool) → a ≤ 9 → b ≤ 9 → c ≤ 4 → a + b * 2 ^ 4 + c * 2 ^ 8 + cond s (2 ^ 11) 0 < 2 ^ 12
    below a b c true h k l = omega arith
    below a b c false h k l = omega arith

-- the fields are told by their packing
unpacked : (a b c : ℕ) (s : Bool) (h : ℕ) → a ≤ 9 → b ≤ 9 → c ≤ 4 → h ≡ a + b * 2 ^ 4 + c * 2 ^ 8 + cond s (2 ^ 11) 0 → (h % 16 ≡ a) × (h / 16 % 16 ≡ b) × (h / 256 % 8 ≡ c) × ((h / 2048 % 2 == 1) ≡ s)
unpacked a b c true h ha hb hc e = (omega arith, omega arith, omega arith, let one : h / 2048 % 2 ≡ 1 = omega arith in rw one refl)
unpacked a b c false h ha hb hc e = (omega arith, omega arith, omega arith, let none : h / 2048 % 2 ≡ 0 = omega arith in rw none refl)

made_alike : (a a' b b' : ℤ) (c c' d d' e e' : ℕ) (s s' : Bool) → a ≡ a' → b ≡ b' → c ≡ c' → d ≡ d' → e ≡ e' → s ≡ s' → ◌≡◌ {A = Row} (record { sp_offset = a; bp_offset = b; sp_reg = c; bp_reg = d; kind = e; signal = s }) (record { sp_offset = a'; bp_offset = b'; sp_reg = c'; bp_reg = d'; kind = e'; signal = s' })
made_alike a a' b b' c c' d d' e e' s s' h1 h2 h3 h4 h5 h6 = cc

-- the halves of a row's bytes
halves : (r : Row) (rest : List ℕ) → IsRow r → let bytes = bytes_of_row r ++ rest in (half bytes 0 ≡ of_z w16 r.sp_offset) × (half bytes 2 ≡ of_z w16 r.bp_offset) × (half bytes 4 ≡ packed_fields r)
unfolding bytes_of_row half
halves r rest is =
    let sp = Fits-of_z is.sp_offset in
    let bp = Fits-of_z is.bp_offset in
    let few = packed_below r is.fields in
    (little_number-reads_back 2 (of_z w16 r.sp_offset) (little_bytes 2 (of_z w16 r.bp_offset) ++ (little_bytes 2 (packed_fields r) ++ rest)) sp.fits, little_number-reads_back 2 (of_z w16 r.bp_offset) (little_bytes 2 (packed_fields r) ++ rest) bp.fits, little_number-reads_back 2 (packed_fields r) rest (omega arith))

pub row_again : (r : Row) (rest : List ℕ) → IsRow r → row_in (bytes_of_row r ++ rest) ≡ r
row_again r rest is =
    let is_halves = halves r rest is in
    let fields = unpacked r.sp_reg r.bp_reg r.kind r.signal _ is.fields.sp_reg is.fields.bp_reg is.fields.kind is_halves.2 in
    made_alike _ r.sp_offset _ r.bp_offset _ r.sp_reg _ r.bp_reg _ r.kind _ r.signal
    (ap (to_z w16) is_halves.0 ∙ to_z-of_z is.sp_offset)
    (ap (to_z w16) is_halves.1 ∙ to_z-of_z is.bp_offset)
    fields.0 fields.1 fields.2 fields.3

pub has_row : (r : Row) (rest : List ℕ) → IsRow r → HasRow (bytes_of_row r ++ rest)
has_row r rest is =
    let is_halves = halves r rest is in
    let few = packed_below r is.fields in
    record {
      fields = subst HasKnownFields (sym (row_again r rest is)) is.fields;
      unused = omega (arith, is_halves.2);
    }

-- the row that the code reads
pub row_told : (xs : List ℕ) (sp bp : ℤ) (fields : ℕ) → sp ≡ to_z w16 (half xs 0) → bp ≡ to_z w16 (half xs 2) → fields ≡ half xs 4 → fields % 16 ≤ 9 → fields / 16 % 16 ≤ 9 → fields / 256 % 8 ≤ 4 → fields < 4096
    → (record { sp_offset = sp; bp_offset = bp; sp_reg = fields % 16; bp_reg = fields / 16 % 16; kind = fields / 256 % 8; signal = fields / 2048 % 2 == 1 } ≡ row_in xs) × HasRow xs
row_told xs sp bp fields s b f h k l few = (
  cc (s, b, f),
  record {
    fields = record { sp_reg = subst (λ (n : ℕ). n % 16 ≤ 9) f h; bp_reg = subst (λ (n : ℕ). n / 16 % 16 ≤ 9) f k; kind = subst (λ (n : ℕ). n / 256 % 8 ≤ 4) f l };
    unused = subst (λ (n : ℕ). n < 4096) f few;
  },
)
