-- The input, the longer tables and the headers, one behind the other.
use Rattle.std.proofs.Common.{◌≡◌, ℕ, suc, ◌+◌, ◌-◌, ◌*◌, ◌<◌, ◌≤◌, List, [], ◌∷◌, ◌++◌, length, take, drop, Option, Some, ap, ◌∙◌, arith, length-append, length-drop}
use Rattle.std.specs.Prelude.{slice_index}
use Rattle.std.specs.List.{flat_map}
use Rattle.std.proofs.lemmas.List.{length-take-le}
use Rattle.elf_objects.specs.Contents.{elf_of, section_at}
use Rattle.elf_objects.specs.Elf.{SectionEntry}
use Rattle.elf_objects.specs.File.{headers_at, section_count, section_header}
use Rattle.elf_objects.specs.Object.{IsWellFormed}
use Rattle.elf_objects.specs.Table.{symbol_count}
use Rattle.elf_objects.specs.declared.TheConstants.{STT_SECTION}
use Rattle.elf_write.specs.Layout.{aligned, encoded, end_of, laid_out, padded}
use Rattle.elf_write.proofs.Links.{length-sections}
use Rattle.elf_write.proofs.Lists.{length-encoded}
use Rattle.elf_write.proofs.Parts.{part, part-laid_out, part-part, part-piece, part-right}
use Rattle.elf_write.proofs.Result.{length-headers_of}
use Rattle.elf_write.proofs.Sizes.{laid_out-append, length-laid_out, length-padded, le-end_of}
use Rattle.elf_write.specs.SymbolLayout.{headers_place, index_table as table_of_numbers, inserted, joined, locals, long_number, longer_numbers, longer_symbols, number_bytes, numbers_of, numbers_place, old_headers, short_number, symbol_bytes, symbol_section, symbols_place, tables}
use Rattle.elf_write.specs.SymbolObject.{CanInsert}
use Rattle.elf_write.proofs.Known.{Numbers, Symbols, length-part, locals_are, same_numbers, section_is, symbols_section}

-- an object, its symbol table, and sections to insert symbols for
pub record Start (b : List ℕ) (secs : List ℕ) (t : ℕ) : Type 0 where
  pub well : IsWellFormed b
  pub some : 0 < length secs
  pub symbols : Symbols b t

-- all that is asked
pub record Base (b : List ℕ) (secs : List ℕ) (t : ℕ) : Type 0 where
  pub well : IsWellFormed b
  pub some : 0 < length secs
  pub symbols : Symbols b t
  pub can : CanInsert (elf_of b) secs
  pub bytes : (k : ℕ) → slice_index b k < 256

abbrev pub start : (b secs : List ℕ) (t : ℕ) → Base b secs t → Start b secs t
start b secs t x = record { well = x.well; some = x.some; symbols = x.symbols }

pub length-inserted : (at : ℕ) (piece body : List ℕ) → at ≤ length body → length (inserted at piece body) ≡ length body + length piece
length-inserted at piece body h =
    let a = length-append (take at body ++ piece) (drop at body) in
    let c = length-append (take at body) piece in
    let t = length-take-le at body h in
    let d = length-drop at body in
    omega arith

pub length-symbol_bytes : (sec : ℕ) → length (symbol_bytes sec) ≡ 24
unfolding symbol_bytes
length-symbol_bytes sec =
    omega (arith, length-encoded 4 0, length-encoded 8 0, length-encoded 2 (short_number sec), length-append (encoded 4 0 ++ (STT_SECTION ∷ 0 ∷ []) ++ encoded 2 (short_number sec) ++ encoded 8 0) (encoded 8 0), length-append (encoded 4 0 ++ (STT_SECTION ∷ 0 ∷ []) ++ encoded 2 (short_number sec)) (encoded 8 0), length-append (encoded 4 0 ++ (STT_SECTION ∷ 0 ∷ [])) (encoded 2 (short_number sec)), length-append (encoded 4 0) (STT_SECTION ∷ 0 ∷ []))

-- pieces of one length
pub length-pieces : (f : ℕ → List ℕ) (w : ℕ) → ((x : ℕ) → length (f x) ≡ w) → (xs : List ℕ) → length (flat_map f xs) ≡ w * length xs
length-pieces f w h [] = omega arith
length-pieces f w h (x ∷ xs) =
    let ih = length-pieces f w h xs in
    let a = length-append (f x) (flat_map f xs) in
    let m : w * suc (length xs) ≡ w + w * length xs = grind arith in
    let e = h x in
    omega arith

pub length-new_symbols : (secs : List ℕ) → length (flat_map symbol_bytes secs) ≡ 24 * length secs
length-new_symbols secs = length-pieces symbol_bytes 24 length-symbol_bytes secs

pub length-new_numbers : (secs : List ℕ) → length (flat_map number_bytes secs) ≡ 4 * length secs
length-new_numbers secs = length-pieces number_bytes 4 (λ x. length-encoded 4 (long_number x)) secs

-- the symbol table's body
pub symbols_body : (b secs : List ℕ) (t : ℕ) → Start b secs t → (symbol_section (elf_of b)).body ≡ part (section_header b t).offset (section_header b t).size b
symbols_body b secs t x = ap (λ (s : SectionEntry). s.body) (symbols_section b t x.symbols) ∙ x.symbols.body.body

-- how long the longer tables are
pub length-symbols_with : (b secs : List ℕ) (t : ℕ) → Start b secs t → length (longer_symbols (elf_of b) secs) ≡ 24 * (symbol_count b + length secs)
length-symbols_with b secs t x =
    let l = locals_are b t x.symbols in
    let s = x.symbols in
    let high = s.high in
    let size = s.size in
    let body : length (symbol_section (elf_of b)).body ≡ (section_header b t).size =
    ap length (symbols_body b secs t x) ∙ length-part (section_header b t).offset (section_header b t).size b s.body.inside in
    length-inserted (24 * locals (elf_of b)) (flat_map symbol_bytes secs) (symbol_section (elf_of b)).body (omega arith)
    ∙ omega (arith, length-new_symbols secs)

pub length-numbers_with : (b secs : List ℕ) (t i : ℕ) → Start b secs t → Numbers b i
    → length (longer_numbers (elf_of b) secs (section_at (elf_of b) i).body) ≡ 4 * (symbol_count b + length secs)
length-numbers_with b secs t i x n =
    let l = locals_are b t x.symbols in
    let high = x.symbols.high in
    let size = n.size in
    let body : length (section_at (elf_of b) i).body ≡ (section_header b i).size =
    ap (λ (s : SectionEntry). length s.body) (section_is b i n.one.below) ∙ n.body.size in
    length-inserted (4 * locals (elf_of b)) (flat_map number_bytes secs) (section_at (elf_of b) i).body (omega arith)
    ∙ omega (arith, length-new_numbers secs)

-- the headers
pub length-old_headers : (b : List ℕ) → IsWellFormed b → length (old_headers (elf_of b)) ≡ 64 * section_count b
length-old_headers b w =
    let l = length-sections b in
    let h = w.table.headers in
    length-headers_of (elf_of b) (omega arith) ∙ ap (λ (n : ℕ). 64 * n) l

pub old_part : (b : List ℕ) (a w : ℕ) → a + w ≤ 64 * section_count b → part a w (old_headers (elf_of b)) ≡ part (headers_at b + a) w b
old_part b a w h =
    let l = length-sections b in
    let e : headers_at b + 64 * length (elf_of b).sections - headers_at b ≡ 64 * section_count b = omega arith in
    ap (λ (n : ℕ). part a w (take n (drop (headers_at b) b))) e
    ∙ part-part a w (headers_at b) (64 * section_count b) b h

-- where the pieces stand
front-length : (b secs : List ℕ) → length (padded (laid_out b (tables (elf_of b) secs))) ≡ headers_place (elf_of b) secs
front-length b secs = length-padded (laid_out b (tables (elf_of b) secs)) ∙ ap aligned (length-laid_out b (tables (elf_of b) secs))

pub length-joined : (b secs : List ℕ) → IsWellFormed b → length (joined (elf_of b) secs) ≡ headers_place (elf_of b) secs + 64 * section_count b
length-joined b secs w =
    ap length (laid_out-append b (tables (elf_of b) secs) (old_headers (elf_of b) ∷ []))
    ∙ length-append (padded (laid_out b (tables (elf_of b) secs))) (old_headers (elf_of b))
    ∙ omega (arith, front-length b secs, length-old_headers b w)

pub joined_front : (b secs : List ℕ) (a w : ℕ) → a + w ≤ length b → part a w (joined (elf_of b) secs) ≡ part a w b
joined_front b secs a w h = part-laid_out a w b (tables (elf_of b) secs ++ old_headers (elf_of b) ∷ []) h

pub joined_header : (b secs : List ℕ) (a w : ℕ) → a + w ≤ 64 * section_count b
    → part (headers_place (elf_of b) secs + a) w (joined (elf_of b) secs) ≡ part (headers_at b + a) w b
joined_header b secs a w h =
    let front : List ℕ = laid_out b (tables (elf_of b) secs) in
    ap (part (headers_place (elf_of b) secs + a) w) (laid_out-append b (tables (elf_of b) secs) (old_headers (elf_of b) ∷ []))
    ∙ part-right (headers_place (elf_of b) secs + a) a w (padded front) (old_headers (elf_of b)) (omega (arith, front-length b secs))
    ∙ old_part b a w h

pub joined_symbols : (b secs : List ℕ)
    → part (symbols_place (elf_of b)) (length (longer_symbols (elf_of b) secs)) (joined (elf_of b) secs) ≡ longer_symbols (elf_of b) secs
joined_symbols b secs =
    let o = elf_of b in
    part-piece b [] (longer_symbols o secs) (numbers_of o secs (table_of_numbers o) ++ old_headers o ∷ [])

pub joined_numbers : (b secs : List ℕ) (i : ℕ) → Numbers b i
    → part (numbers_place (elf_of b) secs) (length (longer_numbers (elf_of b) secs (section_at (elf_of b) i).body)) (joined (elf_of b) secs)
    ≡ longer_numbers (elf_of b) secs (section_at (elf_of b) i).body
joined_numbers b secs i n =
    let o = elf_of b in
    let found : table_of_numbers o ≡ Some i = same_numbers b ∙ n.found in
    let piece : List ℕ = longer_numbers o secs (section_at o i).body in
    ap (λ (f : Option ℕ). part (numbers_place o secs) (length piece) (laid_out b ((longer_symbols o secs ∷ numbers_of o secs f) ++ old_headers o ∷ []))) found
    ∙ part-piece b (longer_symbols o secs ∷ []) piece (old_headers o ∷ [])

-- the places, one behind the other
pub record Places (b secs : List ℕ) (t : ℕ) : Type 0 where
  pub behind : length b ≤ symbols_place (elf_of b)
  pub symbols : symbols_place (elf_of b) + 24 * (symbol_count b + length secs) ≤ headers_place (elf_of b) secs
  pub numbers : (i : ℕ) → Numbers b i → numbers_place (elf_of b) secs + 4 * (symbol_count b + length secs) ≤ headers_place (elf_of b) secs
  pub further : symbols_place (elf_of b) + 24 * (symbol_count b + length secs) ≤ numbers_place (elf_of b) secs

pub places : (b secs : List ℕ) (t : ℕ) → Start b secs t → Places b secs t
places b secs t x =
    let o = elf_of b in
    let ls = length-symbols_with b secs t x in
    let e = le-end_of (symbols_place o + length (longer_symbols o secs)) (numbers_of o secs (table_of_numbers o)) in
    record {
      behind = omega arith;
      symbols = omega arith;
      numbers = λ i n. (let found : table_of_numbers o ≡ Some i = same_numbers b ∙ n.found in
          let ln = length-numbers_with b secs t i x n in
          let place : headers_place o secs ≡ aligned (numbers_place o secs + length (longer_numbers o secs (section_at o i).body)) =
          ap (λ (f : Option ℕ). aligned (end_of (length b) (longer_symbols o secs ∷ numbers_of o secs f))) found in
          omega arith);
      further = omega arith;
    }
