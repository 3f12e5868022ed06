-- How long a file gets into which section symbols are inserted.
use Rattle.std.proofs.Common.{◌≡◌, ℕ, ◌+◌, ◌*◌, ◌<◌, ◌≤◌, List, [], ◌∷◌, length, Option, Some, None, refl, sym, subst, arith}
use Rattle.elf_objects.specs.Contents.{elf_of}
use Rattle.elf_objects.specs.Elf.{Elf}
use Rattle.elf_objects.specs.Object.{IsObject, IsWellFormed}
use Rattle.elf_objects.specs.Table.{index_table as numbers_table, symbol_count, symbol_table}
use Rattle.elf_write.specs.Layout.{end_of}
use Rattle.elf_write.specs.SymbolLayout.{extended, longer_symbols, numbers_of, symbols_inserted, symbols_place}
use Rattle.elf_write.proofs.Joined.{Start, length-numbers_with, length-symbols_with}
use Rattle.elf_write.proofs.Known.{numbers_at, same_numbers, symbols_found}
use Rattle.elf_write.proofs.Regions.{length-extended}
use Rattle.elf_write.proofs.SymbolWellFormed.{length-symbols}

headers_low : (b secs : List ℕ) (t : ℕ) → Start b secs t → (f : Option ℕ) → numbers_table b ≡ f
    → end_of (symbols_place (elf_of b) + length (longer_symbols (elf_of b) secs)) (numbers_of (elf_of b) secs f)
    ≤ symbols_place (elf_of b) + 28 * (symbol_count b + length secs) + 7
headers_low b secs t x None e = (let l = length-symbols_with b secs t x in omega arith)
headers_low b secs t x (Some i) e =
    let l = length-symbols_with b secs t x in
    let n = length-numbers_with b secs t i x (numbers_at b x.well i e) in
    omega arith

extended_low : (b secs : List ℕ) (t : ℕ) → Start b secs t → length (extended (elf_of b) secs) ≤ 4 * length b + 28 * length secs + 21
extended_low b secs t x =
    let l = length-extended b secs t x in
    let low = subst (λ (f : Option ℕ). end_of (symbols_place (elf_of b) + length (longer_symbols (elf_of b) secs)) (numbers_of (elf_of b) secs f) ≤ symbols_place (elf_of b) + 28 * (symbol_count b + length secs) + 7) (sym (same_numbers b)) (headers_low b secs t x (numbers_table b) refl) in
    let h = x.well.table.headers in
    let s = x.symbols.size in
    let inside = x.symbols.body.inside in
    omega arith

at_bytes : (b secs : List ℕ) → IsWellFormed b → (0 < length secs → 1 ≤ symbol_count b) → length (symbols_inserted (elf_of b) secs) ≤ 4 * length b + 28 * length secs + 21
at_bytes b [] w h = omega arith
at_bytes b (s ∷ secs) w h =
    let f = symbols_found b w (h (omega arith)) (symbol_table b) refl in
    extended_low b (s ∷ secs) f.0 (record { well = w; some = omega arith; symbols = f.1 })

-- at most four times as long as the file, and 28 bytes for each symbol
pub length-symbols_inserted : (b : List ℕ) (o : Elf) (secs : List ℕ) → IsObject b o → (0 < length secs → 1 ≤ length o.symbols)
    → length (symbols_inserted o secs) ≤ 4 * length b + 28 * length secs + 21
length-symbols_inserted b o secs ok h =
    subst (λ (y : Elf). (0 < length secs → 1 ≤ length y.symbols) → length (symbols_inserted y secs) ≤ 4 * length b + 28 * length secs + 21) (sym ok.says)
    (λ g. at_bytes b secs ok.well_formed (λ some. (let l = length-symbols b in let n = g some in omega arith))) h
