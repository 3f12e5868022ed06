-- How long the file of an object with section symbols is.
use Rattle.std.proofs.Common.{◌≡◌, ℕ, ◌+◌, ◌*◌, ◌<◌, ◌≤◌, List, [], ◌∷◌, length, Option, Some, None, refl, sym, subst, arith}
use Rattle.elf_objects.specs.Contents.{elf_of}
use Rattle.elf_objects.specs.Elf.{Elf}
use Rattle.elf_objects.specs.Object.{IsObject, IsWellFormed}
use Rattle.elf_objects.specs.Table.{index_table, symbol_count, symbol_table}
use Rattle.elf_write.specs.Layout.{end_of}
use Rattle.elf_write.specs.SymbolLayout.{extended, longer_symbols, numbers_of, symbols_inserted, symbols_place}
use Rattle.elf_write.specs.SymbolObject.{object_with_symbols}
use Rattle.elf_write.proofs.Joined.{Start, length-numbers_with, length-symbols_with}
use Rattle.elf_write.proofs.Known.{numbers_at, same_numbers, symbols_found}
use Rattle.elf_write.proofs.Regions.{length-extended}
use Rattle.elf_write.proofs.SymbolWellFormed.{length-symbols}
use Rattle.elf_write.proofs.Links.{length-sections}

tables_end : (b secs : List ℕ) (t : ℕ) → Start b secs t → (f : Option ℕ) → index_table b ≡ f
    → end_of (symbols_place (elf_of b) + length (longer_symbols (elf_of b) secs)) (numbers_of (elf_of b) secs f)
    ≤ symbols_place (elf_of b) + 28 * (symbol_count b + length secs) + 7
tables_end b secs t x None e = (let l = length-symbols_with b secs t x in omega arith)
tables_end b secs t x (Some i) e =
    let l = length-symbols_with b secs t x in
    let n = length-numbers_with b secs t i x (numbers_at b x.well i e) in
    omega arith

-- the file, both tables, the headers and the gaps
extended_bound : (b secs : List ℕ) (t : ℕ) → Start b secs t
    → length (extended (elf_of b) secs) ≤ length b + 28 * (length (elf_of b).symbols + length secs) + 64 * length (elf_of b).sections + 21
extended_bound b secs t x =
    let l = length-extended b secs t x in
    let low = subst (λ (f : Option ℕ). end_of (symbols_place (elf_of b) + length (longer_symbols (elf_of b) secs)) (numbers_of (elf_of b) secs f) ≤ symbols_place (elf_of b) + 28 * (symbol_count b + length secs) + 7) (sym (same_numbers b)) (tables_end b secs t x (index_table b) refl) in
    let symbols = length-symbols b in
    let sections = length-sections b in
    omega arith

at_bytes : (b secs : List ℕ) → IsWellFormed b → (0 < length secs → 1 ≤ length (elf_of b).symbols)
    → length (symbols_inserted (elf_of b) secs) ≤ length b + 28 * (length (elf_of b).symbols + length secs) + 64 * length (elf_of b).sections + 21
at_bytes b [] w some = omega arith
at_bytes b (s ∷ secs) w some =
    let l = length-symbols b in
    let n = some (omega arith) in
    let f = symbols_found b w (omega arith) (symbol_table b) refl in
    extended_bound b (s ∷ secs) f.0 (record { well = w; some = omega arith; symbols = f.1 })

pub length-inserted : (b : List ℕ) (o : Elf) (secs : List ℕ) → IsObject b o → (0 < length secs → 1 ≤ length o.symbols)
    → length (symbols_inserted o secs) ≤ length b + 28 * (length o.symbols + length secs) + 64 * length o.sections + 21
length-inserted b o secs ok =
    subst (λ (x : Elf). (0 < length secs → 1 ≤ length x.symbols) → length (symbols_inserted x secs) ≤ length b + 28 * (length x.symbols + length secs) + 64 * length x.sections + 21) (sym ok.says)
    (at_bytes b secs ok.well_formed)

-- the bytes of the object
pub bytes-inserted : (o : Elf) (secs : List ℕ) → (object_with_symbols o secs).bytes ≡ symbols_inserted o secs
bytes-inserted o [] = refl
bytes-inserted o (s ∷ secs) = refl
