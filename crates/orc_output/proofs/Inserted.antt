-- What the object with section symbols keeps.
use Rattle.std.proofs.Common.{◌≡◌, ℕ, ◌≤◌, true, eqb, List, [], ◌∷◌, length, sym, ap, subst, arith}
use Rattle.std.specs.Prelude.{All}
use Rattle.std.proofs.lemmas.Bool.{eqb-true}
use Rattle.std.proofs.lemmas.List.Elements.{All-map, All-nil, All-weaker}
use Rattle.ot_base.specs.declared.row.PlacedRow.{PlacedRow}
use Rattle.elf_objects.specs.Elf.{Elf, SectionEntry}
use Rattle.elf_objects.specs.Object.{IsObject}
use Rattle.elf_write.specs.Added.{IsAddable}
use Rattle.elf_write.specs.AddedSymbols.{IsAdded}
use Rattle.elf_write.specs.Layout.{NewEntry}
use Rattle.elf_write.specs.Object.{appended_to}
use Rattle.elf_write.specs.Room.{AreBytes}
use Rattle.elf_write.specs.SymbolLayout.{symbols_inserted}
use Rattle.elf_write.specs.SymbolObject.{CanInsert, object_with_symbols, section_with}
use Rattle.elf_write.proofs.Same.{added, same_object}
use Rattle.orc_output.specs.Needed.{needed_symbols}
use Rattle.orc_output.specs.Tables.{with_symbols}
use Rattle.orc_output.proofs.FileBound.{bytes-inserted}
use Rattle.orc_output.proofs.Insertable.{HasRoom, can_insert, inserted_bound}
use Rattle.orc_output.proofs.RowPlaces.{name_stays, sections_stay}

pub short_bytes : (o : Elf) (secs : List ℕ) → length (symbols_inserted o secs) ≤ 268435456 → length (object_with_symbols o secs).bytes ≤ 268435456
short_bytes o secs short = omega (arith, ap length (bytes-inserted o secs))

-- the file with the symbols alone
abbrev pub no_more : List NewEntry
no_more = []

pub inserted : (o : Elf) (secs : List ℕ) → AreBytes o.bytes → IsObject o.bytes o → CanInsert o secs → length (symbols_inserted o secs) ≤ 268435456 → length o.sections ≤ 262144
    → IsAdded o secs no_more (appended_to (object_with_symbols o secs) no_more)
inserted o secs bytes object can short few =
    let sections = sections_stay o secs in
    let size = short_bytes o secs short in
    added o.bytes o secs no_more bytes object can (record {
      few = omega arith;
      size = omega arith;
      each = All-nil (IsAddable (object_with_symbols o secs) no_more);
      apart = λ i j d lt inside. absurd (omega arith);
    })

-- the section symbols that rows need
pub symbols_added : (o : Elf) (rows : List PlacedRow) → HasRoom o rows → IsAdded o (needed_symbols o rows) no_more (appended_to (with_symbols o rows) no_more)
symbols_added o rows room = inserted o (needed_symbols o rows) room.bytes room.object (can_insert o rows room) (inserted_bound o rows room) room.sections

-- what depends on the names of the sections alone
pub names_stay : (P : SectionEntry → Type 0) → ((s t : SectionEntry) → t.name ≡ s.name → P s → P t) → (o : Elf) (secs : List ℕ) → All P o.sections
    → All P (object_with_symbols o secs).sections
names_stay P by_name o [] all = all
names_stay P by_name o (sec ∷ secs) all =
    All-map P (section_with o (sec ∷ secs)) o.sections
    (All-weaker P (λ s. P (section_with o (sec ∷ secs) s)) (λ s is. by_name s (section_with o (sec ∷ secs) s) (name_stays o (sec ∷ secs) s) is) o.sections all)

-- where no section needs a symbol it is the object itself
pub nothing_needed : (o : Elf) (secs needed : List ℕ) → true ≡ eqb (length secs) 0 → secs ≡ needed → o ≡ object_with_symbols o needed
nothing_needed o [] needed none e = ap (object_with_symbols o) e
nothing_needed o (sec ∷ secs) needed none e = absurd (let zero = eqb-true (length (sec ∷ secs)) 0 (sym none) in omega arith)

-- What is read of the file with the section symbols is the object with them.
pub read_is : (o : Elf) (needed secs file bytes : List ℕ) (p : Elf) → secs ≡ needed → IsObject file (object_with_symbols o secs)
    → bytes ≡ file → IsObject bytes p → p ≡ object_with_symbols o needed
read_is o needed secs file bytes p is made same read =
    same_object bytes p (object_with_symbols o needed) read
    (subst (λ (b : List ℕ). IsObject b (object_with_symbols o needed)) (sym same) (subst (λ (xs : List ℕ). IsObject file (object_with_symbols o xs)) is made))
