-- The file of an object in which section symbols were inserted and to which sections were added.
use Rattle.std.specs.Prelude.{ℕ, ◌≡◌, ◌<◌, List, length, map}
use Rattle.elf_objects.specs.Contents.{relocs_at, section_at, symbol_at}
use Rattle.elf_objects.specs.Elf.{Elf}
use Rattle.elf_objects.specs.declared.TheConstants.{SHT_GROUP}
use Rattle.elf_objects.specs.declared.symbol.Reloc.{Reloc}
use Rattle.elf_objects.specs.Object.{IsObject}
use Rattle.elf_write.specs.Added.{CanAdd, object_with}
use Rattle.elf_write.specs.Layout.{NewEntry}
use Rattle.elf_write.specs.Object.{appended_to}
use Rattle.elf_write.specs.SymbolLayout.{locals, renumbered}
use Rattle.elf_write.specs.SymbolObject.{CanInsert, object_with_symbols}
use Rattle.elf_write.specs.Room.{AreBytes}

-- the new number of a symbol of the object
abbrev pub new_number : Elf → List ℕ → ℕ → ℕ
new_number o secs k = renumbered (locals o) (length secs) k

-- In p each symbol of o is there under its new number, and relocations and groups name it by this.
pub record NamesSame (o : Elf) (secs : List ℕ) (p : Elf) : Type 0 where
  pub symbols : (k : ℕ) → k < length o.symbols → symbol_at p (new_number o secs k) ≡ symbol_at o k
  pub relocs : (i : ℕ) → relocs_at p i ≡ map (λ (r : Reloc). record r { sym = new_number o secs r.sym }) (relocs_at o i)
  pub groups :
      (i : ℕ)
      → i < length o.sections
      → (section_at o i).kind ≡ SHT_GROUP
      → (section_at p i).info ≡ new_number o secs (section_at o i).info

-- `out` is the object o with a section symbol inserted for each of the sections `secs`, and then the sections `new` added:
-- byte for byte, and as it is read; and each relocation and group of o names the same symbol as before.
pub record IsAdded (o : Elf) (secs : List ℕ) (new : List NewEntry) (out : List ℕ) : Type 0 where
  pub layout : out ≡ appended_to (object_with_symbols o secs) new
  pub object : IsObject out (object_with (object_with_symbols o secs) new)
  pub same : NamesSame o secs (object_with_symbols o secs)

-- what the two calls after one another give
abbrev pub CallsAdd : Type 0
CallsAdd =
    (b : List ℕ) (o : Elf) (secs : List ℕ) (new : List NewEntry)
    → AreBytes b
    → IsObject b o
    → CanInsert o secs
    → CanAdd (object_with_symbols o secs) new
    → IsAdded o secs new (appended_to (object_with_symbols o secs) new)
