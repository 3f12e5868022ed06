-- A section that has a section symbol already.
use Rattle.std.specs.Prelude.{ℕ, ◌≡◌, ◌⊎◌, ◌<◌, List, All, Some, None, length, slice_index}
use Rattle.elf_objects.specs.Contents.{section_symbol_of}
use Rattle.elf_objects.specs.Elf.{Elf}
use Rattle.elf_write.specs.declared.fault.SymFault.{SymFault}
use Rattle.elf_write.specs.declared.fault.SymFault.TheVariants.{HasOne, NoMemory}

-- no symbol stands for any of these sections
abbrev pub AreFree : Elf → List ℕ → Type 0
AreFree o secs = All (λ s. section_symbol_of o s ≡ None) secs

-- the fault names the first of these sections for which a symbol stands, and the first such symbol
pub record IsTaken (o : Elf) (secs : List ℕ) (e : SymFault) : Type 0 where
  pub index : ℕ
  pub inside : index < length secs
  pub before : (k : ℕ) → k < index → section_symbol_of o (slice_index secs k) ≡ None
  pub sym : ℕ
  pub stands : section_symbol_of o (slice_index secs index) ≡ Some sym
  pub is : e ≡ HasOne (slice_index secs index) sym

-- why no symbol is inserted
abbrev pub Refuses : Elf → List ℕ → SymFault → Type 0
Refuses o secs e = (e ≡ NoMemory) ⊎ IsTaken o secs e
