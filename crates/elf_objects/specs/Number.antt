-- The numbers of the ELF-64 data types, little-endian, at an offset of the bytes.
use Rattle.std.specs.Prelude.{ℕ, List, drop}
use Rattle.byteorder.specs.Endian.{little_number}

-- Elf64_Half
unfoldable pub half : List ℕ → ℕ → ℕ
half bytes at = little_number 2 (drop at bytes)

-- Elf64_Word
unfoldable pub word : List ℕ → ℕ → ℕ
word bytes at = little_number 4 (drop at bytes)

-- Elf64_Xword, Elf64_Addr and Elf64_Off
unfoldable pub xword : List ℕ → ℕ → ℕ
xword bytes at = little_number 8 (drop at bytes)
