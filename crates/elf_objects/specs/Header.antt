-- Section headers, Elf64_Shdr.
use Rattle.std.specs.Prelude.{ℕ, ◌+◌, ◌==◌, ◌&&◌, not, Bool, List, bit_and}
use Rattle.elf_objects.specs.declared.header.SectionHeader.{SectionHeader}
use Rattle.elf_objects.specs.declared.TheConstants.{SHT_NULL, SHT_PROGBITS, SHT_NOBITS, SHF_EXECINSTR}
use Rattle.elf_objects.specs.Number.{word, xword}

-- the header in the 64 bytes from an offset
unfoldable pub header_at : List ℕ → ℕ → SectionHeader
header_at bytes at = record {
  name = word bytes at;
  kind = word bytes (at + 4);
  flags = xword bytes (at + 8);
  addr = xword bytes (at + 16);
  offset = xword bytes (at + 24);
  size = xword bytes (at + 32);
  link = word bytes (at + 40);
  info = word bytes (at + 44);
  align = xword bytes (at + 48);
  entsize = xword bytes (at + 56);
}

-- the header with nothing but zeros, which also stands for that of a section that is not there
abbrev pub null_header : SectionHeader
null_header = record {
  name = 0;
  kind = 0;
  flags = 0;
  addr = 0;
  offset = 0;
  size = 0;
  link = 0;
  info = 0;
  align = 0;
  entsize = 0;
}

-- the section has a body in the file
abbrev pub has_body : SectionHeader → Bool
has_body h = not (h.kind == SHT_NULL) && not (h.kind == SHT_NOBITS)

-- a text section has code: SHT_PROGBITS with SHF_EXECINSTR
abbrev pub is_text_header : SectionHeader → Bool
is_text_header h = (h.kind == SHT_PROGBITS) && not (bit_and h.flags SHF_EXECINSTR == 0)
