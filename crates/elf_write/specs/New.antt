-- What the clauses see of the sections that a caller hands over.
use Rattle.std.specs.Prelude.{List, map}
use Rattle.elf_write.specs.declared.section.NewSection.{NewSection}
use Rattle.elf_write.specs.declared.input.Input.{Input as Lent}
use Rattle.elf_write.specs.declared.header.Header.{Header}
use Rattle.elf_objects.specs.declared.header.SectionHeader.{SectionHeader}
use Rattle.elf_write.specs.Layout.{NewEntry, Input}

-- a section to add, as a record of lists
abbrev pub entry_of : NewSection → NewEntry
entry_of s = record {
  name = s.name.items;
  kind = s.kind;
  flags = s.flags;
  link = s.link;
  info = s.info;
  align = s.align;
  entsize = s.entsize;
  body = s.body.items;
}

abbrev pub entries : List NewSection → List NewEntry
entries new = map entry_of new

-- a section header of the code
abbrev pub header_fields : Header → SectionHeader
header_fields h = record {
  name = h.name;
  kind = h.kind;
  flags = h.flags;
  addr = h.addr;
  offset = h.offset;
  size = h.size;
  link = h.link;
  info = h.info;
  align = h.align;
  entsize = h.entsize;
}

-- what the code lends of the input
abbrev pub input_of : Lent → Input
input_of i = record { bytes = i.bytes.now; headers = i.headers.now; name_table = i.name_table; names = i.names.now }
