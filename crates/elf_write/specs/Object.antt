-- Sections added to an object.
use Rattle.std.specs.Prelude.{ℕ, ◌+◌, ◌*◌, List, length, slice_range}
use Rattle.elf_objects.specs.Contents.{section_at}
use Rattle.elf_objects.specs.Elf.{Elf}
use Rattle.elf_write.specs.Layout.{NewEntry, Input, appended}

-- what the layout takes of an object
abbrev pub input_of_object : Elf → Input
input_of_object o = record {
  bytes = o.bytes;
  headers = slice_range o.bytes o.headers_at (o.headers_at + 64 * length o.sections);
  name_table = o.name_table;
  names = (section_at o o.name_table).body;
}

-- the file of the object with the new sections
abbrev pub appended_to : Elf → List NewEntry → List ℕ
appended_to o new = appended (input_of_object o) new
