-- The tables that indirect jumps take their target from. Such a table is a list of addresses of 8 bytes in data that are
-- read-only or made so, and its address is told by the jump or by the code before it; in a relocatable object all of these
-- are relocations (x86-64 psABI, "Relocation").
use Rattle.std.specs.Prelude.{ℕ, ◌*◌, ◌==◌, ◌&&◌, ◌||◌, nat_lt, Bool, true, false, List, [], ◌∷◌, length, map, find, take_while, Option, Some, None, option_and_then, if◌then◌else◌}
use Rattle.std.specs.List.{filter_map, flat_map, list_any, range_with_len}
use Rattle.std.specs.Option.{option_or}
use Rattle.ot_base.specs.declared.place.Place.{Place}
use Rattle.ot_base.specs.Places.{same_place}
use Rattle.operation_defs.specs.declared.insn.Insn.{Insn}
use Rattle.operation_defs.specs.declared.op.Op.{Op}
use Rattle.operation_defs.specs.declared.op.Op.TheVariants.{JmpInd}
use Rattle.x86_text.specs.Code.{Body, code_of, insn_listed}
use Rattle.elf_objects.specs.Elf.{Elf}
use Rattle.elf_objects.specs.Contents.{relocs_at}
use Rattle.symbols_relocs.specs.Parts.{owner_at}
use Rattle.special_sections.specs.declared.entries.AltEntry.{AltEntry}
use Rattle.alternatives.specs.declared.point.Point.{Point}
use Rattle.alternatives.specs.declared.texts.SectionText.{SectionText}
use Rattle.flow_defs.specs.TableRegisters.{register_table}
pub use Rattle.flow_defs.specs.TableFields.{boundary_named, checked_behind, reloc_of_kind, same_owner, table_named}

-- an operation itself names the field that holds a table's address
abbrev pub names_table : Op → Bool
names_table (JmpInd (Some n)) = true
names_table _ = false

-- where the table begins that it names
abbrev pub field_table : Elf → Place → Op → Option Place
field_table o place (JmpInd (Some n)) = option_and_then (table_named o) (checked_behind place n)
field_table o place _ = None

-- where the table begins that an instruction of a body jumps by
abbrev pub table_by : Elf → List SectionText → List AltEntry → Body → Place → Insn → Option Place
table_by o texts entries body place insn = option_or (field_table o place insn.op) (register_table o texts entries body place insn)

-- where the tables begin of the jumps among a section's instructions
abbrev pub tables_among : Elf → List SectionText → List AltEntry → SectionText → List Place
tables_among o texts entries t = filter_map (λ p. table_by o texts entries t.text (record { sec = t.sec; off = p.off }) p.insn) (code_of t.text)

-- where the tables of all jumps begin
abbrev pub tables_of : Elf → List SectionText → List AltEntry → List Place
tables_of o texts entries = flat_map (tables_among o texts entries) texts

-- the table of a jump begins at a place
abbrev pub is_table : Elf → List SectionText → List AltEntry → Place → Bool
is_table o texts entries place = list_any (same_place place) (tables_of o texts entries)

-- entry i of the table that begins at a place: the boundary that its field names. There is none where i is above 0 and the
-- table of a jump begins at that field.
abbrev pub table_entry_at : Elf → List SectionText → List AltEntry → Place → ℕ → Option Place
table_entry_at o texts entries table i = option_and_then (λ field. if nat_lt 0 i && is_table o texts entries field then None else boundary_named o texts field) (checked_behind table (8 * i))

-- those up to the first that is none
abbrev pub up_to_none : List (Option Place) → List Place
up_to_none [] = []
up_to_none (None ∷ rest) = []
up_to_none (Some place ∷ rest) = place ∷ up_to_none rest

-- the entries of a table up to the first that is none. It has no more than its section has relocations, since each has one
-- of its own.
abbrev pub entries_of : Elf → List SectionText → List AltEntry → Place → List Place
entries_of o texts entries table = up_to_none (map (table_entry_at o texts entries table) (range_with_len 0 (length (relocs_at o table.sec))))

-- the entries of a table for an owner: those up to the first of another owner
abbrev pub entries_for : Elf → List SectionText → List AltEntry → Place → Option ℕ → List Place
entries_for o texts entries table owner = take_while (λ place. same_owner (owner_at o place) owner) (entries_of o texts entries table)

abbrev pub entries_by : Elf → List SectionText → List AltEntry → Option ℕ → Option Place → List Place
entries_by o texts entries owner (Some table) = entries_for o texts entries table owner
entries_by o texts entries owner None = []

-- where the table begins of the jump that an instruction of a point is; in a replacement only where the jump itself names it
abbrev pub start_by : Elf → List SectionText → List AltEntry → Body → Point → Insn → Option Place
start_by o texts entries body point insn =
    if point.variant == 0 || names_table insn.op then table_by o texts entries body point.place insn else None

-- where the table begins of the jump at a point
abbrev pub jump_table : Elf → List SectionText → List AltEntry → Point → Option Place
jump_table o texts entries point =
    option_and_then (λ t. option_and_then (start_by o texts entries t.text point) (insn_listed (code_of t.text) point.place.off))
    (find (λ t. t.sec == point.place.sec) texts)

-- the table of the jump at a point, for an owner; empty where none is recognised
abbrev pub table_of : Elf → List SectionText → List AltEntry → Point → Option ℕ → List Place
table_of o texts entries point owner = entries_by o texts entries owner (jump_table o texts entries point)
