-- What worked objects are made of, and what is asked of their programs.
use Rattle.std.specs.Prelude.{ℕ, ◌+◌, Bool, List, [], ◌∷◌, None, map, pos, replicate}
use Rattle.elf_objects.specs.declared.symbol.Home.TheVariants as homes
use Rattle.elf_objects.specs.declared.symbol.Reloc.{Reloc}
use Rattle.elf_objects.specs.Elf.{SectionEntry, SymbolEntry}
use Rattle.flow_defs.specs.Coded.{Coded, coded_by}
use Rattle.x86_map.specs.declared.map.Map.TheVariants.{Base}
use Rattle.elf_objects.specs.Contents.{no_section, no_symbol}
use Rattle.machine_defs.specs.declared.flow.Edge.{Edge}
use Rattle.machine_defs.specs.declared.flow.Role.{Role}
use Rattle.machine_defs.specs.declared.flow.Marks.{Marks}
use Rattle.machine_defs.specs.Program.{Program, below}

-- a section of code, and one of data
abbrev pub code_section : List ℕ → ℕ → List ℕ → SectionEntry
code_section name size body = record no_section { name = name; kind = 1; flags = 6; size = size; body = body }

abbrev pub data_section : List ℕ → ℕ → List ℕ → SectionEntry
data_section name size body = record no_section { name = name; kind = 1; flags = 2; size = size; body = body }

-- a symbol for a section, one of a function, and one that is defined elsewhere
abbrev pub for_section : ℕ → SymbolEntry
for_section i = record no_symbol { kind = 3; home = homes.Section i }

abbrev pub function_symbol : List ℕ → ℕ → ℕ → ℕ → SymbolEntry
function_symbol name sec value size = record no_symbol { name = name; bind = 1; kind = 2; home = homes.Section sec; value = value; size = size }

abbrev pub outside : List ℕ → SymbolEntry
outside name = record no_symbol { name = name; bind = 1 }

abbrev pub reloc : ℕ → ℕ → ℕ → ℕ → Reloc
reloc offset kind sym addend = record { offset = offset; kind = kind; sym = sym; addend = pos addend }

-- read by the base map
abbrev pub object : List SectionEntry → List SymbolEntry → List (List Reloc) → Coded
object sections symbols relocs = coded_by Base (record { bytes = []; headers_at = 0; name_table = 0; sections = no_section ∷ sections; symbol_table = None; symbols = no_symbol ∷ symbols; relocs = [] ∷ relocs })

-- what the points of a program have, by number
abbrev pub edges_of_points : Program → List (List Edge)
edges_of_points p = map p.goes (below p.count)

abbrev pub roles_of_points : Program → List Role
roles_of_points p = map p.role (below p.count)

abbrev pub marks_of_points : Program → List Marks
marks_of_points p = map p.marks (below p.count)

abbrev pub returning_points : Program → List Bool
returning_points p = map p.may_return (below p.count)

-- where the parts of an entry are put by relocations, at an offset and 4 bytes behind it
abbrev pub pair_at : ℕ → ℕ → ℕ → ℕ → ℕ → List Reloc
pair_at offset sym addend other_sym other_addend = reloc offset 2 sym addend ∷ reloc (offset + 4) 2 other_sym other_addend ∷ []

abbrev pub zeros : ℕ → List ℕ
zeros n = replicate n 0
