-- What an object says that the entry rules look at.
use Rattle.std.specs.Prelude.{ℕ, ◌&&◌, ◌||◌, not, nat_lt, Bool, List, [], ◌∷◌, ◌++◌, length, take, bytes_eq, codes}
use Rattle.std.specs.List.{list_any}
use Rattle.elf_objects.specs.Elf.{SectionEntry}
use Rattle.elf_objects.specs.Contents.{is_text, section_at}
use Rattle.flow_defs.specs.Code.{point_at}
use Rattle.flow_defs.specs.Coded.{Coded}
use Rattle.entry_rules.specs.Facts.{EntryFacts}
use Rattle.taken_places.specs.Taken.{is_excused, is_taken}

-- the names of sections whose code isn't instrumented
abbrev pub noinstr_names : List (List ℕ)
noinstr_names = codes ".noinstr.text" ∷ codes ".entry.text" ∷ codes ".cpuidle.text" ∷ []

-- a name begins with a prefix, and is longer
abbrev pub is_part : List ℕ → List ℕ → Bool
is_part name prefix = bytes_eq (take (length prefix) name) prefix && nat_lt (length prefix) (length name)

-- the name, or the name, a dot and more
abbrev pub is_name_or_part : List ℕ → List ℕ → Bool
is_name_or_part name base = bytes_eq name base || is_part name (base ++ codes ".")

abbrev pub is_noinstr_section : SectionEntry → Bool
is_noinstr_section s = is_text s && list_any (is_name_or_part s.name) noinstr_names

unfoldable pub facts_of : Coded → EntryFacts
facts_of o = record {
  noinstr = λ sec. is_noinstr_section (section_at o.elf sec);
  taken = λ q. is_taken o (point_at o q).place && not (is_excused o.elf (point_at o q).place);
}
