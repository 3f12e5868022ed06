-- The text sections of an object.
use Rattle.std.specs.Prelude.{ℕ, List, map, filter}
use Rattle.std.specs.List.{enumerate_from}
use Rattle.ot_base.specs.Section.{TextSection}
use Rattle.elf_objects.specs.Contents.{is_text}
use Rattle.elf_objects.specs.Elf.{Elf, SectionEntry}

-- each with its number, ascending
abbrev pub text_sections : Elf → List (ℕ × SectionEntry)
text_sections o = filter (λ e. is_text e.1) (enumerate_from 0 o.sections)

-- their numbers and sizes
abbrev pub texts_of : Elf → List TextSection
texts_of o = map (λ e. record { sec = e.0; size = e.1.size }) (text_sections o)
