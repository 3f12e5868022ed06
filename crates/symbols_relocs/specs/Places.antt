-- Places, and their order.
use Rattle.std.specs.Prelude.{ℕ, ◌-◌, ◌&&◌, nat_lt, Bool, false}
use Rattle.ot_base.specs.declared.place.Place.{Place}
use Rattle.elf_objects.specs.declared.symbol.Home.{Home}
use Rattle.elf_objects.specs.declared.symbol.Home.TheVariants as homes
use Rattle.elf_objects.specs.Elf.{Elf}
use Rattle.elf_objects.specs.Contents.{is_text, section_at}

-- the place in the same section so many bytes earlier
abbrev pub earlier : Place → ℕ → Place
earlier place bytes = record { sec = place.sec; off = place.off - bytes }

-- the place is in a text section, below its size
abbrev pub is_in_text : Elf → Place → Bool
is_in_text o place = is_text (section_at o place.sec) && nat_lt place.off (section_at o place.sec).size

-- a symbol with this home is defined in a text section
abbrev pub is_text_home : Elf → Home → Bool
is_text_home o (homes.Section i) = is_text (section_at o i)
is_text_home o homes.Undefined = false
is_text_home o homes.Absolute = false
is_text_home o homes.Common = false

-- the section with this home's index; 0, which is none, where there is no section
abbrev pub home_section : Home → ℕ
home_section (homes.Section i) = i
home_section homes.Undefined = 0
home_section homes.Absolute = 0
home_section homes.Common = 0
