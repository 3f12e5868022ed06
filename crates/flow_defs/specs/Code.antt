-- The code of an object: the texts of its sections, its alternatives, and its points by number.
use Rattle.std.specs.Prelude.{ℕ, ◌==◌, ◌&&◌, Bool, List, map, filter, length, get_or, position, Option, filter_map}
use Rattle.std.specs.List.{range_with_len}
use Rattle.ot_base.specs.declared.place.Place.{Place}
use Rattle.ot_base.specs.Places.{same_place}
use Rattle.elf_objects.specs.Elf.{Elf}
use Rattle.elf_objects.specs.Contents.{is_text, section_at}
use Rattle.x86_text.specs.Code.{Body, read_by}
use Rattle.special_sections.specs.declared.entries.AltEntry.{AltEntry}
use Rattle.special_sections.specs.Special.{special_of}
use Rattle.alternatives.specs.declared.texts.SectionText.{SectionText}
use Rattle.alternatives.specs.declared.point.Point.{Point}
use Rattle.alternatives.specs.Points.{points_of}
use Rattle.flow_defs.specs.Coded.{Coded}

-- the numbers of the text sections, ascending
abbrev pub text_numbers : Elf → List ℕ
text_numbers o = filter (λ i. is_text (section_at o i)) (range_with_len 0 (length o.sections))

-- the body of a section, read by the object's opcode map
abbrev pub body_of : Coded → ℕ → Body
body_of o i = read_by o.map (section_at o.elf i).body

-- the text sections with their bodies
unfoldable pub texts_of : Coded → List SectionText
texts_of o = map (λ i. record { sec = i; text = body_of o i }) (text_numbers o.elf)

-- the alternatives
abbrev pub alternatives_of : Coded → List AltEntry
alternatives_of o = (special_of o.elf).alternatives

-- the points, in the order of their places and then of their variants; a point's number is its index
unfoldable pub points_of_object : Coded → List Point
points_of_object o = points_of (texts_of o) (alternatives_of o)

-- where a number is that of no point
abbrev pub no_point : Point
no_point = record { place = record { sec = 0; off = 0 }; variant = 0 }

-- the point with a number
abbrev pub point_at : Coded → ℕ → Point
point_at o q = get_or (points_of_object o) q no_point

abbrev pub same_point : Point → Point → Bool
same_point a b = same_place a.place b.place && a.variant == b.variant

-- the number of a point
abbrev pub number_of : Coded → Point → Option ℕ
number_of o point = position (same_point point) (points_of_object o)

abbrev pub numbers_of : Coded → List Point → List ℕ
numbers_of o points = filter_map (number_of o) points

-- the plain point at a place: the instruction of the object's own code that begins there
abbrev pub plain_point : Place → Point
plain_point place = record { place = place; variant = 0 }

abbrev pub is_plain : Point → Bool
is_plain point = point.variant == 0
