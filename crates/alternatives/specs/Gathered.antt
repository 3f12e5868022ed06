-- The points of an object as they are gathered: the plain ones by place, with those of replacements set among them.
use Rattle.std.specs.Prelude.{◌≡◌, ℕ, ◌+◌, ◌==◌, not, Bool, List, [], ◌∷◌, map, filter, Option, Some, slice_get, if◌then◌else◌}
use Rattle.std.specs.List.{range_with_len, flat_map}
use Rattle.ot_base.specs.Places.{is_before}
use Rattle.operation_defs.specs.declared.insn.Insn.{Insn}
use Rattle.special_sections.specs.declared.entries.AltEntry.{AltEntry}
use Rattle.x86_text.specs.declared.placed.PlacedInsn.{PlacedInsn}
use Rattle.x86_text.specs.Code.{code_of, insns_of}
use Rattle.alternatives.specs.declared.texts.SectionText.{SectionText}
use Rattle.alternatives.specs.declared.point.Point.{Point}
use Rattle.alternatives.specs.declared.points.Listed.{Listed}
use Rattle.alternatives.specs.Texts.{behind}
use Rattle.alternatives.specs.Originals.{entry_at, counted}
use Rattle.alternatives.specs.Points.{is_point}

-- the point of an instruction of a section's text
abbrev pub plain_at : ℕ → PlacedInsn → Point
plain_at sec p = record { place = record { sec = sec; off = p.off }; variant = 0 }

-- the points of a text section
abbrev pub plain_of : SectionText → List Point
plain_of t = map (plain_at t.sec) (code_of t.text)

-- so many bytes behind the start of the replacement of an entry
abbrev pub replaced_at : List AltEntry → ℕ → ℕ → Point
replaced_at entries k distance = record { place = behind (entry_at entries k).replacement distance; variant = k + 1 }

-- the points of the replacement of an entry
abbrev pub replaced_of : List SectionText → List AltEntry → ℕ → List Point
replaced_of texts entries k = filter (is_point texts entries) (map (replaced_at entries k) (range_with_len 0 ((entry_at entries k).replacement_len + 1)))

-- the points of the code as it is assembled, by place
abbrev pub plain_points : List SectionText → List Point
plain_points texts = flat_map plain_of texts

-- the points of all replacements, by variant
abbrev pub replacement_points : List SectionText → List AltEntry → List Point
replacement_points texts entries = flat_map (replaced_of texts entries) (counted entries)

-- other points, with a plain one before the first of them that isn't at a lower place
abbrev pub woven_at : Point → (List Point → List Point) → List Point → List Point
woven_at p behind_it [] = p ∷ behind_it []
woven_at p behind_it (r ∷ others) = if is_before r.place p.place then r ∷ woven_at p behind_it others else p ∷ behind_it (r ∷ others)

-- plain points with others among them: each other one before the first plain one that is at a higher place
abbrev pub woven : List Point → List Point → List Point
woven [] others = others
woven (p ∷ plain) others = woven_at p (woven plain) others

-- a point of the code as it is assembled, and one of a replacement
abbrev pub is_plain : Point → Bool
is_plain p = p.variant == 0

abbrev pub is_replaced : Point → Bool
is_replaced p = not (is_plain p)

-- the instructions of texts, in their order
abbrev pub plain_insns : List SectionText → List Insn
plain_insns texts = flat_map (λ t. insns_of t.text) texts

-- instructions are those that are told of points
abbrev pub AreTold : (Point → Option Insn) → List Point → List Insn → Type 0
AreTold told points insns = map (λ insn. Some insn) insns ≡ map told points

-- the instructions of listed points are those that are told of them
abbrev pub HaveInsns : (Point → Option Insn) → Listed → Type 0
HaveInsns told listed = AreTold told listed.points.items listed.insns

-- of the points of a text section, its instructions are told
abbrev pub TellsPlain : (Point → Option Insn) → SectionText → Type 0
TellsPlain told t = (i : ℕ) (p : PlacedInsn) → slice_get (code_of t.text) i ≡ Some p → told (plain_at t.sec p) ≡ Some p.insn
