-- Where the code of an object may be cut: at boundaries, and at the end of a section.
use Rattle.std.specs.Prelude.{ℕ, ◌+◌, ◌<◌, ◌≤◌, ◌==◌, ◌||◌, ◌&&◌, Bool, List, length, slice_index_or, All, find, Option, is_some, option_and_then}
use Rattle.std.specs.List.{list_any, sum_by}
use Rattle.ot_base.specs.declared.place.Place.{Place}
use Rattle.operation_defs.specs.declared.insn.Insn.{Insn}
use Rattle.x86_text.specs.Code.{Body, code_of, insn_listed}
use Rattle.alternatives.specs.declared.texts.SectionText.{SectionText}

-- each section has one text at most, and they ascend by section
abbrev pub AscendBySection : List SectionText → Type 0
AscendBySection texts = (i j : ℕ) (d : SectionText) → i < j → j < length texts → (slice_index_or texts i d).sec < (slice_index_or texts j d).sec

-- no text is longer than one that is read
abbrev pub AreShort : List SectionText → Type 0
AreShort texts = All (λ t. length t.text.bytes ≤ 16777216) texts

-- how many bytes they have together
abbrev pub text_bytes : List SectionText → ℕ
text_bytes texts = sum_by (λ t. length t.text.bytes) texts

-- the instruction that begins at a place of a text section
abbrev pub insn_at : List SectionText → Place → Option Insn
insn_at texts place = option_and_then (λ t. insn_listed (code_of t.text) place.off) (find (λ t. t.sec == place.sec) texts)

-- a boundary: an instruction begins there
abbrev pub is_boundary : List SectionText → Place → Bool
is_boundary texts place = is_some (insn_at texts place)

-- an instruction of a body of code begins at the offset, or the body ends there
abbrev pub is_cut_of : Body → ℕ → Bool
is_cut_of body off = off == length body.bytes || is_some (insn_listed (code_of body) off)

-- a place is a boundary of a text section, or that section's size
abbrev pub is_cut : List SectionText → Place → Bool
is_cut texts place = list_any (λ t. t.sec == place.sec && is_cut_of t.text place.off) texts

-- the place so many bytes behind another
abbrev pub behind : Place → ℕ → Place
behind place n = record { sec = place.sec; off = place.off + n }

-- so many bytes from a place on begin and end at such places
abbrev pub is_whole : List SectionText → Place → ℕ → Bool
is_whole texts place len = is_cut texts place && is_cut texts (behind place len)
