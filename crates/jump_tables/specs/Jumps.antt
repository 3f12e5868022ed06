-- The jumps by a table of an object's text sections.
use Rattle.std.specs.Prelude.{◌≡◌, ◌<◌, ◌≤◌, ℕ, false, List, find, length, slice_index_or, Option, option_map}
use Rattle.std.specs.List.{filter_map, flat_map}
use Rattle.ot_base.specs.declared.place.Place.{Place}
use Rattle.ot_base.specs.Places.{is_before, same_place}
use Rattle.operation_defs.specs.declared.insn.Insn.{Insn}
use Rattle.x86_text.specs.declared.placed.PlacedInsn.{PlacedInsn}
use Rattle.x86_text.specs.Code.{Body, code_of}
use Rattle.elf_objects.specs.Elf.{Elf}
use Rattle.special_sections.specs.declared.entries.AltEntry.{AltEntry}
use Rattle.alternatives.specs.declared.texts.SectionText.{SectionText}
use Rattle.jump_tables.specs.declared.jump.Jump.{Jump}
use Rattle.flow_defs.specs.Tables.{names_table, table_by}

-- the jump by a table that an instruction of a body is
abbrev pub jump_by : Elf → List SectionText → List AltEntry → Body → Place → Insn → Option Jump
jump_by o texts entries body place insn =
    option_map (λ table. record { place = place; table = table; named = names_table insn.op }) (table_by o texts entries body place insn)

-- those among some instructions of a body
abbrev pub jumps_among : Elf → List SectionText → List AltEntry → Body → ℕ → List PlacedInsn → List Jump
jumps_among o texts entries body sec code = filter_map (λ p. jump_by o texts entries body (record { sec = sec; off = p.off }) p.insn) code

-- those of some text sections
abbrev pub jumps_in : Elf → List SectionText → List AltEntry → List SectionText → List Jump
jumps_in o texts entries list = flat_map (λ t. jumps_among o texts entries t.text t.sec (code_of t.text)) list

-- those of all
abbrev pub jumps_of : Elf → List SectionText → List AltEntry → List Jump
jumps_of o texts entries = jumps_in o texts entries texts

-- the first of these at a place
abbrev pub jump_among : List Jump → Place → Option Jump
jump_among jumps place = find (λ j. same_place j.place place) jumps

-- each instruction begins behind those in front of it
abbrev pub IsAscending : List PlacedInsn → Type 0
IsAscending code = (i j : ℕ) (d : PlacedInsn) → i < j → j < length code → (slice_index_or code i d).off < (slice_index_or code j d).off

-- no jump is before one that stands in front of it
abbrev pub AreByJump : List Jump → Type 0
AreByJump jumps = (i j : ℕ) (d : Jump) → i ≤ j → j < length jumps → is_before (slice_index_or jumps j d).place (slice_index_or jumps i d).place ≡ false

-- the same jumps come first at each place
pub record HaveSameJumps (jumps sorted : List Jump) : Type 0 where
  pub same : (place : Place) → jump_among sorted place ≡ jump_among jumps place
