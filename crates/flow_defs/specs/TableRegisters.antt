-- Jumps to where a register points: `jmp *%rax`, or a jump to the thunk that stands for one. Where a compiler makes one of a
-- `switch`, instructions right before it take the address of its table, and relocations of these tell it.
--
-- Instructions are meant as they are decoded here, and the search stops at an IRET that goes on behind itself, at a system
-- call that comes back, and at a call that only pushes an address, as it does at any other.
use Rattle.std.specs.Prelude.{ℕ, ◌+◌, ◌-◌, ◌==◌, ◌&&◌, not, nat_le, nat_lt, Bool, true, false, pos, ◌+ℤ◌, List, filter, take, drop, reverse, slice_get, slice_index, position, Option, Some, None, option_and_then, if◌then◌else◌}
use Rattle.std.specs.List.{filter_map, flat_map, range_with_len, take_while}
use Rattle.std.specs.Option.{option_map_or}
use Rattle.ot_base.specs.declared.place.Place.{Place}
use Rattle.operation_defs.specs.declared.insn.Insn.{Insn}
use Rattle.operation_defs.specs.declared.op.Op.{Op}
use Rattle.operation_defs.specs.declared.op.Op.TheVariants.{Call, CallInd, Jmp, Jcc, JmpInd, Ret, RetImm, Switch, Iret}
use Rattle.x86_text.specs.declared.placed.PlacedInsn.{PlacedInsn}
use Rattle.x86_text.specs.Code.{Body, code_of}
use Rattle.elf_objects.specs.declared.symbol.Reloc.{Reloc}
use Rattle.elf_objects.specs.declared.TheConstants.{R_X86_64_32S, R_X86_64_PC32}
use Rattle.elf_objects.specs.Elf.{Elf}
use Rattle.elf_objects.specs.Contents.{relocs_at, section_at, symbol_at}
use Rattle.symbols_relocs.specs.Relocs.{at_offset}
use Rattle.symbols_relocs.specs.NamedPlaces.{offset_of, place_in, place_named}
use Rattle.symbols_relocs.specs.Parts.{owner_at}
use Rattle.symbols_relocs.specs.declared.target.Target.{Target}
use Rattle.symbols_relocs.specs.declared.target.Target.TheVariants.{ThunkIndirect}
use Rattle.symbols_relocs.specs.Targets.{branch_target}
use Rattle.special_sections.specs.declared.entries.AltEntry.{AltEntry}
use Rattle.alternatives.specs.Sites.{is_in_site}
use Rattle.alternatives.specs.declared.texts.SectionText.{SectionText}
use Rattle.flow_defs.specs.TableFields.{boundary_named, may_hold_tables, same_owner}

-- the bytes of a section from a place on
abbrev pub bytes_from : Elf → Place → List ℕ
bytes_from o place = drop place.off (section_at o place.sec).body

-- Whether the indirect jump FF /4 at a place is on a register: the mod of its ModRM byte, which follows FF, is 3. No prefix
-- is FF, so its first FF is the opcode.
abbrev pub is_on_register : Elf → Place → Bool
is_on_register o place = let bytes = bytes_from o place in option_map_or (λ at. nat_le 192 (slice_index bytes (at + 1))) (position (λ b. b == 255) bytes) false

abbrev pub is_thunk : Target → Bool
is_thunk ThunkIndirect = true
is_thunk _ = false

-- an instruction jumps to where a register points
abbrev pub jumps_to_register : Elf → Place → Insn → Op → Bool
jumps_to_register o place insn (JmpInd (Some table)) = false
jumps_to_register o place insn (JmpInd None) = is_on_register o place
jumps_to_register o place insn (Jmp rel wide) = wide && is_thunk (branch_target o place insn)
jumps_to_register o place insn _ = false

-- the search goes back no further: control leaves the code there, or comes back to it from elsewhere
abbrev pub ends_search : Op → Bool
ends_search (Call rel) = true
ends_search CallInd = true
ends_search (Jmp rel wide) = true
ends_search (Jcc rel wide) = true
ends_search (JmpInd table) = true
ends_search Ret = true
ends_search RetImm = true
ends_search Switch = true
ends_search Iret = true
ends_search _ = false

-- an instruction of a section is searched: it is one of the owner's in no site, and doesn't end the search
abbrev pub is_searched : Elf → List AltEntry → Option ℕ → ℕ → PlacedInsn → Bool
is_searched o entries owner sec p =
    let place : Place = record { sec = sec; off = p.off } in
    same_owner (owner_at o place) owner && not (is_in_site entries place) && not (ends_search p.insn.op)

-- the instructions of a body before an offset, the nearest first
abbrev pub insns_before : Body → ℕ → List PlacedInsn
insns_before body off = reverse (filter (λ p. nat_lt p.off off) (code_of body))

-- up to four of them that are searched
abbrev pub insns_searched : Elf → List AltEntry → Option ℕ → ℕ → Body → ℕ → List PlacedInsn
insns_searched o entries owner sec body off = take_while (is_searched o entries owner sec) (take 4 (insns_before body off))

-- the place that a relocation names, moved on by so many bytes
abbrev pub place_moved : Elf → Reloc → ℕ → Option Place
place_moved o r by = let s = symbol_at o r.sym in place_in s.home (offset_of (pos s.value +ℤ r.addend +ℤ pos by))

-- the address that an instruction takes by the relocation of a field: R_X86_64_32S holds it, and R_X86_64_PC32 its distance
-- from the instruction's end
abbrev pub address_taken : Elf → ℕ → Reloc → Option Place
address_taken o end r =
    if r.kind == R_X86_64_32S then place_named o r
    else if r.kind == R_X86_64_PC32 then place_moved o r (end - r.offset)
    else None

abbrev pub is_of_owner : Elf → Option ℕ → Option Place → Bool
is_of_owner o owner (Some place) = same_owner (owner_at o place) owner
is_of_owner o owner None = false

-- a table of an owner begins at a place: tables may stand there, and the first field names a boundary of the owner
abbrev pub begins_table : Elf → List SectionText → Option ℕ → Place → Bool
begins_table o texts owner place = may_hold_tables o place && is_of_owner o owner (boundary_named o texts place)

-- the table whose address is taken by a relocation
abbrev pub table_taken : Elf → List SectionText → Option ℕ → ℕ → Reloc → Option Place
table_taken o texts owner end r = option_and_then (λ place. if begins_table o texts owner place then Some place else None) (address_taken o end r)

-- those whose addresses an instruction of a section takes, by the relocations whose fields begin at each of its bytes
abbrev pub tables_taken : Elf → List SectionText → Option ℕ → ℕ → PlacedInsn → List Place
tables_taken o texts owner sec p =
    flat_map (λ off. filter_map (table_taken o texts owner (p.off + p.insn.len)) (at_offset off (relocs_at o sec))) (range_with_len p.off p.insn.len)

-- the first table whose address is taken by the instructions that are searched, the nearest first
abbrev pub table_before : Elf → List SectionText → List AltEntry → Option ℕ → ℕ → Body → ℕ → Option Place
table_before o texts entries owner sec body off =
    slice_get (flat_map (tables_taken o texts owner sec) (insns_searched o entries owner sec body off)) 0

-- of a jump of an owner, in no site
abbrev pub table_before_jump : Elf → List SectionText → List AltEntry → Body → Place → Option Place
table_before_jump o texts entries body place =
    if is_in_site entries place then None
    else option_and_then (λ owner. table_before o texts entries (Some owner) place.sec body place.off) (owner_at o place)

-- where the table begins of a jump to where a register points; None of any other instruction
abbrev pub register_table : Elf → List SectionText → List AltEntry → Body → Place → Insn → Option Place
register_table o texts entries body place insn =
    if jumps_to_register o place insn insn.op then table_before_jump o texts entries body place else None
