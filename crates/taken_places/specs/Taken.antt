-- The places in an object whose addresses are taken: those that its relocations name, but for the operands of calls and branches and
-- for the tables that tell of code (x86-64 psABI, "Relocation"; Linux 6.6, tools/objtool/check.c, `validate_ibt`).
use Rattle.std.specs.Prelude.{ℕ, ℤ, pos, ◌+ℤ◌, ◌+◌, ◌-◌, ◌==◌, ◌&&◌, ◌||◌, not, nat_le, nat_lt, Bool, true, false, List, [], ◌∷◌, filter, filter_map, flat_map, find, length, drop, Option, Some, None, bytes_eq, codes, if◌then◌else◌}
use Rattle.std.specs.List.{list_any, range_with_len}
use Rattle.ot_base.specs.declared.place.Place.{Place}
use Rattle.ot_base.specs.Places.{same_place}
use Rattle.operation_defs.specs.declared.op.Op.{Op}
use Rattle.operation_defs.specs.declared.op.Op.TheVariants.{Call, CallInd, Jcc, Jmp, JmpInd, Nop, Ret, RetImm}
use Rattle.elf_objects.specs.declared.symbol.Reloc.{Reloc}
use Rattle.elf_objects.specs.Elf.{Elf, SectionEntry}
use Rattle.elf_objects.specs.Contents.{is_text, relocs_at, section_at, symbol_at}
use Rattle.elf_objects.specs.declared.TheConstants.{STB_GLOBAL}
use Rattle.x86_text.specs.declared.placed.PlacedInsn.{PlacedInsn}
use Rattle.x86_text.specs.Code.{code_of}
use Rattle.symbols_relocs.specs.NamedPlaces.{offset_of, place_in, place_named}
use Rattle.symbols_relocs.specs.Relocs.{is_pointer_kind}
use Rattle.symbols_relocs.specs.Targets.{is_branch_kind}
use Rattle.flow_defs.specs.Code.{body_of}
use Rattle.flow_defs.specs.Coded.{Coded}
use Rattle.flow_defs.specs.TableFields.{begins_with}

-- ---- the sections whose relocations may take addresses

-- The names of sections that tell of code: tables by which a kernel patches it, lists of sites, and tables in which it looks code up by
-- its address.
abbrev pub patch_names : List (List ℕ)
patch_names =
    codes ".altinstructions" ∷ codes ".parainstructions" ∷ codes ".smp_locks" ∷ codes "__jump_table" ∷ codes "__mcount_loc" ∷ []

abbrev pub site_names : List (List ℕ)
site_names =
    codes ".retpoline_sites" ∷ codes ".return_sites" ∷ codes ".call_sites" ∷ codes ".static_call_sites" ∷ codes ".ibt_endbr_seal"
    ∷ codes ".cfi_sites" ∷ []

abbrev pub lookup_names : List (List ℕ)
lookup_names =
    codes ".orc_unwind_ip" ∷ codes ".eh_frame" ∷ codes "__ex_table" ∷ codes "__bug_table" ∷ codes ".kcfi_traps"
    ∷ codes "_error_injection_whitelist" ∷ codes "_kprobe_blacklist" ∷ []

abbrev pub is_one_of : List ℕ → List (List ℕ) → Bool
is_one_of name names = list_any (bytes_eq name) names

-- the text stands somewhere in the name
abbrev pub has_text : List ℕ → List ℕ → Bool
has_text text name = list_any (λ i. begins_with (drop i name) text) (range_with_len 0 (length name))

-- the list of entries that keep their ENDBR is thrown away as others are, and yet takes their addresses
abbrev pub is_discarded : List ℕ → Bool
is_discarded name = begins_with name (codes ".discard") && not (bytes_eq name (codes ".discard.ibt_endbr_noseal"))

abbrev pub tells_of_code : List ℕ → Bool
tells_of_code name =
    is_discarded name
    || (begins_with name (codes ".debug")
    || (is_one_of name patch_names
    || (is_one_of name site_names || (is_one_of name lookup_names || has_text (codes "__patchable_function_entries") name))))

-- a text section, whatever its name, and any other whose name isn't one of those
abbrev pub may_take : SectionEntry → Bool
may_take s = is_text s || not (tells_of_code s.name)

abbrev pub may_take_at : Elf → ℕ → Bool
may_take_at o sec = may_take (section_at o sec)

-- ---- the place whose address a relocation takes

-- It takes the symbol's own address, from the global offset table: R_X86_64_GOTPCREL, R_X86_64_GOTPCRELX, R_X86_64_REX_GOTPCRELX.
abbrev pub is_table_kind : ℕ → Bool
is_table_kind kind = kind == 9 || (kind == 41 || kind == 42)

-- the place so far from the one that a symbol stands at
abbrev pub place_from : Elf → ℕ → ℤ → Option Place
place_from o sym distance = let s = symbol_at o sym in place_in s.home (offset_of (pos s.value +ℤ distance))

-- the place whose address a relocation of data takes; R_X86_64_NONE takes none
abbrev pub address_in_data : Elf → Reloc → Option Place
address_in_data o r =
    if r.kind == 0 then None
    else if is_table_kind r.kind then place_from o r.sym (pos 0)
    else place_named o r

-- the instruction has the byte at an offset
abbrev pub has_byte : ℕ → PlacedInsn → Bool
has_byte off p = nat_le p.off off && nat_lt off (p.off + p.insn.len)

-- What stands in such an instruction takes no address: a call, a jump, a return, or a no-op.
abbrev pub takes_none : Op → Bool
takes_none (Call rel) = true
takes_none CallInd = true
takes_none (Jmp rel wide) = true
takes_none (Jcc rel wide) = true
takes_none (JmpInd table) = true
takes_none Ret = true
takes_none RetImm = true
takes_none Nop = true
takes_none _ = false

-- Of type R_X86_64_PC32 and R_X86_64_PLT32 it counts from the end of its instruction, without which it names no place.
abbrev pub address_by : Elf → Reloc → Option PlacedInsn → Option Place
address_by o r None = if is_branch_kind r.kind then None else address_in_data o r
address_by o r (Some p) =
    if takes_none p.insn.op then None
    else if is_branch_kind r.kind then place_from o r.sym (r.addend +ℤ pos (p.off + p.insn.len - r.offset))
    else address_in_data o r

-- the trampoline of a static call
abbrev pub is_trampoline : Elf → ℕ → Bool
is_trampoline o sym = (symbol_at o sym).bind == STB_GLOBAL && begins_with (symbol_at o sym).name (codes "__SCT__")

-- the place whose address a relocation of code takes
abbrev pub address_in_code : Elf → List PlacedInsn → Reloc → Option Place
address_in_code o code r = if is_trampoline o r.sym then None else address_by o r (find (has_byte r.offset) code)

-- and one of a section
abbrev pub address_taken : Coded → ℕ → Reloc → Option Place
address_taken o sec r =
    if is_text (section_at o.elf sec) then address_in_code o.elf (code_of (body_of o sec)) r
    else address_in_data o.elf r

-- ---- the places

-- those whose addresses the relocations of a section take
abbrev pub taken_in : Coded → ℕ → List Place
taken_in o sec = if may_take_at o.elf sec then filter_map (address_taken o sec) (relocs_at o.elf sec) else []

-- the places whose addresses are taken: those that the relocations of any section take
unfoldable pub taken_places : Coded → List Place
taken_places o = flat_map (taken_in o) (range_with_len 0 (length o.elf.sections))

-- the address of a place is taken
abbrev pub is_taken : Coded → Place → Bool
is_taken o place = list_any (same_place place) (taken_places o)

-- the place that a relocation names which puts a place into its field
abbrev pub pointed_at : Elf → Reloc → Option Place
pointed_at o r = if is_pointer_kind r.kind then place_named o r else None

-- The places that the object marks as going without an ENDBR though their addresses are taken: those that the relocations of the
-- sections `.discard.noendbr` name.
abbrev pub is_excusing : Elf → ℕ → Bool
is_excusing o sec = bytes_eq (section_at o sec).name (codes ".discard.noendbr")

abbrev pub excused_in : Elf → ℕ → List Place
excused_in o sec = filter_map (pointed_at o) (relocs_at o sec)

unfoldable pub excused_places : Elf → List Place
excused_places o = flat_map (excused_in o) (filter (is_excusing o) (range_with_len 0 (length o.sections)))

abbrev pub is_excused : Elf → Place → Bool
is_excused o place = list_any (same_place place) (excused_places o)
