-- The places of an object's own code that site lists name.
use Rattle.std.specs.Prelude.{◌≡◌, ℕ, ◌≤◌, ◌++◌, ◌&&◌, ◌||◌, nat_lt, not, Bool, true, false, All, List, Option, Some, None, is_some, bytes_eq, codes, slice_get, map, filter, flat_map, length, ◌==◌, if◌then◌else◌}
use Rattle.std.specs.List.{list_any}
use Rattle.ot_base.specs.declared.place.Place.{Place}
use Rattle.ot_base.specs.Places.{same_place}
use Rattle.operation_defs.specs.declared.insn.Insn.{Insn}
use Rattle.operation_defs.specs.declared.op.Op.{Op}
use Rattle.operation_defs.specs.declared.op.Op.TheVariants as ops
use Rattle.elf_objects.specs.declared.symbol.Reloc.{Reloc}
use Rattle.elf_objects.specs.Contents.{is_text, section_at, symbol_at}
use Rattle.elf_objects.specs.Elf.{Elf, SectionEntry}
use Rattle.elf_objects.specs.declared.TheConstants.{SHN_LORESERVE, SHT_SYMTAB_SHNDX, STB_GLOBAL}
use Rattle.x86_text.specs.Code.{code_of}
use Rattle.alternatives.specs.declared.texts.SectionText.{SectionText}
use Rattle.symbols_relocs.specs.declared.target.Target.{Target}
use Rattle.symbols_relocs.specs.declared.target.Target.TheVariants.{Inside, Either, Outside, ThunkIndirect, ThunkReturn, Bad}
use Rattle.symbols_relocs.specs.Functions.{function_at}
use Rattle.symbols_relocs.specs.NamedPlaces.{reloc_at}
use Rattle.symbols_relocs.specs.Targets.{branch_target, last_bytes}
use Rattle.special_sections.specs.Special.{special_of}
use Rattle.flow_defs.specs.Code.{texts_of}
use Rattle.flow_defs.specs.Coded.{Coded}
use Rattle.flow_defs.specs.TableFields.{begins_with}
use Rattle.site_lists.specs.Listed.{Listed}
use Rattle.site_lists.specs.declared.options.ListOptions.{ListOptions}

-- an instruction of the object's own code, and where it begins
pub record PlacedCode : Type 0 where
  pub place : Place
  pub insn : Insn

abbrev pub placed_code : SectionText → List PlacedCode
placed_code t = map (λ p. record { place = record { sec = t.sec; off = p.off }; insn = p.insn }) (code_of t.text)

-- A section symbol stands for a section, or could be made for it: the object has symbols, and where the section's number
-- is 0xFF00 or above also a table of section numbers.
abbrev pub can_have_symbol : Elf → ℕ → Bool
can_have_symbol o sec =
    nat_lt 0 (length o.symbols) && (nat_lt sec SHN_LORESERVE || list_any (λ s. s.kind == SHT_SYMTAB_SHNDX) o.sections)

-- the instructions of the text sections that relocations can name, in the order of their places
abbrev pub nameable_code : Coded → List PlacedCode
nameable_code o = flat_map placed_code (filter (λ t. can_have_symbol o.elf t.sec) (texts_of o))

-- where it goes, if it is a direct call or branch
abbrev pub goes_to : Coded → PlacedCode → Target
goes_to o x = branch_target o.elf x.place x.insn

abbrev pub is_indirect_thunk : Target → Bool
is_indirect_thunk ThunkIndirect = true
is_indirect_thunk _ = false

abbrev pub is_return_thunk : Target → Bool
is_return_thunk ThunkReturn = true
is_return_thunk _ = false

-- code of this object or of another
abbrev pub is_code_target : Target → Bool
is_code_target (Inside place) = true
is_code_target (Either place sym) = true
is_code_target (Outside sym) = true
is_code_target ThunkIndirect = false
is_code_target ThunkReturn = false
is_code_target Bad = false

abbrev pub is_direct_call : Op → Bool
is_direct_call (ops.Call rel) = true
is_direct_call _ = false

-- ---- static calls

-- the section holds replacements, which are listed nowhere
abbrev pub is_in_replacements : Elf → ℕ → Bool
is_in_replacements o sec = bytes_eq (section_at o sec).name (codes ".altinstr_replacement")

-- the instruction ends with the four bytes by which it goes on: a direct call, or a jump of 32 bits
abbrev pub has_wide_field : Op → Bool
has_wide_field (ops.Call rel) = true
has_wide_field (ops.Jmp rel wide) = wide
has_wide_field (ops.Jcc rel wide) = wide
has_wide_field _ = false

-- it goes to one place of this object, or out of it: to no thunk, and to nothing that another object may define anew
abbrev pub is_settled : Target → Bool
is_settled (Inside place) = true
is_settled (Outside sym) = true
is_settled _ = false

-- the symbol of a relocation, where that is GLOBAL
abbrev pub global_symbol : Elf → Option Reloc → Option ℕ
global_symbol o None = None
global_symbol o (Some r) = if (symbol_at o r.sym).bind == STB_GLOBAL then Some r.sym else None

-- the symbol that an instruction names: that of the first relocation on its last four bytes
abbrev pub symbol_named : Coded → PlacedCode → Option ℕ
symbol_named o x =
    if has_wide_field x.insn.op && (not (is_in_replacements o.elf x.place.sec) && is_settled (goes_to o x)) then global_symbol o.elf (reloc_at o.elf (last_bytes x.place x.insn.len 4))
    else None

-- the trampoline of a static call
abbrev pub is_trampoline : Elf → Option ℕ → Bool
is_trampoline o None = false
is_trampoline o (Some sym) = begins_with (symbol_at o sym).name (codes "__SCT__")

-- a static call names a trampoline, and is a call or a jump out of a function
abbrev pub is_static_call : Coded → PlacedCode → Bool
is_static_call o x = is_trampoline o.elf (symbol_named o x) && (is_direct_call x.insn.op || is_some (function_at o.elf x.place))

-- ---- the lists

-- a retpoline site: a direct call or branch to a thunk that goes on to where a register points
abbrev pub is_retpoline_site : Coded → PlacedCode → Bool
is_retpoline_site o x = is_indirect_thunk (goes_to o x)

-- a return site: one to the thunk that returns
abbrev pub is_return_site : Coded → PlacedCode → Bool
is_return_site o x = is_return_thunk (goes_to o x)

-- the object lists the instruction as a call within a function, which pushes an address and goes on there
abbrev pub is_intra_call : Coded → PlacedCode → Bool
is_intra_call o x = list_any (same_place x.place) (special_of o.elf).intra_calls

-- call sites of a section are listed: of no replacements, and of code that is freed after the start only as part of a module
abbrev pub lists_calls : ListOptions → Elf → ℕ → Bool
lists_calls options o sec = not (is_in_replacements o sec) && (options.module || not (bytes_eq (section_at o sec).name (codes ".init.text")))

-- a call site: a direct call of code in this object or outside, but none within a function and no static call
abbrev pub is_call_site : ListOptions → Coded → PlacedCode → Bool
is_call_site options o x =
    is_code_target (goes_to o x)
    && (is_direct_call x.insn.op && (lists_calls options o.elf x.place.sec && (not (is_intra_call o x) && not (is_static_call o x))))

-- the places of the instructions that pass, in their order
abbrev pub places_of : (PlacedCode → Bool) → List PlacedCode → List Place
places_of passes code = map (λ x. x.place) (filter passes code)

abbrev pub listed_of : ListOptions → Coded → List PlacedCode → Listed
listed_of options o code = record {
  retpoline = places_of (is_retpoline_site o) code;
  returns = places_of (is_return_site o) code;
  calls = places_of (is_call_site options o) code;
}

-- lists behind others
abbrev pub joined : Listed → Listed → Listed
joined front back = record {
  retpoline = front.retpoline ++ back.retpoline;
  returns = front.returns ++ back.returns;
  calls = front.calls ++ back.calls;
}

-- the sites of an object: lists that ascend by place
unfoldable pub sites_of : ListOptions → Coded → Listed
sites_of options o = listed_of options o (nameable_code o)

-- The place lies in a text section of the object for which a section symbol stands or could be made, at an offset up to the
-- section's size.
pub record IsSiteIn (o : Elf) (place : Place) : Type 0 where
  pub section : SectionEntry
  pub at : slice_get o.sections place.sec ≡ Some section
  pub text : is_text section ≡ true
  pub inside : place.off ≤ section.size
  pub nameable : can_have_symbol o place.sec ≡ true

pub record AreSitesIn (o : Elf) (lists : Listed) : Type 0 where
  pub retpoline : All (IsSiteIn o) lists.retpoline
  pub returns : All (IsSiteIn o) lists.returns
  pub calls : All (IsSiteIn o) lists.calls

-- there are no more places in a list than text has bytes
pub record AreFew (lists : Listed) : Type 0 where
  pub retpoline : length lists.retpoline ≤ 16777216
  pub returns : length lists.returns ≤ 16777216
  pub calls : length lists.calls ≤ 16777216
