-- The sections that list places, one for each of their relocations; their bodies are not read.
use Rattle.std.specs.Prelude.{ℕ, not, false, Bool, List, ◌∷◌, [], Option, slice_index_or, length, pos, codes}
use Rattle.ot_base.specs.declared.place.Place.{Place}
use Rattle.elf_objects.specs.declared.symbol.Reloc.{Reloc}
use Rattle.elf_objects.specs.Elf.{Elf}
use Rattle.elf_objects.specs.Contents.{relocs_at}
use Rattle.symbols_relocs.specs.Relocs.{is_pointer_kind}
use Rattle.symbols_relocs.specs.NamedPlaces.{place_named}
use Rattle.special_sections.specs.declared.fault.Why.{Why}
use Rattle.special_sections.specs.declared.fault.Why.TheVariants.{Compressed, NoReloc, NotText}
use Rattle.special_sections.specs.declared.fields.Bound.TheVariants.{BelowEnd, UpToEnd}
use Rattle.special_sections.specs.declared.lists.Judged.{Judged}
use Rattle.special_sections.specs.declared.lists.Judged.TheVariants.{InText, UpToItsEnd, Anywhere}
use Rattle.special_sections.specs.Reasons.{first_reason}
use Rattle.special_sections.specs.Fields.{is_compressed, names_text, or_nowhere}
use Rattle.special_sections.specs.Kinds.{EntryKind}

-- where an index is that of no relocation: R_X86_64_NONE
abbrev pub no_reloc : Reloc
no_reloc = record { offset = 0; kind = 0; sym = 0; addend = pos 0 }

-- the relocation of an entry
abbrev pub entry_reloc : Elf → ℕ → ℕ → Reloc
entry_reloc o sec e = slice_index_or (relocs_at o sec) e no_reloc

-- the place is not where the list's places have to be
abbrev pub is_misplaced : Elf → Judged → Option Place → Bool
is_misplaced o InText place = not (names_text o BelowEnd place)
is_misplaced o UpToItsEnd place = not (names_text o UpToEnd place)
is_misplaced o Anywhere place = false

abbrev pub listed_why : Elf → Judged → Reloc → Option Why
listed_why o judged r = first_reason
    ((not (is_pointer_kind r.kind), NoReloc)
    ∷ (is_misplaced o judged (place_named o r), NotText)
    ∷ [])

abbrev pub places : List ℕ → Judged → EntryKind Place
places name judged = record {
  name = name;
  count = λ o sec. length (relocs_at o sec);
  section_why = λ o sec. first_reason ((is_compressed o sec, Compressed) ∷ []);
  entry = λ o sec e. or_nowhere (place_named o (entry_reloc o sec e));
  why = λ o sec e. listed_why o judged (entry_reloc o sec e);
}

-- the ends of instructions behind which code goes on though nothing seems to reach it, and behind which it does not go on
abbrev pub after_reachable : EntryKind Place
after_reachable = places (codes ".discard.reachable") UpToItsEnd

abbrev pub after_unreachable : EntryKind Place
after_unreachable = places (codes ".discard.unreachable") UpToItsEnd

-- the starts of functions that are not checked
abbrev pub unchecked : EntryKind Place
unchecked = places (codes ".discard.func_stack_frame_non_standard") Anywhere

-- the indirect branches and returns that may stay as they are
abbrev pub safe_branches : EntryKind Place
safe_branches = places (codes ".discard.retpoline_safe") InText

-- the calls by which a function only pushes an address: they lead to code of its own, and no frame is made of them
abbrev pub intra_calls : EntryKind Place
intra_calls = places (codes ".discard.intra_function_calls") InText
