-- The entries of `.altinstructions`, `__jump_table` and `__ex_table` (Linux 6.6: `struct alt_instr` of alternative.h,
-- `struct jump_entry` of jump_label.h, `struct exception_table_entry` of extable.h).
use Rattle.std.specs.Prelude.{ℕ, ◌+◌, ◌*◌, ◌/◌, ◌==◌, ◌||◌, ◌&&◌, not, nat_lt, Bool, ◌∷◌, [], Option, slice_index, length, codes, if◌then◌else◌}
use Rattle.elf_objects.specs.Elf.{Elf}
use Rattle.elf_objects.specs.Contents.{section_at}
use Rattle.elf_objects.specs.Number.{half}
use Rattle.symbols_relocs.specs.NamedPlaces.{place_held_at}
use Rattle.special_sections.specs.declared.entries.AltEntry.{AltEntry}
use Rattle.special_sections.specs.declared.entries.BranchEntry.{BranchEntry}
use Rattle.special_sections.specs.declared.entries.FixEntry.{FixEntry}
use Rattle.special_sections.specs.declared.fault.Why.{Why}
use Rattle.special_sections.specs.declared.fault.Why.TheVariants.{NoReloc, NotText, Length}
use Rattle.special_sections.specs.declared.fields.Bound.{Bound}
use Rattle.special_sections.specs.declared.fields.Bound.TheVariants.{BelowEnd, UpToEnd}
use Rattle.special_sections.specs.Reasons.{first_reason}
use Rattle.special_sections.specs.Fields.{field_at, or_nowhere, lacks_reloc, holds_text_place, leaves_section, table_why}
use Rattle.special_sections.specs.Kinds.{EntryKind}

-- how many entries of a number of bytes a section has
abbrev pub table_count : ℕ → Elf → ℕ → ℕ
table_count size o sec = length (section_at o sec).body / size

-- `.altinstructions`, 14 bytes: original s32 and replacement s32, feature u16, flags u16, the length of the original and that
-- of the replacement, u8 each
abbrev pub alternative_from : Elf → ℕ → ℕ → AltEntry
alternative_from o sec at = let body = (section_at o sec).body in record {
  original = or_nowhere (place_held_at o (field_at sec at));
  replacement = or_nowhere (place_held_at o (field_at sec (at + 4)));
  feature = half body (at + 8);
  flags = half body (at + 10);
  original_len = slice_index body (at + 12);
  replacement_len = slice_index body (at + 13);
}

-- the replacement is longer than an original that is not empty, or one of them leaves its section
abbrev pub is_too_long : Elf → AltEntry → Bool
is_too_long o a =
    (not (a.original_len == 0) && nat_lt a.original_len a.replacement_len)
    || leaves_section o a.original a.original_len
    || leaves_section o a.replacement a.replacement_len

-- a replacement without a byte may also stand at the end of its section
abbrev pub replacement_bound : AltEntry → Bound
replacement_bound a = if a.replacement_len == 0 then UpToEnd else BelowEnd

abbrev pub alternative_why_from : Elf → ℕ → ℕ → Option Why
alternative_why_from o sec at = let original = field_at sec at in let replacement = field_at sec (at + 4) in let entry = alternative_from o sec at in first_reason
    ((lacks_reloc o original || lacks_reloc o replacement, NoReloc)
    ∷ (not (holds_text_place o BelowEnd original && holds_text_place o (replacement_bound entry) replacement), NotText)
    ∷ (is_too_long o entry, Length)
    ∷ [])

abbrev pub alternatives : EntryKind AltEntry
alternatives = record {
  name = codes ".altinstructions";
  count = table_count 14;
  section_why = table_why 14;
  entry = λ o sec e. alternative_from o sec (14 * e);
  why = λ o sec e. alternative_why_from o sec (14 * e);
}

-- why an entry of two places is refused
abbrev pub pair_why_from : Elf → ℕ → ℕ → Option Why
pair_why_from o sec at = let first = field_at sec at in let second = field_at sec (at + 4) in first_reason
    ((lacks_reloc o first || lacks_reloc o second, NoReloc)
    ∷ (not (holds_text_place o BelowEnd first && holds_text_place o BelowEnd second), NotText)
    ∷ [])

-- `__jump_table`, 16 bytes: code s32, target s32, and a key that is not read
abbrev pub branch_from : Elf → ℕ → ℕ → BranchEntry
branch_from o sec at = record {
  code = or_nowhere (place_held_at o (field_at sec at));
  target = or_nowhere (place_held_at o (field_at sec (at + 4)));
}

abbrev pub branches : EntryKind BranchEntry
branches = record {
  name = codes "__jump_table";
  count = table_count 16;
  section_why = table_why 16;
  entry = λ o sec e. branch_from o sec (16 * e);
  why = λ o sec e. pair_why_from o sec (16 * e);
}

-- `__ex_table`, 12 bytes: insn s32, fixup s32, and data that are not read
abbrev pub fix_from : Elf → ℕ → ℕ → FixEntry
fix_from o sec at = record {
  insn = or_nowhere (place_held_at o (field_at sec at));
  fixup = or_nowhere (place_held_at o (field_at sec (at + 4)));
}

abbrev pub fixes : EntryKind FixEntry
fixes = record {
  name = codes "__ex_table";
  count = table_count 12;
  section_why = table_why 12;
  entry = λ o sec e. fix_from o sec (12 * e);
  why = λ o sec e. pair_why_from o sec (12 * e);
}
