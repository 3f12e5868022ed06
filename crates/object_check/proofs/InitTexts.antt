-- The sections named `.init.text`, in a list.
use Rattle.std.proofs.Common.{◌≡◌, ℕ, ◌≤◌, Bool, false, List, length, get_or, inl, inr, sym, ap, ◌∙◌, arith}
use Rattle.std.specs.Prelude.{bytes_eq, codes}
use Rattle.std.proofs.lemmas.Bool.{cases_lt}
use Rattle.std.proofs.lemmas.List.{get_or_past}
use Rattle.elf_objects.specs.Contents.{no_section}
use Rattle.elf_objects.specs.Elf.{Elf, SectionEntry}
use Rattle.object_check.specs.Allowances.{is_init_text}
use Rattle.object_check.specs.Flags.{AreFlags}

-- what is no section has no name
none_such : (o : Elf) (sec : ℕ) → length o.sections ≤ sec → false ≡ is_init_text o sec
none_such o sec behind = sym (ap (λ (s : SectionEntry). bytes_eq s.name (codes ".init.text")) (get_or_past o.sections sec no_section behind))

pub listed : (o : Elf) (flags : List Bool) (sec : ℕ) → AreFlags (is_init_text o) (length o.sections) flags → get_or flags sec false ≡ is_init_text o sec
listed o flags sec are = elim (cases_lt sec (length o.sections)) [
  | inl inside ↦ are.each sec inside
  | inr behind ↦ get_or_past flags sec false (omega (arith, behind, are.long)) ∙ none_such o sec behind
]
