-- A section of text is one of the object.
use Rattle.std.proofs.Common.{◌≡◌, ℕ, ◌<◌, true, false, length, inl, inr, refl, sym, ap, ◌∙◌}
use Rattle.std.proofs.lemmas.Bool.{cases_lt, false≢true}
use Rattle.std.proofs.lemmas.List.{get_or_past}
use Rattle.elf_objects.specs.Elf.{Elf}
use Rattle.elf_objects.specs.Contents.{is_text, no_section, section_at}

no_text : is_text no_section ≡ false
no_text = refl

pub text_known : (o : Elf) (i : ℕ) → is_text (section_at o i) ≡ true → i < length o.sections
text_known o i text = elim (cases_lt i (length o.sections)) [
  | inl inside ↦ inside
  | inr past ↦ absurd (false≢true (sym no_text ∙ sym (ap is_text (get_or_past o.sections i no_section past)) ∙ text))
]
