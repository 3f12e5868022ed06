-- Lists of the text sections, and of the functions without a size, as far as a number.
use Rattle.std.proofs.Common.{◌≡◌, ℕ, ◌+◌, Bool, true, List, [], ◌∷◌, ◌++◌, Option, Some, None, inl, inr, refl, sym, ap, ◌∙◌, append-nil, if◌then◌else◌}
use Rattle.std.specs.Prelude.{filter, map, length}
use Rattle.std.specs.List.{cons_option, range_with_len}
use Rattle.std.proofs.lemmas.Bool.{cases_Bool}
use Rattle.alternatives.proofs.Ranges.{mapped_more, mapped_same}
use Rattle.ot_base.specs.declared.place.Place.{Place}
use Rattle.ot_base.specs.Section.{TextSection}
use Rattle.elf_objects.specs.Contents.{is_text, section_at}
use Rattle.elf_objects.specs.Elf.{Elf}
use Rattle.symbols_relocs.specs.Functions.{start_of}
use Rattle.flow_defs.specs.Program.{is_unsized, text_sections_of, unsized_of}

abbrev pub section_of : Elf → ℕ → TextSection
section_of o i = record { sec = i; size = (section_at o i).size }

abbrev pub is_text_number : Elf → ℕ → Bool
is_text_number o i = is_text (section_at o i)

abbrev pub sections_below : Elf → ℕ → List TextSection
sections_below o n = map (section_of o) (filter (is_text_number o) (range_with_len 0 n))

pub all_sections : (o : Elf) → sections_below o (length o.sections) ≡ text_sections_of o
unfolding text_sections_of
all_sections o = refl

abbrev pub unsized_below : Elf → ℕ → List Place
unsized_below o n = map (start_of o) (filter (is_unsized o) (range_with_len 0 n))

pub all_unsized : (o : Elf) → unsized_below o (length o.symbols) ≡ unsized_of o
unfolding unsized_of
all_unsized o = refl

-- with one more symbol, by the place that is made of it
pub unsized_more : (o : Elf) (n : ℕ) (made : Option Place) → (if is_unsized o n then Some (start_of o n) else None) ≡ made → unsized_below o (n + 1) ≡ unsized_below o n ++ cons_option made []
unsized_more o n made is = elim (cases_Bool (is_unsized o n)) [
  | inl passes ↦ mapped_more (start_of o) (is_unsized o) n passes ∙ ap (λ m. unsized_below o n ++ cons_option m []) (ap (λ b. if b then Some (start_of o n) else None) (sym passes) ∙ is)
  | inr fails ↦ mapped_same (start_of o) (is_unsized o) n fails ∙ sym (append-nil (unsized_below o n)) ∙ ap (λ m. unsized_below o n ++ cons_option m []) (ap (λ b. if b then Some (start_of o n) else None) (sym fails) ∙ is)
]

-- with one more text section
pub sections_more : (o : Elf) (n size : ℕ) → is_text_number o n ≡ true → size ≡ (section_at o n).size → sections_below o (n + 1) ≡ sections_below o n ++ record { sec = n; size = size } ∷ []
sections_more o n size text is =
    mapped_more (section_of o) (is_text_number o) n text ∙ ap (λ (s : ℕ). sections_below o n ++ record { sec = n; size = s } ∷ []) (sym is)
