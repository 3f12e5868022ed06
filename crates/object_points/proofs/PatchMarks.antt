-- The marks of the sections to which control comes by patching alone, one more at a time.
use Rattle.std.proofs.Common.{◌≡◌, ℕ, ◌+◌, ◌<◌, ◌≤◌, Bool, false, ◌||◌, List, [], ◌∷◌, ◌++◌, length, length-append, get_or, inl, inr, sym, ap, ◌∙◌, arith}
use Rattle.std.specs.Prelude.{codes}
use Rattle.std.specs.Str.{bytes_eq}
use Rattle.std.proofs.lemmas.Bool.{cases_lt}
use Rattle.std.proofs.lemmas.List.{get_or_append_left, get_or_past, get_or_push}
use Rattle.elf_objects.specs.Contents.{no_section}
use Rattle.elf_objects.specs.Elf.{Elf, SectionEntry}
use Rattle.flow_defs.specs.Program.{is_patch_section}
use Rattle.object_points.specs.Owners.{ArePatchSections}

-- those of the first sections
pub record AreMarked (o : Elf) (marks : List Bool) (n : ℕ) : Type 0 where
  pub long : length marks ≡ n
  pub told : (k : ℕ) → k < n → get_or marks k false ≡ is_patch_section o k

pub marked_more : (o : Elf) (marks : List Bool) (n : ℕ) (mark : Bool) → AreMarked o marks n → mark ≡ is_patch_section o n → AreMarked o (marks ++ mark ∷ []) (n + 1)
marked_more o marks n mark all is = record {
  long = length-append marks (mark ∷ []) ∙ ap (λ k. k + 1) all.long;
  told = λ k inside. elim (cases_lt k n) [
    | inl low ↦ get_or_append_left marks (mark ∷ []) false k (omega (arith, low, all.long)) ∙ all.told k low
    | inr high ↦
        let last : n ≡ k = omega (arith, high, inside) in
        get_or_push marks mark false k (all.long ∙ last) ∙ is ∙ ap (is_patch_section o) last
  ];
}

-- what is no section isn't one
none_such : (o : Elf) (k : ℕ) → length o.sections ≤ k → false ≡ is_patch_section o k
none_such o k behind =
    sym (ap (λ (s : SectionEntry). bytes_eq s.name (codes ".altinstr_replacement") || bytes_eq s.name (codes ".altinstr_aux")) (get_or_past o.sections k no_section behind))

pub all_marked : (o : Elf) (marks : List Bool) → AreMarked o marks (length o.sections) → ArePatchSections o marks
all_marked o marks all k = elim (cases_lt k (length o.sections)) [
  | inl low ↦ all.told k low
  | inr high ↦ get_or_past marks k false (omega (arith, high, all.long)) ∙ none_such o k high
]
