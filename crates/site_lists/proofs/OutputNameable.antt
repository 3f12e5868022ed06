-- Sections for which a section symbol can be made.
use Rattle.std.proofs.Common.{◌≡◌, ℕ, ◌≤◌, true, false, length, get_or, Option, Some, None, refl, sym, ◌∙◌, ap, inl, inr, arith}
use Rattle.std.specs.Prelude.{◌==◌, IsSome, nat_lt}
use Rattle.std.specs.List.{list_any}
use Rattle.std.proofs.lemmas.Bool.{and_parts, false≢true, ltb-true, or_cases}
use Rattle.std.proofs.lemmas.List.{get_or_default}
use Rattle.std.proofs.lemmas.List.Folds.{Any-from_list_any}
use Rattle.elf_objects.specs.Contents.{no_section, section_at}
use Rattle.elf_objects.specs.Elf.{Elf, SectionEntry}
use Rattle.elf_objects.specs.declared.TheConstants.{SHN_LORESERVE, SHT_SYMTAB_SHNDX}
use Rattle.elf_objects.proofs.LeastBelow.{least_below-none}
use Rattle.elf_write.specs.SymbolLayout.{index_table}
use Rattle.site_lists.specs.Sites.{can_have_symbol}

-- a table of section numbers is found where there is one
has_table : (o : Elf) → list_any (λ s. s.kind == SHT_SYMTAB_SHNDX) o.sections ≡ true → IsSome (index_table o)
has_table o some = by_found (index_table o) refl
  where
    by_found : (f : Option ℕ) → index_table o ≡ f → IsSome f
    by_found (Some i) e = refl
    by_found None e =
        let any = Any-from_list_any (λ (s : SectionEntry). s.kind == SHT_SYMTAB_SHNDX) o.sections some in
        let none : ((section_at o any.0).kind == SHT_SYMTAB_SHNDX) ≡ false = least_below-none (λ i. (section_at o i).kind == SHT_SYMTAB_SHNDX) (length o.sections) e any.0 any.2 in
        let is : get_or o.sections any.0 no_section ≡ any.1 = get_or_default o.sections any.0 no_section any.1 any.2 ∙ any.3 in
        absurd (false≢true (sym none ∙ ap (λ (s : SectionEntry). s.kind == SHT_SYMTAB_SHNDX) is ∙ any.4))

pub record CanName (o : Elf) (sec : ℕ) : Type 0 where
  pub symbols : 1 ≤ length o.symbols
  pub numbers : SHN_LORESERVE ≤ sec → IsSome (index_table o)

pub can_name : (o : Elf) (sec : ℕ) → can_have_symbol o sec ≡ true → CanName o sec
can_name o sec can =
    let parts = and_parts _ _ can in
    record {
      symbols = (let some = ltb-true 0 (length o.symbols) parts.0 in omega arith);
      numbers = λ high. (elim (or_cases (nat_lt sec SHN_LORESERVE) _ parts.1) [
        | inl low ↦ absurd (let below = ltb-true sec SHN_LORESERVE low in omega arith)
        | inr some ↦ has_table o some
      ]);
    }
