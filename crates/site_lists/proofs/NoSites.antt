-- The first site list of an object, and that there is none.
use Rattle.std.proofs.Common.{◌≡◌, ◌≢◌, ℕ, zero, suc, ◌<◌, true, false, eqb, ◌++◌, Some, None, length, refl, ap, ◌∙◌, arith}
use Rattle.std.specs.Prelude.{All, bytes_eq, codes}
use Rattle.std.proofs.lemmas.Bool.{ne_eqb, or_parts}
use Rattle.elf_objects.specs.Elf.{Elf, SectionEntry}
use Rattle.elf_objects.specs.Contents.{section_at}
use Rattle.orc_output.proofs.FirstNamed.{differs, each_other, first_named, none_named}
use Rattle.site_lists.specs.Sections.{list_name}
use Rattle.site_lists.specs.SiteOutput.{IsOther, is_site_name, rela_name, site_section}

pub first_site : (o : Elf) (i : ℕ) → i < length o.sections → is_site_name (section_at o i).name ≡ true → ((k : ℕ) → k < i → is_site_name (section_at o k).name ≡ false) → site_section o ≡ Some i
unfolding site_section
first_site o i inside here before = first_named is_site_name o i inside here before

pub no_site : (o : Elf) → ((k : ℕ) → k < length o.sections → is_site_name (section_at o k).name ≡ false) → site_section o ≡ None
unfolding site_section
no_site o none = none_named is_site_name o none

-- from number 2 on the names are one
is_not : (n k : ℕ) → n ≢ k → eqb n k ≡ false
is_not n k h = ne_eqb n k h

later_list : (n : ℕ) → list_name (suc (suc n)) ≡ list_name 2
later_list n = rw (is_not (suc (suc n)) 0 (λ e. omega (arith, e)), is_not (suc (suc n)) 1 (λ e. omega (arith, e))) refl

later_rela : (n : ℕ) → rela_name (suc (suc n)) ≡ rela_name 2
later_rela n = ap (λ name. codes ".rela" ++ name) (later_list n)

is_other : (s : SectionEntry) → is_site_name s.name ≡ false → IsOther s
is_other s other =
    let a = or_parts (bytes_eq s.name (list_name 0)) _ other in
    let b = or_parts (bytes_eq s.name (rela_name 0)) _ a.1 in
    let c = or_parts (bytes_eq s.name (list_name 1)) _ b.1 in
    let d = or_parts (bytes_eq s.name (rela_name 1)) _ c.1 in
    let e = or_parts (bytes_eq s.name (list_name 2)) _ d.1 in
    record {
      list = lists (differs s.name (list_name 0) a.0) (differs s.name (list_name 1) c.0) (differs s.name (list_name 2) e.0);
      rela = relas (differs s.name (rela_name 0) b.0) (differs s.name (rela_name 1) d.0) (differs s.name (rela_name 2) e.1);
    }
  where
    lists : s.name ≢ list_name 0 → s.name ≢ list_name 1 → s.name ≢ list_name 2 → (which : ℕ) → s.name ≢ list_name which
    lists x y z zero = x
    lists x y z (suc zero) = y
    lists x y z (suc (suc n)) = λ is. z (is ∙ later_list n)

    relas : s.name ≢ rela_name 0 → s.name ≢ rela_name 1 → s.name ≢ rela_name 2 → (which : ℕ) → s.name ≢ rela_name which
    relas x y z zero = x
    relas x y z (suc zero) = y
    relas x y z (suc (suc n)) = λ is. z (is ∙ later_rela n)

pub all_other : (o : Elf) → ((k : ℕ) → k < length o.sections → is_site_name (section_at o k).name ≡ false) → All IsOther o.sections
all_other o none = each_other IsOther is_site_name is_other o none
