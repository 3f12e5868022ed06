-- Which special tables are found, and which section is the first of its type.
use Rattle.std.proofs.Common.{◌≡◌, ◌≢◌, ◌<◌, ◌+◌, ℕ, Bool, true, false, List, Option, Some, None, is_some, not, get_or, set, length, replicate, arith, refl, ◌∙◌, sym, eqb, ◌⊎◌, inl, inr, ap, get_or-set_same, get_or-set_other}
use Rattle.std.proofs.lemmas.Bool.{eqb-false, eq-eqb, ne_eqb}
use Rattle.elf_objects.specs.Below.{least_below, first_of}
use Rattle.elf_objects.specs.File.{section_header}
use Rattle.elf_objects.specs.Found.{AreLeast}
use Rattle.std.proofs.lemmas.Bool.Decides.{nat_tests, eqb_tells}
use Rattle.std.proofs.Math.ListN.{length-set}
use Rattle.std.proofs.lemmas.List.{length-replicate, get_or-replicate}
use Rattle.elf_objects.specs.Header.{has_body}
use Rattle.elf_objects.specs.declared.TheConstants.{SHT_RELA, SHT_SYMTAB, SHT_SYMTAB_SHNDX}
use Rattle.elf_objects.specs.Sections.{IsFirstOfKind, IsFirstRelaOf}
use Rattle.elf_objects.specs.Table.{is_kind, is_rela_of}
use Rattle.elf_objects.proofs.LeastBelow.{least_below-none, least_below-zero, least_below-some, least_below-step, none-least_below, first_of-none}

-- where none was found, there is none before
pub none-is_first : (b : List ℕ) (kind i : ℕ) → least_below (is_kind b kind) i ≡ None → IsFirstOfKind b kind i
none-is_first b kind i e k h = eqb-false (section_header b k).kind kind (least_below-none (is_kind b kind) i e k h)

pub is_first-none : (b : List ℕ) (kind i : ℕ) → IsFirstOfKind b kind i → least_below (is_kind b kind) i ≡ None
is_first-none b kind i first = none-least_below (is_kind b kind) i (λ k h. ne_eqb (section_header b k).kind kind (first k h))

pub is_first-tells : (b : List ℕ) (kind i : ℕ) (o : Option ℕ) (r : Bool) → o ≡ least_below (is_kind b kind) i → is_some o ≡ not r → (r ≡ true → IsFirstOfKind b kind i) × (IsFirstOfKind b kind i → r ≡ true)
is_first-tells b kind i None true e f = (λ _. none-is_first b kind i (sym e), λ _. refl)
is_first-tells b kind i None false e f = cc
is_first-tells b kind i (Some j) true e f = cc
is_first-tells b kind i (Some j) false e f = (λ h. cc, λ first. let n = is_first-none b kind i first in cc)

-- no section of relocations before is of the section s
pub is_first_rela-tells : (b : List ℕ) (s i : ℕ) (o : Option ℕ) (r : Bool) → o ≡ least_below (is_rela_of b s) i → is_some o ≡ not r → (r ≡ true → IsFirstRelaOf b s i) × (IsFirstRelaOf b s i → r ≡ true)
is_first_rela-tells b s i None true e f = (λ _ k h is at. (let no = least_below-none (is_rela_of b s) i (sym e) k h in grind (arith, nat_tests)), λ _. refl)
is_first_rela-tells b s i None false e f = cc
is_first_rela-tells b s i (Some j) true e f = cc
is_first_rela-tells b s i (Some j) false e f = (λ h. cc, λ first. let l = least_below-some (is_rela_of b s) i j (sym e) in let p = l.passes in let apart = first j l.below in grind (arith, nat_tests))

-- a number that passes no test leaves what is known
pub AreLeast-other : (p : ℕ → ℕ → Bool) (size i : ℕ) (found : List (Option ℕ)) → ((s : ℕ) → false ≡ p s i) → AreLeast p size i found → AreLeast p size (i + 1) found
AreLeast-other p size i found fails known = record {
  size_is = known.size_is;
  each = λ s h. least_below-step (p s) i _ _ false (known.each s h) (fails s) (first_of-none _);
}

-- one that passes a single test is found for it
pub AreLeast-set : (p : ℕ → ℕ → Bool) (size i t : ℕ) (found : List (Option ℕ)) (o : Option ℕ) → ((s : ℕ) → eqb t s ≡ p s i) → t < size → AreLeast p size i found → o ≡ first_of (get_or found t None) (Some i) → AreLeast p size (i + 1) (set found t o)
AreLeast-set p size i t found o test below known e = record {
  size_is = length-set found t o ∙ known.size_is;
  each = λ s h. each s h (eqb_tells t s);
} where
  each : (s : ℕ) → s < size → ((eqb t s ≡ true) × (t ≡ s)) ⊎ ((eqb t s ≡ false) × (t ≢ s)) → get_or (set found t o) s None ≡ least_below (p s) (i + 1)
  each s h (inl same) =
      let inside : t < length found = omega (arith, known.size_is) in
      let here : true ≡ p t i = sym (eq-eqb t t refl) ∙ test t in
      rw (← same.1) (rw get_or-set_same (least_below-step (p t) i (get_or found t None) o true (known.each t below) here e))
  each s h (inr other) =
      let ne : s ≢ t = λ q. other.1 (sym q) in
      rw get_or-set_other (least_below-step (p s) i _ _ false (known.each s h) (sym other.0 ∙ test s) (first_of-none _))

-- at first nothing is known
pub AreLeast-none : (p : ℕ → ℕ → Bool) (size n : ℕ) (found : List (Option ℕ)) → n ≡ size → found ≡ replicate n None → AreLeast p size 0 found
AreLeast-none p size n found size_is e = record {
  size_is = ap length e ∙ length-replicate n None ∙ size_is;
  each = λ s h. rw (e, least_below-zero (p s)) (get_or-replicate n s None None (omega arith));
}

-- a section without relocations has those of none, and one with relocations has those of its sh_info
pub is_rela_of-other : (b : List ℕ) (i : ℕ) → (section_header b i).kind ≢ SHT_RELA → (s : ℕ) → false ≡ is_rela_of b s i
is_rela_of-other b i ne s = let kind = ne_eqb (section_header b i).kind SHT_RELA ne in rw kind refl

pub is_rela_of-rela : (b : List ℕ) (i t : ℕ) → (section_header b i).kind ≡ SHT_RELA → (section_header b i).info ≡ t → (s : ℕ) → eqb t s ≡ is_rela_of b s i
is_rela_of-rela b i t is info s = let kind = eq-eqb (section_header b i).kind SHT_RELA is in rw (kind, info) refl

-- a symbol table has a body, and so has a table of section numbers
pub symtab-has_body : (b : List ℕ) (i : ℕ) → is_kind b SHT_SYMTAB i ≡ true → has_body (section_header b i) ≡ true
symtab-has_body b i e = grind (arith, nat_tests)

pub symtab_shndx-has_body : (b : List ℕ) (i : ℕ) → is_kind b SHT_SYMTAB_SHNDX i ≡ true → has_body (section_header b i) ≡ true
symtab_shndx-has_body b i e = grind (arith, nat_tests)
