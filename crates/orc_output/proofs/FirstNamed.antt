-- The first section of an object whose name passes a test, and that there is none.
use Rattle.std.proofs.Common.{◌≡◌, ◌≢◌, ℕ, ◌<◌, Bool, true, false, cond, List, Some, None, length, get_or, sym, ap, ◌∙◌, arith}
use Rattle.std.specs.Prelude.{All, bytes_eq, nat_lt, position}
use Rattle.std.specs.List.{position_or_len}
use Rattle.std.proofs.lemmas.Bool.{false≢true, lt-ltb}
use Rattle.std.proofs.lemmas.Bool.Decides.{nat_tests}
use Rattle.std.proofs.lemmas.List.{get_or_default}
use Rattle.std.proofs.lemmas.List.Sums.{position_or_len_is}
use Rattle.std.proofs.lemmas.Slice.Eq.{bytes_eq-Decides}
use Rattle.elf_objects.specs.Elf.{Elf, SectionEntry}
use Rattle.elf_objects.specs.Contents.{no_section, section_at}

pub first_named : (p : List ℕ → Bool) (o : Elf) (i : ℕ) → i < length o.sections → p (section_at o i).name ≡ true → ((k : ℕ) → k < i → p (section_at o k).name ≡ false)
    → position (λ s. p s.name) o.sections ≡ Some i
first_named p o i inside here before =
    let n : ℕ = length o.sections in
    let at : position_or_len (λ (s : SectionEntry). p s.name) o.sections ≡ i = position_or_len_is (λ (s : SectionEntry). p s.name) o.sections i no_section (omega (arith, inside)) before (λ known. here) in
    ap (λ (k : ℕ). cond (nat_lt k n) (Some k) None) at ∙ ap (λ (b : Bool). cond b (Some i) None) (lt-ltb i n inside)

not_below : (n : ℕ) → nat_lt n n ≡ false
not_below n = grind (arith, nat_tests)

pub none_named : (p : List ℕ → Bool) (o : Elf) → ((k : ℕ) → k < length o.sections → p (section_at o k).name ≡ false) → position (λ s. p s.name) o.sections ≡ None
none_named p o none =
    let n : ℕ = length o.sections in
    let at : position_or_len (λ (s : SectionEntry). p s.name) o.sections ≡ n = position_or_len_is (λ (s : SectionEntry). p s.name) o.sections n no_section (omega arith) none (λ inside. absurd (omega (arith, inside))) in
    ap (λ (k : ℕ). cond (nat_lt k n) (Some k) None) at ∙ ap (λ (b : Bool). cond b (Some n) None) (not_below n)

-- what a section whose name does not pass is, each is where there is none
pub each_other : (P : SectionEntry → Type 0) (p : List ℕ → Bool) → ((s : SectionEntry) → p s.name ≡ false → P s) → (o : Elf)
    → ((k : ℕ) → k < length o.sections → p (section_at o k).name ≡ false) → All P o.sections
each_other P p other o none k d inside =
    other (get_or o.sections k d) (ap (λ (s : SectionEntry). p s.name) (get_or_default o.sections k d no_section inside) ∙ none k inside)

pub differs : (name word : List ℕ) → bytes_eq name word ≡ false → name ≢ word
differs name word other is = false≢true (sym other ∙ (bytes_eq-Decides name word).1 is)
