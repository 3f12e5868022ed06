-- The first ORC section of an object, and that there is none.
use Rattle.std.proofs.Common.{◌≡◌, ◌≢◌, ℕ, ◌<◌, ◌≤◌, Bool, true, false, cond, List, Some, None, length, get_or, sym, ap, ◌∙◌, arith, inl, inr}
use Rattle.std.specs.Prelude.{All, bytes_eq, codes, nat_lt}
use Rattle.std.specs.List.{position_or_len}
use Rattle.std.proofs.lemmas.Bool.{cases_lt, false≢true, lt-ltb, or_parts}
use Rattle.std.proofs.lemmas.Bool.Decides.{nat_tests}
use Rattle.std.proofs.lemmas.List.Sums.{fails_before_first, position_or_len_is}
use Rattle.std.proofs.lemmas.Slice.Eq.{bytes_eq-Decides}
use Rattle.elf_objects.specs.Elf.{Elf, SectionEntry}
use Rattle.elf_objects.specs.Contents.{no_section, section_at}
use Rattle.orc_output.specs.OrcOutput.{IsOther}
use Rattle.object_check.specs.Order.{is_orc_name, orc_section}

-- whether a section is an ORC section
abbrev is_orc : SectionEntry → Bool
is_orc s = is_orc_name s.name

picked : (i n : ℕ) → i < n → cond (nat_lt i n) (Some i) None ≡ Some i
picked i n inside = ap (λ (b : Bool). cond b (Some i) None) (lt-ltb i n inside)

not_below : (n : ℕ) → nat_lt n n ≡ false
not_below n = grind (arith, nat_tests)

not_picked : (i n : ℕ) → cond (nat_lt i n) (Some i) None ≡ None → n ≤ i
not_picked i n none = elim (cases_lt i n) [
  | inl inside ↦ absurd (let e = sym (picked i n inside) ∙ none in let z : ⊥ = cc in z)
  | inr beyond ↦ beyond
]

pub first_orc : (o : Elf) (i : ℕ) → i < length o.sections → is_orc_name (section_at o i).name ≡ true → ((k : ℕ) → k < i → is_orc_name (section_at o k).name ≡ false) → orc_section o ≡ Some i
unfolding orc_section
first_orc o i inside here before =
    let at : position_or_len is_orc o.sections ≡ i = position_or_len_is is_orc o.sections i no_section (omega (arith, inside)) before (λ known. here) in
    ap (λ (k : ℕ). cond (nat_lt k (length o.sections)) (Some k) None) at ∙ picked i (length o.sections) inside

pub no_orc : (o : Elf) → ((k : ℕ) → k < length o.sections → is_orc_name (section_at o k).name ≡ false) → orc_section o ≡ None
unfolding orc_section
no_orc o none =
    let n : ℕ = length o.sections in
    let at : position_or_len is_orc o.sections ≡ n = position_or_len_is is_orc o.sections n no_section (omega arith) none (λ inside. absurd (omega (arith, inside))) in
    ap (λ (k : ℕ). cond (nat_lt k n) (Some k) None) at ∙ ap (λ (b : Bool). cond b (Some n) None) (not_below n)

-- a section whose name is another is none of them
differs : (name word : List ℕ) → bytes_eq name word ≡ false → name ≢ word
differs name word other is = false≢true (sym other ∙ (bytes_eq-Decides name word).1 is)

is_other : (s : SectionEntry) → is_orc_name s.name ≡ false → IsOther s
is_other s other =
    let first = or_parts (bytes_eq s.name (codes ".orc_unwind")) _ other in
    let later = or_parts (bytes_eq s.name (codes ".orc_unwind_ip")) _ first.1 in
    record {
      table = differs s.name (codes ".orc_unwind") first.0;
      ip = differs s.name (codes ".orc_unwind_ip") later.0;
      rela = differs s.name (codes ".rela.orc_unwind_ip") later.1;
    }

pub all_other : (o : Elf) → orc_section o ≡ None → All IsOther o.sections
unfolding orc_section
all_other o none k d inside =
    let beyond = not_picked (position_or_len is_orc o.sections) (length o.sections) none in
    is_other (get_or o.sections k d) (fails_before_first is_orc o.sections k d (omega (arith, beyond, inside)))
