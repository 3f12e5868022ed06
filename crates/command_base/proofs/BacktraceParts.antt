-- A backtrace line by line.
use Rattle.std.proofs.Common.{◌≡◌, ℕ, List, ◌++◌, ap, ◌∙◌, append_assoc}
use Rattle.std.specs.Prelude.{Result, Ok, Err, OnOk, codes}
use Rattle.elf_objects.specs.Elf.{Elf}
use Rattle.machine_defs.specs.Program.{Program}
use Rattle.command_base.specs.Backtrace.{Told}
use Rattle.command_base.specs.BacktraceText.{backtrace_text, holder_line, see_line, state_line, steps_line}

behind : (old one two : List ℕ) (text : List ℕ) → text ≡ old ++ one → text ++ two ≡ old ++ (one ++ two)
behind old one two text is = ap (λ xs. xs ++ two) is ∙ append_assoc old one two

five : (old first second third fourth fifth a b c d e : List ℕ) → a ≡ old ++ first → b ≡ a ++ second → c ≡ b ++ third → d ≡ c ++ fourth → e ≡ d ++ fifth → e ≡ old ++ ((((first ++ second) ++ third) ++ fourth) ++ fifth)
five old first second third fourth fifth a b c d e is_a is_b is_c is_d is_e =
    let two : b ≡ old ++ (first ++ second) = is_b ∙ behind old first second a is_a in
    let three : c ≡ old ++ ((first ++ second) ++ third) = is_c ∙ behind old (first ++ second) third b two in
    let four : d ≡ old ++ (((first ++ second) ++ third) ++ fourth) = is_d ∙ behind old ((first ++ second) ++ third) fourth c three in
    is_e ∙ behind old (((first ++ second) ++ third) ++ fourth) fifth d four

pub backtrace_is : (o : Elf) (input : List ℕ) (p : Program) (rule : ℕ) (told : Told) (old a b c d e : List ℕ) → a ≡ old ++ holder_line o input told.holder → b ≡ a ++ state_line told.state → c ≡ b ++ steps_line o p (codes "way") told.way → d ≡ c ++ steps_line o p (codes "other way") told.other → e ≡ d ++ see_line rule
    → e ≡ old ++ backtrace_text o input p rule told
unfolding backtrace_text
backtrace_is o input p rule told old a b c d e is_a is_b is_c is_d is_e =
    five old (holder_line o input told.holder) (state_line told.state) (steps_line o p (codes "way") told.way) (steps_line o p (codes "other way") told.other) (see_line rule) a b c d e is_a is_b is_c is_d is_e

pub on_ok : {T E : Type 0} (r : Result T E) (P Q : Type 0) → (P → Q) → OnOk r P → OnOk r Q
on_ok (Ok x) P Q f h = f h
on_ok (Err e) P Q f h = tt
