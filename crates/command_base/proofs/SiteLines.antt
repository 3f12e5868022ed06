-- The text of site lists: one list behind the other.
use Rattle.std.proofs.Common.{◌≡◌, ℕ, ◌≤◌, List, [], ◌++◌, refl, ap, ◌∙◌, subst, append-nil, append_assoc, arith}
use Rattle.std.specs.Prelude.{Option, ◌==◌, codes, if◌then◌else◌}
use Rattle.ot_base.specs.declared.place.Place.{Place}
use Rattle.ot_files.specs.Output.{appending}
use Rattle.elf_objects.specs.Elf.{Elf}
use Rattle.command_base.specs.Outside.{Output}
use Rattle.command_base.specs.Printing.{FailsToPrint}
use Rattle.command_base.specs.declared.status.Status.{Status}
use Rattle.command_base.proofs.PrintLemmas.{appended_twice, no_lower, nothing_appended, part_unprinted}
use Rattle.site_lists.specs.Listed.{Listed}
use Rattle.command_base.specs.List.{list_text, lists_text}

-- ---- texts one behind the other

first_fails : (part rest : List ℕ) (before after : Output) (s : Status) → FailsToPrint part before after s → FailsToPrint (part ++ rest) before after s
first_fails part rest before after s h = part_unprinted [] part rest before before after s (nothing_appended before.written) (no_lower before.faults before.faults refl) h

second_fails : (first part rest : List ℕ) (before middle after : Output) (s : Status) → middle.written ≡ appending before.written first → before.faults ≤ middle.faults → FailsToPrint part middle after s → FailsToPrint (first ++ (part ++ rest)) before after s
second_fails first part rest before middle after s so later h =
    subst (λ (text : List ℕ). FailsToPrint text before after s) (append_assoc first part rest) (part_unprinted first part rest before middle after s so later h)

third_fails : (first second part : List ℕ) (before one two after : Output) (s : Status) → one.written ≡ appending before.written first → two.written ≡ appending one.written second → before.faults ≤ two.faults → FailsToPrint part two after s → FailsToPrint (first ++ (second ++ part)) before after s
third_fails first second part before one two after s so more later h =
    let front : two.written ≡ appending before.written (first ++ second) =
    more ∙ ap (λ (told : Option (List ℕ)). appending told second) so ∙ appended_twice before.written first second in
    subst (λ (text : List ℕ). FailsToPrint text before after s) (append_assoc first second part)
    (subst (λ (text : List ℕ). FailsToPrint text before after s) (append-nil ((first ++ second) ++ part)) (part_unprinted (first ++ second) part [] before two after s front later h))

later_still : (a b c : ℕ) → a ≤ b → b ≤ c → a ≤ c
later_still a b c h k = omega arith

-- ---- the lines of three lists, one list behind the other

abbrev word_text : Elf → ℕ → List Place → List ℕ
word_text o which places = list_text o (if which == 0 then codes "retpoline" else if which == 1 then codes "return" else codes "call") places

pub first_list_fails : (o : Elf) (lists : Listed) (shown : List Place) (before after : Output) (s : Status) → shown ≡ lists.retpoline → FailsToPrint (word_text o 0 shown) before after s → FailsToPrint (lists_text o lists) before after s
first_list_fails o lists shown before after s same h =
    first_fails (word_text o 0 lists.retpoline) (word_text o 1 lists.returns ++ word_text o 2 lists.calls) before after s
    (subst (λ (places : List Place). FailsToPrint (word_text o 0 places) before after s) same h)

pub second_list_fails : (o : Elf) (lists : Listed) (first shown : List Place) (before middle after : Output) (s : Status) → first ≡ lists.retpoline → shown ≡ lists.returns → middle.written ≡ appending before.written (word_text o 0 first) → before.faults ≤ middle.faults → FailsToPrint (word_text o 1 shown) middle after s → FailsToPrint (lists_text o lists) before after s
second_list_fails o lists first shown before middle after s one same so later h =
    second_fails (word_text o 0 lists.retpoline) (word_text o 1 lists.returns) (word_text o 2 lists.calls) before middle after s
    (subst (λ (places : List Place). middle.written ≡ appending before.written (word_text o 0 places)) one so) later
    (subst (λ (places : List Place). FailsToPrint (word_text o 1 places) middle after s) same h)

pub third_list_fails : (o : Elf) (lists : Listed) (first second shown : List Place) (before one two after : Output) (s : Status) → first ≡ lists.retpoline → second ≡ lists.returns → shown ≡ lists.calls → one.written ≡ appending before.written (word_text o 0 first) → two.written ≡ appending one.written (word_text o 1 second) → before.faults ≤ one.faults → one.faults ≤ two.faults → FailsToPrint (word_text o 2 shown) two after s → FailsToPrint (lists_text o lists) before after s
third_list_fails o lists first second shown before one two after s e1 e2 e3 so more later still h =
    third_fails (word_text o 0 lists.retpoline) (word_text o 1 lists.returns) (word_text o 2 lists.calls) before one two after s
    (subst (λ (places : List Place). one.written ≡ appending before.written (word_text o 0 places)) e1 so)
    (subst (λ (places : List Place). two.written ≡ appending one.written (word_text o 1 places)) e2 more)
    (later_still before.faults one.faults two.faults later still)
    (subst (λ (places : List Place). FailsToPrint (word_text o 2 places) two after s) e3 h)
