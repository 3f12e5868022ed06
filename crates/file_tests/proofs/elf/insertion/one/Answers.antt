use Rattle.std.proofs.Common.{◌≡◌, ℕ, zero, suc, ◌+◌, ◌*◌, ◌<◌, ◌≤◌, List, [], ◌∷◌, length, arith}
use Rattle.std.proofs.lemmas.List.Elements.{All-cons, All-nil}
use Rattle.std.specs.Prelude.{IsSome}
use Rattle.elf_objects.specs.declared.TheConstants.{SHN_LORESERVE}
use Rattle.elf_write.specs.SymbolLayout.{index_table}
use Rattle.elf_write.specs.SymbolObject.{CanInsert}
use Rattle.elf_write.proofs.Bound.{length-symbols_inserted}
use Rattle.file_tests.proofs.elf.insertion.one.Goals as goal

pub with_section_symbols-requires : goal.with_section_symbols-requires
with_section_symbols-requires c =
    let o = c.args.object.now in
    let secs : List ℕ = c.args.sec ∷ [] in
    let long = length-symbols_inserted o.bytes o secs c.requires.object (λ _. c.requires.some) in
    record {
      rising = λ i j d lt inside. absurd (omega arith);
      some = All-cons (λ s. 1 ≤ s) c.args.sec [] c.requires.low (All-nil (λ s. 1 ≤ s));
      exist = All-cons (λ s. s < length o.sections) c.args.sec [] c.requires.known (All-nil (λ s. s < length o.sections));
      symbols = λ _. c.requires.some;
      few = omega (arith, c.requires.few);
      numbers = All-cons (λ s. SHN_LORESERVE ≤ s → IsSome (index_table o)) c.args.sec [] (λ h. absurd (omega (arith, c.requires.known, c.requires.sections))) (All-nil (λ s. SHN_LORESERVE ≤ s → IsSome (index_table o)));
      short = omega (arith, c.requires.short);
    }
