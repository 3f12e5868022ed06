-- The section symbols that site lists need may be inserted.
use Rattle.std.proofs.Common.{ℕ, ◌<◌, ◌≤◌, List, length, arith}
use Rattle.std.specs.Prelude.{All, IsSome}
use Rattle.std.proofs.lemmas.List.Elements.{All-weaker}
use Rattle.elf_objects.specs.Elf.{Elf}
use Rattle.elf_objects.specs.Object.{IsObject}
use Rattle.elf_objects.specs.declared.TheConstants.{MAX_SYMBOLS, SHN_LORESERVE}
use Rattle.elf_write.specs.SymbolLayout.{index_table, symbols_inserted}
use Rattle.elf_write.specs.SymbolObject.{CanInsert}
use Rattle.elf_write.specs.Taken.{AreFree}
use Rattle.orc_output.proofs.Insertable.{length-bound, not_first}
use Rattle.orc_output.proofs.NeededSections.{IsNameless}
use Rattle.site_lists.specs.Listed.{Listed}
use Rattle.site_lists.specs.Needed.{is_listed, needed_symbols}
use Rattle.site_lists.specs.Tables.{CanHaveSites, symbols_needed}
use Rattle.site_lists.proofs.OutputNameable.{can_name}
use Rattle.site_lists.proofs.NeededSections.{IsNameableText, each_needed, needed_rise, section_of_lists}

pub all_nameable : (o : Elf) (lists : Listed) → CanHaveSites o lists → All (IsNameableText o) (needed_symbols o lists)
all_nameable o lists can =
    All-weaker (IsNameless o (is_listed lists)) (IsNameableText o) (λ sec is. section_of_lists o lists sec can.each is.named) (needed_symbols o lists) (each_needed o lists)

pub all_free : (o : Elf) (lists : Listed) → AreFree o (needed_symbols o lists)
all_free o lists k d inside = (each_needed o lists k d inside).free

-- the object has symbols where one of the sections needs one
some_symbols : (o : Elf) (lists : Listed) → CanHaveSites o lists → 0 < length (needed_symbols o lists) → 1 ≤ length o.symbols
some_symbols o lists can some = (can_name o _ (all_nameable o lists can 0 0 some).nameable).symbols

pub inserted_bound : (o : Elf) (lists : Listed) → IsObject o.bytes o → CanHaveSites o lists → symbols_needed o lists ≤ MAX_SYMBOLS
    → length (symbols_inserted o (needed_symbols o lists)) ≤ 268435456
inserted_bound o lists ok can few = length-bound o (needed_symbols o lists) ok (some_symbols o lists can) few (let sections = can.few in omega arith) can.short

pub can_insert : (o : Elf) (lists : Listed) → IsObject o.bytes o → CanHaveSites o lists → symbols_needed o lists ≤ MAX_SYMBOLS
    → CanInsert o (needed_symbols o lists)
can_insert o lists ok can few =
    let secs : List ℕ = needed_symbols o lists in
    let bound = inserted_bound o lists ok can few in
    record {
      rising = needed_rise o lists;
      some = All-weaker (IsNameableText o) (λ sec. 1 ≤ sec) (λ sec is. not_first o sec is.section ok is.at is.text) secs (all_nameable o lists can);
      exist = All-weaker (IsNameless o (is_listed lists)) (λ sec. sec < length o.sections) (λ sec is. is.exists) secs (each_needed o lists);
      symbols = some_symbols o lists can;
      few = few;
      numbers = All-weaker (IsNameableText o) (λ sec. SHN_LORESERVE ≤ sec → IsSome (index_table o)) (λ sec is. (can_name o sec is.nameable).numbers) secs (all_nameable o lists can);
      short = omega arith;
    }
