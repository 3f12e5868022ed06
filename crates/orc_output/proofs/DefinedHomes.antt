-- A symbol that is defined in a section with a number from 0xFF00 on has it from the table of section numbers.
use Rattle.std.proofs.Common.{◌≡◌, ◌<◌, ◌≤◌, ℕ, Bool, true, false, List, refl, sym, ap, subst, ◌∙◌, arith, cond}
use Rattle.std.specs.Prelude.{IsSome}
use Rattle.std.proofs.lemmas.Bool.{ne_eqb}
use Rattle.elf_objects.specs.declared.symbol.Home.TheVariants as home
use Rattle.elf_objects.specs.declared.TheConstants.{SHN_ABS, SHN_COMMON, SHN_LORESERVE, SHN_XINDEX}
use Rattle.elf_objects.specs.Contents.{elf_of, symbol_entry}
use Rattle.elf_objects.specs.Elf.{Elf, SymbolEntry}
use Rattle.elf_objects.specs.Object.{IsObject, IsWellFormed}
use Rattle.elf_objects.specs.Symbols.{HasHome}
use Rattle.elf_objects.specs.Symbols.HasHome.{absolute, common, plain, extended}
use Rattle.elf_objects.specs.Table.{home_of, index_entry, index_table, raw_symbol, section_home, symbol_count, symbol_home}
use Rattle.elf_objects.proofs.Read.{length-symbols, symbol_at-entry}
use Rattle.elf_write.specs.SymbolLayout.{index_table as table_of_numbers}
use Rattle.elf_write.proofs.Known.{same_numbers}
use Rattle.orc_output.specs.Tables.{IsNamed}

section_home-go : (n i : ℕ) (x : Bool) → cond x home.Undefined (home.Section n) ≡ home.Section i → n ≡ i
section_home-go n i true e = cc
section_home-go n i false e = cc

section_home-is : (n i : ℕ) → section_home n ≡ home.Section i → n ≡ i
section_home-is n i e = section_home-go n i _ e

home_of-plain : (n e i : ℕ) → n < SHN_LORESERVE → home_of n e ≡ home.Section i → n ≡ i
home_of-plain n e i below h =
    let a = ne_eqb n SHN_ABS (λ is. omega arith) in
    let b = ne_eqb n SHN_COMMON (λ is. omega arith) in
    let c = ne_eqb n SHN_XINDEX (λ is. omega arith) in
    let g = rw (a, b, c) at h in
    section_home-is n i g

needs_table : (b : List ℕ) (k i : ℕ) → HasHome b k → symbol_home b k ≡ home.Section i → SHN_LORESERVE ≤ i → IsSome (index_table b)
unfolding symbol_home
needs_table b k i (absolute is) h high = let g = rw is at h in cc
needs_table b k i (common is) h high = let g = rw is at h in cc
needs_table b k i (plain below exists) h high = let e = home_of-plain (raw_symbol b k).shndx (index_entry b k) i below h in absurd (omega arith)
needs_table b k i (extended is some exists) h high = some

entry_home : (b : List ℕ) (k : ℕ) → (symbol_entry b k).home ≡ symbol_home b k
unfolding symbol_entry
entry_home b k = refl

at_bytes : (b : List ℕ) (sec : ℕ) → IsWellFormed b → IsNamed (elf_of b) sec → SHN_LORESERVE ≤ sec → IsSome (table_of_numbers (elf_of b))
at_bytes b sec w named high =
    let known : named.symbol < symbol_count b = subst (λ n. named.symbol < n) (length-symbols b (elf_of b) refl) named.known in
    let is : symbol_home b named.symbol ≡ home.Section sec =
    sym (entry_home b named.symbol) ∙ sym (ap (λ (s : SymbolEntry). s.home) (symbol_at-entry b (elf_of b) named.symbol refl known)) ∙ named.here in
    subst IsSome (sym (same_numbers b)) (needs_table b named.symbol sec (w.symbols named.symbol known).home is high)

pub has_numbers : (b : List ℕ) (o : Elf) (sec : ℕ) → IsObject b o → IsNamed o sec → SHN_LORESERVE ≤ sec → IsSome (table_of_numbers o)
has_numbers b o sec ok =
    subst (λ (x : Elf). IsNamed x sec → SHN_LORESERVE ≤ sec → IsSome (table_of_numbers x)) (sym ok.says) (at_bytes b sec ok.well_formed)
