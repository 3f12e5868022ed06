-- The section that a symbol is defined in exists.
use Rattle.std.proofs.Common.{◌≡◌, ◌<◌, ℕ, Bool, true, false, List, arith, cond}
use Rattle.std.proofs.lemmas.Bool.{ne_eqb}
use Rattle.elf_objects.specs.declared.symbol.Home.TheVariants as home
use Rattle.elf_objects.specs.File.{section_count}
use Rattle.elf_objects.specs.declared.TheConstants.{SHN_ABS, SHN_COMMON, SHN_XINDEX}
use Rattle.elf_objects.specs.Symbols.{HasHome}
use Rattle.elf_objects.specs.Symbols.HasHome.{absolute, common, plain, extended}
use Rattle.elf_objects.specs.Table.{home_of, index_entry, raw_symbol, section_home, symbol_home}

section_home-go : (n i : ℕ) (x : Bool) → cond x home.Undefined (home.Section n) ≡ home.Section i → n ≡ i
section_home-go n i true e = cc
section_home-go n i false e = cc

-- the section with a number is that one
section_home-is : (n i : ℕ) → section_home n ≡ home.Section i → n ≡ i
section_home-is n i e = section_home-go n i _ e

home_of-xindex : (n e i : ℕ) → n ≡ SHN_XINDEX → home_of n e ≡ home.Section i → e ≡ i
home_of-xindex n e i is h = let g = rw is at h in section_home-is e i g

home_of-plain : (n e i : ℕ) → n < 0xFF00 → home_of n e ≡ home.Section i → n ≡ i
home_of-plain n e i below h =
    let a = ne_eqb n SHN_ABS (λ is. omega arith) in
    let b = ne_eqb n SHN_COMMON (λ is. omega arith) in
    let c = ne_eqb n SHN_XINDEX (λ is. omega arith) in
    let g = rw (a, b, c) at h in
    section_home-is n i g

pub home-exists : (b : List ℕ) (k i : ℕ) → HasHome b k → symbol_home b k ≡ home.Section i → i < section_count b
unfolding symbol_home
home-exists b k i (absolute is) h = let g = rw is at h in cc
home-exists b k i (common is) h = let g = rw is at h in cc
home-exists b k i (plain below exists) h = let e = home_of-plain (raw_symbol b k).shndx (index_entry b k) i below h in omega arith
home-exists b k i (extended is some exists) h = let e = home_of-xindex (raw_symbol b k).shndx (index_entry b k) i is h in omega arith
