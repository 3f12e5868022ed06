-- The unchecked owners of an object, in a list.
use Rattle.std.specs.Prelude.{◌≡◌, ◌≤◌, ◌<◌, ◌==◌, ℕ, Bool, List, length, slice_index}
use Rattle.std.specs.List.{list_any}
use Rattle.elf_objects.specs.Elf.{Elf}
use Rattle.flow_defs.specs.Owners.{is_unchecked_owner}

-- numbers ascend, some of them more than once
abbrev pub AreAscending : List ℕ → Type 0
AreAscending ns = (i j : ℕ) → i ≤ j → j < length ns → slice_index ns i ≤ slice_index ns j

-- a number is among these
abbrev pub is_among : List ℕ → ℕ → Bool
is_among ns n = list_any (λ k. k == n) ns

-- the owners that are unchecked, ascending
pub record AreUnchecked (o : Elf) (owners : List ℕ) : Type 0 where
  pub ascending : AreAscending owners
  pub all : (owner : ℕ) → is_among owners owner ≡ is_unchecked_owner o owner
