-- What an object says of its sections and entries, beside its program. Only the entry rules look at it.
use Rattle.std.specs.Prelude.{ℕ, Bool}

pub record EntryFacts : Type 0 where
  -- Whether the code of the section with this number isn't instrumented (Linux 6.6, asm/compiler_types.h, `noinstr`).
  pub noinstr : ℕ → Bool
  -- Whether the address of the entry at this point is taken, and the object doesn't excuse it from an ENDBR.
  pub taken : ℕ → Bool
