-- Sections of an object.
use Rattle.std.specs.Prelude.{ℕ}

-- a section of code: its number in the section header table, and its size in bytes
pub record TextSection : Type 0 where
  pub sec : ℕ
  pub size : ℕ
