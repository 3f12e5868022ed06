-- What stands outside of a command, before and after it.
use Rattle.std.specs.Prelude.{ℕ, List, Option}
use Rattle.ot_files.specs.Content.{Content}

-- the files: what they tell of their content, and their count of faults
pub record Outside : Type 0 where
  pub content : Option Content
  pub faults : ℕ

-- an output: what was written to it, where it is told, and its count of faults
pub record Output : Type 0 where
  pub written : Option (List ℕ)
  pub faults : ℕ
