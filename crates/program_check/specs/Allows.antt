-- When a table tells what is allowed.
use Rattle.std.specs.Prelude.{◌≡◌, ◌<◌, ℕ, false, length, slice_index_or}
use Rattle.machine_defs.specs.Allowances.{Allowances}
use Rattle.program_check.specs.declared.allowance_table.AllowanceTable.{AllowanceTable}

-- the table tells what is allowed at this many points, and at all symbols
pub record Allows (allowed : Allowances) (table : AllowanceTable) (points : ℕ) : Type 0 where
  pub branches_long : length table.safe_branches.items ≡ points
  pub branches : (q : ℕ) → q < points → slice_index_or table.safe_branches.items q false ≡ allowed.safe_branch q
  pub before_long : length table.before_user_space.items ≡ points
  pub before : (q : ℕ) → q < points → slice_index_or table.before_user_space.items q false ≡ allowed.before_user_space q
  pub smap_long : length table.lacking_smap.items ≡ points
  pub smap : (q : ℕ) → q < points → slice_index_or table.lacking_smap.items q false ≡ allowed.lacks_smap q
  pub names : (sym : ℕ) → slice_index_or table.safe_names.items sym table.empty_is_safe ≡ allowed.safe_name sym
