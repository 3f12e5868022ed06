-- The model's lists of what is allowed, as the definitions have it.
use Rattle.std.specs.Prelude.{ℕ, Bool, List, ◌==◌}
use Rattle.std.specs.List.{list_any}
use Rattle.machine_defs.specs.Allowances.{Allowances}
use Rattle.machine_model.specs.declared.allowed.Allowed.{Allowed}

abbrev pub is_listed : List ℕ → ℕ → Bool
is_listed numbers number = list_any (λ other. other == number) numbers

abbrev pub allowances_of : Allowed → Allowances
allowances_of a = record {
  safe_branch = λ q. is_listed a.safe_branches.now q;
  before_user_space = λ q. is_listed a.before_user_space.now q;
  safe_name = λ sym. is_listed a.safe_names.now sym;
  lacks_smap = λ q. is_listed a.lacking_smap.now q;
}
