-- When a table tells what an object and the lists of names allow.
use Rattle.std.proofs.Common.{◌≡◌, ◌≤◌, ℕ, Bool, false, List, [], length, get_or, inl, inr, sym, ap, ◌∙◌, arith}
use Rattle.std.specs.FinSet as set
use Rattle.std.proofs.lemmas.Bool.{cases_lt}
use Rattle.std.proofs.lemmas.List.{get_or_default, get_or_past}
use Rattle.ot_base.specs.NameLists.{NameLists}
use Rattle.ot_base.specs.declared.options.Options.{Options}
use Rattle.elf_objects.specs.Elf.{Elf, SymbolEntry}
use Rattle.flow_defs.specs.Coded.{Coded}
use Rattle.elf_objects.specs.Contents.{no_symbol}
use Rattle.program_check.specs.Allows.{Allows}
use Rattle.program_check.specs.declared.allowance_table.AllowanceTable.{AllowanceTable}
use Rattle.flow_defs.specs.Code.{point_at, points_of_object}
use Rattle.object_check.specs.Allowances.{allowances_of, is_before_user_space, is_safe_branch, is_safe_name, lacks_smap}
use Rattle.object_check.specs.Flags.{AreFlags}

-- a number that is no symbol's has the empty name
none_named : (o : Elf) (lists : NameLists) (k : ℕ) → length o.symbols ≤ k → set.contains lists.access_safe [] ≡ is_safe_name o lists k
unfolding is_safe_name
none_named o lists k past = ap (λ (s : SymbolEntry). set.contains lists.access_safe s.name) (sym (get_or_past o.symbols k no_symbol past))

names_told : (o : Elf) (lists : NameLists) (flags : List Bool) (empty : Bool) → AreFlags (is_safe_name o lists) (length o.symbols) flags → empty ≡ set.contains lists.access_safe [] → (k : ℕ) → get_or flags k empty ≡ is_safe_name o lists k
names_told o lists flags empty are is k = elim (cases_lt k (length o.symbols)) [
  | inl inside ↦ get_or_default flags k empty false (omega (arith, are.long, inside)) ∙ are.each k inside
  | inr past ↦ get_or_past flags k empty (omega (arith, are.long, past)) ∙ is ∙ none_named o lists k past
]

pub allows : (o : Coded) (lists : NameLists) (options : Options) (table : AllowanceTable)
    → AreFlags (λ q. is_safe_branch o (point_at o q)) (length (points_of_object o)) table.safe_branches.items
    → AreFlags (λ q. is_before_user_space o options (point_at o q)) (length (points_of_object o)) table.before_user_space.items
    → AreFlags (λ q. lacks_smap o (point_at o q)) (length (points_of_object o)) table.lacking_smap.items
    → AreFlags (is_safe_name o.elf lists) (length o.elf.symbols) table.safe_names.items
    → table.empty_is_safe ≡ set.contains lists.access_safe []
    → Allows (allowances_of o lists options) table (length (points_of_object o))
unfolding allowances_of
allows o lists options table branches initial smap names empty = record {
  branches_long = branches.long;
  branches = branches.each;
  before_long = initial.long;
  before = initial.each;
  smap_long = smap.long;
  smap = smap.each;
  names = names_told o.elf lists table.safe_names.items table.empty_is_safe names empty;
}
