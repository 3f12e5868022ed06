-- Sorted by the key, then each once.
use Rattle.std.proofs.Common.{◌≡◌, ◌↔◌, Contains, List, sym, subst, rules}
use Rattle.std.specs.Prelude.{AllPairs}
use Rattle.std.specs.List.{dedup}
use Rattle.std.proofs.lemmas.Fn.{always_returns_same}
use Rattle.std.proofs.lemmas.List.Filters.{dedup_is}
use Rattle.ot_base.specs.declared.warning.Warning.{Warning}
use Rattle.stack_rules.specs.Before.{ComesBefore}
use Rattle.stack_rules.proofs.WarningOrder.{key_of, same_warning, ascending, same_members}
use Rattle.stack_rules.proofs.sorting.sort_warnings.Goals as goal

pub returns-clause-members : goal.returns-clause-members
returns-clause-members c =
    let sorted : List Warning = c.sort_unstable_by_key.new.self.items in
    let is : c.dedup.new.self.items ≡ dedup same_warning sorted = dedup_is same_warning sorted c.dedup.new.self.items c.dedup.ensures.filtered in
    λ w. subst (λ (xs : List Warning). Contains xs w ↔ Contains c.args.warnings.now.items w) (sym is) (same_members c.args.warnings.now.items sorted c.sort_unstable_by_key.ensures.permutation w)

pub returns-clause-ascending : goal.returns-clause-ascending
returns-clause-ascending c =
    let sorted : List Warning = c.sort_unstable_by_key.new.self.items in
    let is : c.dedup.new.self.items ≡ dedup same_warning sorted = dedup_is same_warning sorted c.dedup.new.self.items c.dedup.ensures.filtered in
    let computes = always_returns_same _ (λ a r. r ≡ key_of a.0.now) _ (λ a r f' k. search rules) in
    subst (AllPairs ComesBefore) (sym is) (ascending sorted (c.sort_unstable_by_key.ensures.sorted key_of computes))
