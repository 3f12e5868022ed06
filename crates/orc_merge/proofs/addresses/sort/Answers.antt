use Rattle.std.proofs.Common.{◌≡◌, rules}
use Rattle.std.proofs.lemmas.Fn.{always_returns_same}
use Rattle.std.proofs.lemmas.List.Sorted.{IsPermutation-map}
use Rattle.orc_walk.specs.Rows.{addressed_row}
use Rattle.orc_walk.proofs.Sorting.{key_of, in_order}
use Rattle.orc_merge.proofs.SortLemmas.{stable_rows}
use Rattle.orc_merge.proofs.addresses.sort.Goals as goal

pub returns-clause-moved : goal.returns-clause-moved
returns-clause-moved c = IsPermutation-map addressed_row c.args.items.now.items c.sort_by_key.new.self.items c.sort_by_key.ensures.permutation

pub returns-clause-in_order : goal.returns-clause-in_order
returns-clause-in_order c =
    let computes = always_returns_same _ (λ a r. r ≡ key_of a.0.now) _ (λ a r f' k. search rules) in
    in_order _ (c.in_ok-sort_by_key.ensures.sorted key_of computes)

pub returns-clause-ties : goal.returns-clause-ties
returns-clause-ties c =
    let computes = always_returns_same _ (λ a r. r ≡ key_of a.0.now) _ (λ a r f' k. search rules) in
    stable_rows _ _ (c.sort_by_key.ensures.stable key_of computes)
