use Rattle.std.proofs.Common.{◌≡◌, rules}
use Rattle.std.proofs.lemmas.Fn.{always_returns_same}
use Rattle.orc_walk.proofs.Sorting.{key_of, in_order, same_row}
use Rattle.orc_walk.proofs.order.sort.Goals as goal

pub returns-clause-in_order : goal.returns-clause-in_order
returns-clause-in_order c =
    let computes = always_returns_same _ (λ a r. r ≡ key_of a.0.now) _ (λ a r f' k. search rules) in
    in_order _ (c.in_ok-sort_by_key.ensures.sorted key_of computes)

pub returns-clause-found : goal.returns-clause-found
returns-clause-found c =
    let computes = always_returns_same _ (λ a r. r ≡ key_of a.0.now) _ (λ a r f' k. search rules) in
    (λ address. same_row c.args.items.now.items c.sort_by_key.new.self.items address c.sort_by_key.ensures.permutation (c.in_ok-sort_by_key.ensures.sorted key_of computes) (c.sort_by_key.ensures.stable key_of computes))
