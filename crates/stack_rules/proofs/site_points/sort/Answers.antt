use Rattle.std.proofs.Common.{◌≡◌, ◌<◌, ℕ, length, arith, rules}
use Rattle.std.proofs.lemmas.Fn.{always_returns_same}
use Rattle.std.proofs.lemmas.List.Elements.{All-weaker}
use Rattle.std.proofs.lemmas.List.Sorted.{All-permutation}
use Rattle.stack_rules.specs.Points.{key_by_number}
use Rattle.stack_rules.proofs.Order.{points_in_order}
use Rattle.stack_rules.proofs.site_points.sort.Goals as goal

pub returns-clause-ordered : goal.returns-clause-ordered
returns-clause-ordered c p t =
    let computes = always_returns_same _ (λ a r. r ≡ key_by_number p a.0.now) _ (λ a r f' k. search (rules, t)) in
    points_in_order p c.sort_by_key.new.self.items
    (All-permutation (λ (q : ℕ). q < p.count) c.args.points.now.items c.sort_by_key.new.self.items c.in_ok-sort_by_key.ensures.permutation
    (All-weaker (λ (q : ℕ). q < length c.args.graph.now.parts.points.items) (λ (q : ℕ). q < p.count) (λ q h. omega (arith, h, t.count)) c.args.points.now.items c.requires))
    (c.in_ok-sort_by_key.ensures.sorted (key_by_number p) computes)
