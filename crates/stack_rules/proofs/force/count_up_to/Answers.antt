use Rattle.std.proofs.Common.{◌<◌, ℕ, All, length, arith, rules, tests, not, sym, ap, ◌∙◌}
use Rattle.std.proofs.lemmas.Bool.{not-true, not-false}
use Rattle.std.proofs.lemmas.List.Elements.{All-weaker}
use Rattle.std.proofs.lemmas.List.Sorted.{IsPartitionPoint-from_clause}
use Rattle.ot_base.specs.Places.{is_before}
use Rattle.stack_rules.specs.Points.{address_by_number}
use Rattle.stack_rules.specs.Disagree.{ahead_of}
use Rattle.stack_rules.proofs.Places.{found_at, up_to_parted}
use Rattle.stack_rules.proofs.force.count_up_to.Goals as goal

pub returns-clause-up_to : goal.returns-clause-up_to
returns-clause-up_to c p t up =
    let known : All (λ q. q < p.count) c.args.points.now = All-weaker (λ (q : ℕ). q < length c.args.graph.now.parts.points.items) (λ (q : ℕ). q < p.count) (λ q h. omega (arith, h, t.count)) c.args.points.now c.requires in
    let point = IsPartitionPoint-from_clause (λ (q : ℕ). not (is_before (ahead_of c.args.address c.args.ahead) (address_by_number p q))) c.args.points.now c.partition_point.result c.partition_point.ensures.partitioned
    (up_to_parted p c.args.points.now up known (ahead_of c.args.address c.args.ahead)) (λ a r f k. search (rules, tests, t)) in
    λ k d h. ap (is_before (ahead_of c.args.address c.args.ahead)) (sym (found_at p c.args.points.now up known k d (omega (arith, h, c.partition_point.ensures.bound)))) ∙ not-true _ (point.0 k d (omega arith) h)

pub returns-clause-behind : goal.returns-clause-behind
returns-clause-behind c p t up =
    let known : All (λ q. q < p.count) c.args.points.now = All-weaker (λ (q : ℕ). q < length c.args.graph.now.parts.points.items) (λ (q : ℕ). q < p.count) (λ q h. omega (arith, h, t.count)) c.args.points.now c.requires in
    let point = IsPartitionPoint-from_clause (λ (q : ℕ). not (is_before (ahead_of c.args.address c.args.ahead) (address_by_number p q))) c.args.points.now c.partition_point.result c.partition_point.ensures.partitioned
    (up_to_parted p c.args.points.now up known (ahead_of c.args.address c.args.ahead)) (λ a r f k. search (rules, tests, t)) in
    λ k d h i. ap (is_before (ahead_of c.args.address c.args.ahead)) (sym (found_at p c.args.points.now up known k d i)) ∙ not-false _ (point.1 k d h i)
