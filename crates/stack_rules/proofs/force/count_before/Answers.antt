use Rattle.std.proofs.Common.{◌<◌, ℕ, All, length, arith, rules, tests, sym, ap, ◌∙◌}
use Rattle.std.proofs.lemmas.List.Elements.{All-weaker}
use Rattle.std.proofs.lemmas.List.Sorted.{IsPartitionPoint-from_clause}
use Rattle.ot_base.specs.declared.place.Place.{Place}
use Rattle.ot_base.specs.Places.{is_before}
use Rattle.stack_rules.specs.Points.{address_by_number}
use Rattle.stack_rules.proofs.Places.{before_parted, found_at}
use Rattle.stack_rules.proofs.force.count_before.Goals as goal

pub returns-clause-before : goal.returns-clause-before
returns-clause-before c p t up =
    let known : All (λ q. q < p.count) c.args.points.now = All-weaker (λ (q : ℕ). q < length c.args.graph.now.parts.points.items) (λ (q : ℕ). q < p.count) (λ q h. omega (arith, h, t.count)) c.args.points.now c.requires in
    let point = IsPartitionPoint-from_clause (λ (q : ℕ). is_before (address_by_number p q) c.args.address) c.args.points.now c.partition_point.result c.partition_point.ensures.partitioned
    (before_parted p c.args.points.now up known c.args.address) (λ a r f k. search (rules, tests, t)) in
    λ k d h. ap (λ (a : Place). is_before a c.args.address) (sym (found_at p c.args.points.now up known k d (omega (arith, h, c.partition_point.ensures.bound)))) ∙ point.0 k d (omega arith) h

pub returns-clause-from : goal.returns-clause-from
returns-clause-from c p t up =
    let known : All (λ q. q < p.count) c.args.points.now = All-weaker (λ (q : ℕ). q < length c.args.graph.now.parts.points.items) (λ (q : ℕ). q < p.count) (λ q h. omega (arith, h, t.count)) c.args.points.now c.requires in
    let point = IsPartitionPoint-from_clause (λ (q : ℕ). is_before (address_by_number p q) c.args.address) c.args.points.now c.partition_point.result c.partition_point.ensures.partitioned
    (before_parted p c.args.points.now up known c.args.address) (λ a r f k. search (rules, tests, t)) in
    λ k d h i. ap (λ (a : Place). is_before a c.args.address) (sym (found_at p c.args.points.now up known k d i)) ∙ point.1 k d h i
