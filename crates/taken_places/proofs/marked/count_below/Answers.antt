use Rattle.std.proofs.Common.{◌≡◌, ◌<◌, ℕ, List, length, get_or, arith, rules, tests, ltb, inl, inr}
use Rattle.std.specs.List.Sorted.{IsNonDecreasingBy}
use Rattle.std.proofs.lemmas.Bool.{ltb-true, ltb-false, cases_lt}
use Rattle.std.proofs.lemmas.List.Sorted.{IsPartitionPoint-from_clause, IsPartitionedBy-ltb}
use Rattle.taken_places.proofs.marked.count_below.Goals as goal

weakly : (starts : List ℕ) → ((i j d : ℕ) → i < j → j < length starts → get_or starts i d < get_or starts j d) → IsNonDecreasingBy (λ (start : ℕ). start) starts
weakly starts rising i j d order inside =
    elim (cases_lt i j) [
      | inl lower ↦ let less : get_or starts i d < get_or starts j d = rising i j d lower inside in omega arith
      | inr not_lower ↦ let same : i ≡ j = omega arith in rw same (omega arith)
    ]

pub returns-clause-below : goal.returns-clause-below
returns-clause-below c =
    let point = IsPartitionPoint-from_clause (λ (start : ℕ). ltb start c.args.at) c.args.starts.now c.partition_point.result c.partition_point.ensures.partitioned
    (IsPartitionedBy-ltb (λ (start : ℕ). start) c.args.starts.now c.args.at (weakly c.args.starts.now c.requires)) (λ a r f k. search (rules, tests)) in
    λ k d h. ltb-true _ _ (point.0 k d (let bound = c.partition_point.ensures.bound in omega arith) h)

pub returns-clause-from : goal.returns-clause-from
returns-clause-from c =
    let point = IsPartitionPoint-from_clause (λ (start : ℕ). ltb start c.args.at) c.args.starts.now c.partition_point.result c.partition_point.ensures.partitioned
    (IsPartitionedBy-ltb (λ (start : ℕ). start) c.args.starts.now c.args.at (weakly c.args.starts.now c.requires)) (λ a r f k. search (rules, tests)) in
    λ k d h i. ltb-false _ _ (point.1 k d h i)
