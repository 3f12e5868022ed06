use Rattle.std.proofs.Common.{◌≡◌, ◌<◌, List, get_or, arith, rules, tests, ltb, inl, inr}
use Rattle.std.specs.List.Sorted.{IsNonDecreasingBy}
use Rattle.std.proofs.lemmas.Bool.{ltb-true, ltb-false, cases_lt}
use Rattle.std.proofs.lemmas.List.Sorted.{IsPartitionPoint-from_clause, IsPartitionedBy-ltb}
use Rattle.alternatives.specs.declared.texts.SectionText.{SectionText}
use Rattle.alternatives.specs.Texts.{AscendBySection}
use Rattle.control_flow.proofs.preceding.count_below.Goals as goal

weakly : (texts : List SectionText) → AscendBySection texts → IsNonDecreasingBy (λ (t : SectionText). t.sec) texts
weakly texts ascend i j d order inside =
    elim (cases_lt i j) [
      | inl lower ↦ let less : (get_or texts i d).sec < (get_or texts j d).sec = ascend i j d lower inside in omega arith
      | inr not_lower ↦ let same : i ≡ j = omega arith in rw same (omega arith)
    ]

pub returns-clause-below : goal.returns-clause-below
returns-clause-below c =
    let point = IsPartitionPoint-from_clause (λ (t : SectionText). ltb t.sec c.args.sec) c.args.texts.now c.partition_point.result c.partition_point.ensures.partitioned
    (IsPartitionedBy-ltb (λ (t : SectionText). t.sec) c.args.texts.now c.args.sec (weakly c.args.texts.now c.requires)) (λ a r f k. search (rules, tests)) in
    λ k d h. ltb-true _ _ (point.0 k d (omega arith) h)

pub returns-clause-above : goal.returns-clause-above
returns-clause-above c =
    let point = IsPartitionPoint-from_clause (λ (t : SectionText). ltb t.sec c.args.sec) c.args.texts.now c.partition_point.result c.partition_point.ensures.partitioned
    (IsPartitionedBy-ltb (λ (t : SectionText). t.sec) c.args.texts.now c.args.sec (weakly c.args.texts.now c.requires)) (λ a r f k. search (rules, tests)) in
    λ k d h i. ltb-false _ _ (point.1 k d h i)
