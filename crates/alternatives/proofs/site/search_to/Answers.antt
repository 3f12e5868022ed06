use Rattle.std.proofs.Common.{◌≡◌, ◌⊎◌, Bool, true, false, not, List, get_or, inl, inr, arith, rules, tests, refl, sym, ap, ◌∙◌}
use Rattle.std.specs.List.Sorted.{IsPartitionedBy}
use Rattle.std.proofs.lemmas.Bool.{cases_lt}
use Rattle.std.proofs.lemmas.List.Sorted.{IsPartitionPoint-from_clause}
use Rattle.ot_base.specs.declared.place.Place.{Place}
use Rattle.ot_base.specs.Places.{is_before}
use Rattle.alternatives.specs.declared.site.AlternativesSite.{AlternativesSite}
use Rattle.alternatives.specs.Sites.{AscendApart}
use Rattle.alternatives.proofs.Order.{before_on}
use Rattle.alternatives.proofs.site.search_to.Goals as goal

not_true : (b : Bool) → not b ≡ true → b ≡ false
not_true b h = elim b as (λ b. not b ≡ true → b ≡ false) [ true ↦ λ k. sym k | false ↦ λ k. refl ] h

not_false : (b : Bool) → not b ≡ false → b ≡ true
not_false b h = elim b as (λ b. not b ≡ false → b ≡ true) [ true ↦ λ k. refl | false ↦ λ k. sym k ] h

cases : (b : Bool) → (b ≡ true) ⊎ (b ≡ false)
cases b = elim b as (λ b. (b ≡ true) ⊎ (b ≡ false)) [ true ↦ inl refl | false ↦ inr refl ]

parted : (sites : List AlternativesSite) (place : Place) → AscendApart sites → IsPartitionedBy (λ (s : AlternativesSite). not (is_before place s.start)) sites
parted sites place apart i j d order inside h =
    let p : AlternativesSite = get_or sites i d in
    let q : AlternativesSite = get_or sites j d in
    elim (cases_lt i j) [
      | inl lower ↦ elim (cases (is_before place p.start)) [
        | inr clear ↦ ap not clear
        | inl before ↦
            let after : is_before place q.start ≡ true = before_on place p.start q.start p.len before (apart i j d lower inside) in
            let bad : false ≡ true = sym (ap not after) ∙ h in
            cc
      ]
      | inr last ↦ let is : j ≡ i = omega arith in ap (λ k. not (is_before place (get_or sites k d).start)) (sym is) ∙ h
    ]

pub returns-clause-from : goal.returns-clause-from
returns-clause-from c =
    let point = IsPartitionPoint-from_clause (λ (s : AlternativesSite). not (is_before c.args.place s.start)) c.args.sites.now c.partition_point.result c.partition_point.ensures.partitioned
    (parted c.args.sites.now c.args.place c.requires) (λ a r f k. search (rules, tests)) in
    λ k d h. not_true _ (point.0 k d (omega arith) h)

pub returns-clause-behind : goal.returns-clause-behind
returns-clause-behind c =
    let point = IsPartitionPoint-from_clause (λ (s : AlternativesSite). not (is_before c.args.place s.start)) c.args.sites.now c.partition_point.result c.partition_point.ensures.partitioned
    (parted c.args.sites.now c.args.place c.requires) (λ a r f k. search (rules, tests)) in
    λ k d h i. not_false _ (point.1 k d h i)
