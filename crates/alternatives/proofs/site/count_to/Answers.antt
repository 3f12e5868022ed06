use Rattle.std.proofs.Common.{◌≡◌, ℕ, ◌-◌, true, List, get_or, inl, inr, refl, sym, ap, ◌∙◌, arith}
use Rattle.std.proofs.lemmas.Bool.{cases_lt}
use Rattle.std.proofs.lemmas.List.{get_or_default}
use Rattle.ot_base.specs.Places.{is_before}
use Rattle.alternatives.specs.declared.site.AlternativesSite.{AlternativesSite}
use Rattle.alternatives.proofs.Order.{behind_on, from_on}
use Rattle.alternatives.proofs.site.count_to.Goals as goal

none : AlternativesSite
none = record { start = record { sec = 0; off = 0 }; len = 0; first = 0; count = 0 }

pub loop-count-init : goal.loop-count-init
loop-count-init c = λ k d less.
    from_on c.args.sites.now c.args.place c.requires k (c.args.near - 1) d (omega arith) (omega (arith, c.if-not-are_from.ensures.within refl)) (c.if-not-are_from.ensures.last refl d (omega arith))

pub loop-count-preserved : goal.loop-count-preserved
unfolding none
loop-count-preserved c = λ k d less.
    let sites : List AlternativesSite = c.args.sites.now in
    let n : ℕ = c.loop-count.count in
    elim (cases_lt k n) [
      | inl lower ↦ c.loop-count.invariant k d lower
      | inr not_lower ↦
          let is : k ≡ n = omega arith in
          ap (λ j. is_before c.args.place (get_or sites j d).start) is
          ∙ ap (λ (s : AlternativesSite). is_before c.args.place s.start) (get_or_default sites n d none c.loop-count-test.true)
          ∙ sym c.is_before.ensures ∙ c.if-is_before.false
    ]

pub returns-then-is_before-clause-behind : goal.returns-then-is_before-clause-behind
unfolding none
returns-then-is_before-clause-behind c = λ k d order inside.
    let sites : List AlternativesSite = c.args.sites.now in
    let n : ℕ = c.loop-count.count in
    let here : is_before c.args.place (get_or sites n d).start ≡ true =
    ap (λ (s : AlternativesSite). is_before c.args.place s.start) (get_or_default sites n d none c.loop-count-test.true) ∙ sym c.is_before.ensures ∙ c.if-is_before.true in
    behind_on sites c.args.place c.requires n k d order inside here
