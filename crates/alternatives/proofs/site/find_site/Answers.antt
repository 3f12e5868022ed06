use Rattle.std.proofs.Common.{◌≡◌, ℕ, ◌-◌, ◌<◌, ◌≤◌, List, length, get_or, inl, inr, arith, sym, ap, ◌∙◌}
use Rattle.std.proofs.lemmas.Bool.{cases_lt}
use Rattle.std.proofs.lemmas.List.{get_or_default}
use Rattle.alternatives.specs.declared.site.AlternativesSite.{AlternativesSite}
use Rattle.alternatives.specs.Sites.{in_alternatives_site}
use Rattle.alternatives.proofs.Order.{before_not_held, behind_not_held}
use Rattle.alternatives.proofs.site.find_site.Goals as goal

none : AlternativesSite
none = record { start = record { sec = 0; off = 0 }; len = 0; first = 0; count = 0 }

pub returns-else-in_alternatives_site : goal.returns-else-in_alternatives_site
unfolding none
returns-else-in_alternatives_site c = λ k d inside.
    let sites : List AlternativesSite = c.args.sites.now in
    let n : ℕ = c.count_to-count.result in
    let last : ℕ = n - 1 in
    let some : 0 < n = omega (arith, c.if-count-eq0.false) in
    let n_in : n ≤ length sites = c.count_to-count.ensures.within in
    elim (cases_lt k last) [
      | inl lower ↦ behind_not_held c.args.place (get_or sites last d).start (get_or sites k d) (c.count_to-count.ensures.from last d (omega arith)) (c.requires.apart k last d lower (omega arith))
      | inr not_lower ↦ elim (cases_lt k n) [
        | inl here ↦
            let is : k ≡ last = omega arith in
            ap (λ j. in_alternatives_site (get_or sites j d) c.args.place) is
            ∙ ap (λ s. in_alternatives_site s c.args.place) (get_or_default sites last d none (omega arith))
            ∙ sym c.in_alternatives_site.ensures ∙ c.if-in_alternatives_site.false
        | inr above ↦ before_not_held c.args.place (get_or sites k d) (c.count_to-count.ensures.behind k d above inside)
      ]
    ]
