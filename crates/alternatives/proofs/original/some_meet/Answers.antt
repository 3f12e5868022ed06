use Rattle.std.proofs.Common.{◌≡◌, ℕ, ◌+◌, ◌-◌, ◌<◌, List, length, get_or, inl, inr, arith, sym, ap, ◌∙◌}
use Rattle.std.proofs.lemmas.Bool.{cases_lt}
use Rattle.std.proofs.lemmas.List.{get_or_default}
use Rattle.alternatives.specs.declared.original.Original.{Original}
use Rattle.alternatives.specs.Sorted.{meets}
use Rattle.alternatives.proofs.original.some_meet.Goals as goal

none : Original
none = record { place = record { sec = 0; off = 0 }; len = 0; entry = 0 }

-- what holds of the two at i - 1 and i, read with whatever default
neighbours : (os : List Original) (i k : ℕ) (d : Original) → k + 1 ≡ i → i < length os → meets (get_or os (i - 1) none) (get_or os i none) ≡ meets (get_or os k d) (get_or os (k + 1) d)
unfolding none
neighbours os i k d is inside =
    let before : i - 1 ≡ k = omega arith in
    ap (λ j. meets (get_or os j none) (get_or os i none)) before
    ∙ ap (λ j. meets (get_or os k none) (get_or os j none)) (sym is)
    ∙ ap (λ o. meets o (get_or os (k + 1) none)) (get_or_default os k none d (omega arith))
    ∙ ap (λ o. meets (get_or os k d) o) (get_or_default os (k + 1) none d (omega arith))

pub returns-then-meets : goal.returns-then-meets
unfolding none
returns-then-meets c =
    let i : ℕ = c.loop-i.i in
    let low : 0 < i = omega (arith, c.loop-i.auto.i) in
    record {
      at = i - 1;
      inside = omega (arith, c.loop-i-test.true);
      here = λ d. sym (neighbours c.args.originals.now i (i - 1) d (omega arith) c.loop-i-test.true) ∙ sym c.meets.ensures ∙ c.if-meets.true;
    }

pub loop-i-preserved : goal.loop-i-preserved
unfolding none
loop-i-preserved c = λ k d inside.
    let i : ℕ = c.loop-i.i in
    elim (cases_lt (k + 1) i) [
      | inl lower ↦ c.loop-i.invariant k d lower
      | inr last ↦ sym (neighbours c.args.originals.now i k d (omega arith) c.loop-i-test.true) ∙ sym c.meets.ensures ∙ c.if-meets.false
    ]
