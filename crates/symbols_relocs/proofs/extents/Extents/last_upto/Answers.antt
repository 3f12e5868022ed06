use Rattle.std.proofs.Common.{◌≡◌, ◌-◌, ◌<◌, ◌≤◌, ℕ, true, false, List, length, get_or, sym, ap, ◌∙◌, subst, arith}
use Rattle.std.proofs.lemmas.List.{get_or_default}
use Rattle.ot_base.specs.Places.{is_before}
use Rattle.symbols_relocs.specs.declared.extents.Extent.{Extent}
use Rattle.symbols_relocs.specs.Extents.{has_byte, have_byte, have_start, starts_upto}
use Rattle.symbols_relocs.proofs.ExtentOrder.{no_extent, last_tells, none_upto, other_section, some_upto, upto}
use Rattle.symbols_relocs.proofs.extents.Extents.last_upto.Goals as goal

pub returns-then-count-eq0 : goal.returns-then-count-eq0
returns-then-count-eq0 c =
    let es : List Extent = c.self.inside.extents.items in
    let e = c.deref.ensures.value in
    let n = c.count_to-count.ensures in
    subst (λ (xs : List Extent). have_start xs c.args.place ≡ false) c.self.view_is
    (none_upto es c.args.place c.self.invariant.0 c.self.invariant.1 c.count_to-count.result
    (omega (arith, n.within, ap length e))
    (subst (λ (xs : List Extent). (k : ℕ) (d : Extent) → k < c.count_to-count.result → is_before c.args.place (get_or xs k d).start ≡ false) e n.upto)
    (subst (λ (xs : List Extent). (k : ℕ) (d : Extent) → c.count_to-count.result ≤ k → k < length xs → is_before c.args.place (get_or xs k d).start ≡ true) e n.behind)
    (λ k low. absurd (omega (arith, low, c.if-count-eq0.true))))

pub returns-then-last-place : goal.returns-then-last-place
returns-then-last-place c =
    let es : List Extent = c.self.inside.extents.items in
    let e = c.deref.ensures.value in
    let n = c.count_to-count.ensures in
    let count = c.count_to-count.result in
    let within : count ≤ length es = omega (arith, n.within, ap length e) in
    let some : 0 < count = positive count c.if-count-eq0.false in
    let last = count - 1 in
    let upto_ = subst (λ (xs : List Extent). (k : ℕ) (d : Extent) → k < count → is_before c.args.place (get_or xs k d).start ≡ false) e n.upto in
    let behind = subst (λ (xs : List Extent). (k : ℕ) (d : Extent) → count ≤ k → k < length xs → is_before c.args.place (get_or xs k d).start ≡ true) e n.behind in
    let own : c.index-last.result.now ≡ get_or es last no_extent = c.index-last.ensures ∙ get_or_default es last c.index-last.result.now no_extent (omega (arith, within, some)) in
    let starts : starts_upto c.args.place (get_or es last no_extent) ≡ true = upto c.args.place (get_or es last no_extent) (upto_ last no_extent (omega (arith, some))) (ap (λ (x : Extent). x.start.sec) (sym own) ∙ c.if-last-place.true) in (
      subst (λ (xs : List Extent). have_start xs c.args.place ≡ true) c.self.view_is (some_upto es c.args.place c.self.invariant.0 c.self.invariant.1 count within upto_ behind last (omega (arith, within, some)) starts),
      subst (λ (x : Extent). starts_upto c.args.place x ≡ true) (sym own) starts,
      subst (λ (xs : List Extent). have_byte xs c.args.place ≡ has_byte c.args.place c.index-last.result.now) c.self.view_is (last_tells es c.args.place c.self.invariant.0 c.self.invariant.1 count within upto_ behind last (omega (arith, some)) starts ∙ ap (has_byte c.args.place) (sym own)),
    )
  where
    positive : (n : ℕ) → (n ≡ 0 → ⊥) → 0 < n
    positive n other = grind arith

pub returns-else-last-place : goal.returns-else-last-place
returns-else-last-place c =
    let es : List Extent = c.self.inside.extents.items in
    let e = c.deref.ensures.value in
    let n = c.count_to-count.ensures in
    let count = c.count_to-count.result in
    let within : count ≤ length es = omega (arith, n.within, ap length e) in
    let some : 0 < count = positive count c.if-count-eq0.false in
    let last = count - 1 in
    let upto_ = subst (λ (xs : List Extent). (k : ℕ) (d : Extent) → k < count → is_before c.args.place (get_or xs k d).start ≡ false) e n.upto in
    let behind = subst (λ (xs : List Extent). (k : ℕ) (d : Extent) → count ≤ k → k < length xs → is_before c.args.place (get_or xs k d).start ≡ true) e n.behind in
    let own : c.index-last.result.now ≡ get_or es last no_extent = c.index-last.ensures ∙ get_or_default es last c.index-last.result.now no_extent (omega (arith, within, some)) in
    subst (λ (xs : List Extent). have_start xs c.args.place ≡ false) c.self.view_is (other_section es c.args.place c.self.invariant.0 c.self.invariant.1 count within upto_ behind last (omega (arith, some)) (λ same. c.if-last-place.false (ap (λ (x : Extent). x.start.sec) own ∙ same)))
  where
    positive : (n : ℕ) → (n ≡ 0 → ⊥) → 0 < n
    positive n other = grind arith
