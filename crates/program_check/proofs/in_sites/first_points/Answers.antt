-- Each point that runs elsewhere than the one before is added.
use Rattle.std.proofs.Common.{◌≡◌, ◌≢◌, ◌⊎◌, ◌<◌, ◌+◌, ◌-◌, ℕ, Option, Some, None, inl, inr, List, All, get_or, length, refl, sym, ap, subst, ◌∙◌, arith}
use Rattle.std.proofs.lemmas.Bool.{cases_lt}
use Rattle.std.proofs.lemmas.List.Elements.{All-get_or, All-nil, All-push}
use Rattle.ot_base.specs.declared.place.Place.{Place}
use Rattle.machine_defs.specs.Program.{Program}
use Rattle.program_graph.specs.Tells.{Tells}
use Rattle.program_check.proofs.SiteRows.{AreSoFar, firsts_are, none_so_far, one_more, one_passed}
use Rattle.program_check.proofs.in_sites.first_points.Goals as goal
use Rattle.program_check.proofs.in_sites.first_points.Goals.{then-is_first+in_ok-push, else-is_first}

pub loop-i-init : goal.loop-i-init
loop-i-init c =
    let P : ℕ → Type 0 = λ q. q < length c.args.graph.now.parts.points.items in
    record {
      within = subst (All P) (sym c.new-firsts.ensures.items) (All-nil P);
      first = λ p t. subst (AreSoFar p c.args.points.now 0) (sym c.new-firsts.ensures.items) (none_so_far p c.args.points.now);
      none = λ e. refl;
      some = λ p t l. absurd (let z : 0 < 0 = l in omega (arith, z));
    }

-- an address that isn't known to be that of the point before is another one
differs : (i : ℕ) (before : Option Place) (last here found : Place) → (0 < i → before ≡ Some last) → found ≡ here → before ≢ Some found → (i ≡ 0) ⊎ (last ≢ here)
differs i before last here found some is other = elim (cases_lt 0 i) [
  | inl l ↦ inr (λ e. other (some l ∙ ap Some (e ∙ sym is)))
  | inr l ↦ inl (omega arith)
]

-- one that is known to be that is the same
some_before : (i : ℕ) (before : Option Place) (found : Place) → (i ≡ 0 → before ≡ None) → before ≡ Some found → i ≢ 0
some_before i before found none is e = let n : before ≡ None = none e in let k : ⊥ = cc in k

is_same : (before : Option Place) (last here found : Place) → before ≡ Some last → found ≡ here → before ≡ Some found → last ≡ here
is_same before last here found some at is = let e : last ≡ found = cc in e ∙ at

positive : (i : ℕ) → i ≢ 0 → 0 < i
positive i some = elim (cases_lt 0 i) [ inl l ↦ l | inr l ↦ absurd (some (omega arith)) ]

pub loop-i-preserved : goal.loop-i-preserved
loop-i-preserved c =
    let points : List ℕ = c.args.points.now in
    let i : ℕ = c.loop-i.i in
    let firsts : List ℕ = c.loop-i.firsts.items in
    let P : ℕ → Type 0 = λ q. q < length c.args.graph.now.parts.points.items in
    let here = λ (p : Program) (t : Tells p c.args.graph.now.parts). ap Some (c.address-address.ensures p t ∙ ap (λ (k : ℕ). p.address (get_or points k 0)) (let e : i ≡ i + 1 - 1 = omega arith in e)) in
    elim c.if-is_first.branch [
      | then-is_first+in_ok-push w ↦
          let is = w.firsts-is in
          let pushed = w.in_ok-push.ensures.items in
          rw (is, pushed) (record {
            within = All-push P firsts (get_or points i 0) c.loop-i.invariant.within (All-get_or P points i 0 c.loop-i-test.true c.requires);
            first = λ p t. one_more p points i 0 c.loop-i-test.true firsts (c.loop-i.invariant.first p t)
                (differs i c.loop-i.before (p.address (get_or points (i - 1) 0)) (p.address (get_or points i 0)) c.address-address.result (c.loop-i.invariant.some p t) (c.address-address.ensures p t) (c.is_first.ensures.first w.if-is_first.true));
            none = λ e. absurd (omega (arith, e));
            some = λ p t l. here p t;
          })
      | else-is_first w ↦
          let is = w.firsts-is in
          let other = c.is_first.ensures.other w.if-is_first.false in
          let some : i ≢ 0 = some_before i c.loop-i.before c.address-address.result c.loop-i.invariant.none other in
          rw is (record {
            within = c.loop-i.invariant.within;
            first = λ p t. one_passed p points i 0 c.loop-i-test.true firsts (c.loop-i.invariant.first p t) some
                (is_same c.loop-i.before (p.address (get_or points (i - 1) 0)) (p.address (get_or points i 0)) c.address-address.result (c.loop-i.invariant.some p t (positive i some)) (c.address-address.ensures p t) other);
            none = λ e. absurd (omega (arith, e));
            some = λ p t l. here p t;
          })
    ]

pub returns-clause-first : goal.returns-clause-first
returns-clause-first c p t = firsts_are p c.args.points.now c.loop-i.i c.loop-i.firsts.items c.loop-i-test.false c.loop-i.auto.i-end (c.loop-i.invariant.first p t)
