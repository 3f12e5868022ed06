use Rattle.std.proofs.Common.{◌≡◌, ℕ, ◌-◌, ◌≤◌, ◌∷◌, [], true, false, List, get_or, take, drop, inl, inr, sym, ap, subst, ◌∙◌, arith}
use Rattle.std.specs.Prelude.{slice_range}
use Rattle.std.proofs.lemmas.Bool.{cases_lt}
use Rattle.std.proofs.lemmas.List.{get_or_default, map-append}
use Rattle.ot_base.specs.declared.place.Place.{Place}
use Rattle.ot_base.specs.declared.row.PlacedRow.{PlacedRow}
use Rattle.ot_base.specs.Places.{is_before}
use Rattle.machine_defs.specs.Rows.{placed, row_of_point}
use Rattle.kept_states.specs.LevelStates.{at}
use Rattle.program_check.specs.Changes.{add_all, after_row, row_in_site, rows_in_sites}
use Rattle.program_check.proofs.Merging.{add_all-append, slice_more}
use Rattle.program_check.proofs.changes.push_before.Goals as goal

pub loop-end-init : goal.loop-end-init
loop-end-init c = record {
  pushed = λ p t. let none : c.args.from - c.args.from ≡ 0 = omega arith in sym (ap (λ (n : ℕ). add_all c.args.rows.now.items (rows_in_sites p (at c.args.kept.now) (take n (drop c.args.from c.args.more.now)))) none);
  before = λ p t k d l m. absurd (omega (arith, l, m));
}

pub loop-end-preserved : goal.loop-end-preserved
loop-end-preserved c =
    let more : List ℕ = c.args.more.now in
    let states = at c.args.kept.now in
    let end : ℕ = c.loop-end.end in
    let x : ℕ = get_or more end 0 in
    let low : c.args.from ≤ end = c.loop-end.auto.end in
    record {
      pushed = λ p t.
          let front : List PlacedRow = rows_in_sites p states (slice_range more c.args.from end) in
          c.in_ok-put_row_in_site.ensures
          ∙ ap (λ (rows : List PlacedRow). after_row rows (placed c.address-address.result (row_of_point states x))) (c.loop-end.invariant.pushed p t)
          ∙ ap (λ (a : Place). after_row (add_all c.args.rows.now.items front) (placed a (row_of_point states x))) (c.address-address.ensures p t)
          ∙ sym (add_all-append c.args.rows.now.items front (row_in_site p states x ∷ []))
          ∙ ap (λ (rows : List PlacedRow). add_all c.args.rows.now.items rows) (sym (map-append (row_in_site p states) (slice_range more c.args.from end) (x ∷ [])))
          ∙ ap (λ (xs : List ℕ). add_all c.args.rows.now.items (rows_in_sites p states xs)) (sym (slice_more more c.args.from end 0 low c.loop-end-test.true));
      before = λ p t k d l m. elim (cases_lt k end) [
        | inl lower ↦ c.loop-end.invariant.before p t k d l lower
        | inr same ↦
            let e : end ≡ k = omega arith in
            let before : is_before (p.address x) c.args.place ≡ true = ap (λ (a : Place). is_before a c.args.place) (sym (c.address-address.ensures p t)) ∙ (sym c.is_before.ensures ∙ c.if-not-is_before.false) in
            subst (λ (q : ℕ). is_before (p.address q) c.args.place ≡ true) (get_or_default more end 0 d c.loop-end-test.true ∙ ap (λ (j : ℕ). get_or more j d) e) before
      ];
    }

pub returns-then-not-is_before-clause-other : goal.returns-then-not-is_before-clause-other
returns-then-not-is_before-clause-other c p t d l =
    let after : is_before (p.address (get_or c.args.more.now c.loop-end.end 0)) c.args.place ≡ false = ap (λ (a : Place). is_before a c.args.place) (sym (c.address-address.ensures p t)) ∙ (sym c.is_before.ensures ∙ c.if-not-is_before.true) in
    subst (λ (q : ℕ). is_before (p.address q) c.args.place ≡ false) (get_or_default c.args.more.now c.loop-end.end 0 d l) after
