use Rattle.std.proofs.Common.{ℕ, ◌∷◌, [], List, get_or, take, refl, sym, ap, ◌∙◌}
use Rattle.std.proofs.lemmas.List.{map-append, take_all, take_more}
use Rattle.ot_base.specs.declared.place.Place.{Place}
use Rattle.ot_base.specs.declared.row.PlacedRow.{PlacedRow}
use Rattle.machine_defs.specs.Rows.{placed, row_of_point}
use Rattle.kept_states.specs.LevelStates.{at}
use Rattle.program_check.specs.Changes.{add_all, after_row, row_in_site, rows_in_sites}
use Rattle.program_check.proofs.Merging.{add_all-append}
use Rattle.program_check.proofs.changes.push_all.Goals as goal

pub loop-n-init : goal.loop-n-init
loop-n-init c = record { pushed = λ p t. refl }

pub loop-n-preserved : goal.loop-n-preserved
loop-n-preserved c =
    let more : List ℕ = c.args.more.now in
    let states = at c.args.kept.now in
    let i : ℕ = c.loop-n.n-index in
    let x : ℕ = get_or more i 0 in
    record {
      pushed = λ p t.
          let front : List PlacedRow = rows_in_sites p states (take i more) in
          c.in_ok-put_row_in_site.ensures
          ∙ ap (λ (rows : List PlacedRow). after_row rows (placed c.address.result (row_of_point states x))) (c.loop-n.invariant.pushed p t)
          ∙ ap (λ (a : Place). after_row (add_all c.args.rows.now.items front) (placed a (row_of_point states x))) (c.address.ensures p t)
          ∙ sym (add_all-append c.args.rows.now.items front (row_in_site p states x ∷ []))
          ∙ ap (λ (rows : List PlacedRow). add_all c.args.rows.now.items rows) (sym (map-append (row_in_site p states) (take i more) (x ∷ [])))
          ∙ ap (λ (xs : List ℕ). add_all c.args.rows.now.items (rows_in_sites p states xs)) (sym (take_more more i 0 c.loop-n-test.true));
    }

pub returns : goal.returns
returns c p t = c.loop-n.invariant.pushed p t ∙ ap (λ (xs : List ℕ). add_all c.args.rows.now.items (rows_in_sites p (at c.args.kept.now) xs)) (take_all c.loop-n.n-index c.args.more.now c.loop-n-test.false)
