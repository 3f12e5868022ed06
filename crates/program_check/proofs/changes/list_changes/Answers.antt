-- Point after point, with the rows in sites before it.
use Rattle.std.proofs.Common.{◌≡◌, ◌+◌, ◌<◌, ◌≤◌, ℕ, All, length, true, false, pos, List, [], get_or, drop, refl, sym, ap, subst, ◌∙◌, arith}
use Rattle.std.specs.Prelude.{slice_range}
use Rattle.std.proofs.lemmas.List.{drop-map, length-map, take_rest}
use Rattle.std.proofs.lemmas.List.Elements.{All-drop}
use Rattle.ot_base.specs.declared.place.Place.{Place}
use Rattle.ot_base.specs.declared.row.PlacedRow.{PlacedRow}
use Rattle.ot_base.specs.Places.{is_before}
use Rattle.machine_defs.specs.Program.{Program}
use Rattle.machine_defs.specs.Rows.{placed, row_of_point}
use Rattle.kept_states.specs.LevelStates.{at}
use Rattle.stack_rules.specs.Sites.{IsIndexOf}
use Rattle.program_check.specs.Checked.{IsCheckedBy}
use Rattle.program_check.specs.Changes.{AreRowsInSites, add_all, after_row, is_held, row_in_site, rows_in_sites}
use Rattle.program_check.proofs.Clear.{held_there, section_behind, section_from}
use Rattle.program_check.proofs.Held.{held_after}
use Rattle.program_check.proofs.Merging.{no_row, step, whole}
use Rattle.program_check.proofs.Plain.{begins_or_not}
use Rattle.program_check.proofs.Kept.{kept_is_point}
use Rattle.program_check.proofs.Staying.{same_rows}
use Rattle.program_check.proofs.SiteRows.{row_there, rows_of_range}
use Rattle.program_check.proofs.changes.list_changes.Goals as goal
use Rattle.program_check.proofs.changes.list_changes.Goals.{in-Some+in_ok-next+in_ok-put_row, in_default}

none : PlacedRow
none = record { place = record { sec = 0; off = 0 }; row = record { sp_offset = pos 0; bp_offset = pos 0; sp_reg = 0; bp_reg = 0; kind = 0; signal = false } }

pub points-preserved : goal.points-preserved
points-preserved c =
    let points : List ℕ = c.args.in_sites.now in
    let n : ℕ = c.next_change-n.result in
    let next : ℕ = c.points.next in
    let states = at c.args.kept.now in
    let inside_n : n < length c.args.graph.now.parts.points.items = (let h = c.if-n-points.false in let e = c.points-in-points.ensures.points in omega (arith, h, e)) in
    let so_far = λ (p : Program) (checked : IsCheckedBy p c.args.graph.now.parts states) (index : IsIndexOf p c.args.sites.now) (rows : AreRowsInSites p states (rows_in_sites p states points)).
    let in_sites : List PlacedRow = rows_in_sites p states points in
    let long : length in_sites ≡ length points = length-map points (row_in_site p states) in
    let h = c.points.invariant.merged p checked index rows in
    same_rows p states in_sites checked.ascending checked.laid checked.kept
    (kept_is_point p c.args.kept.now checked.kept (checked.tells.count ∙ sym c.requires.points)) rows.ascend rows c.points.from n next none h.0 c.points.rows.items h.1
    (omega (arith, long, c.points.invariant.within)) c.next_change-n.ensures.from (omega (arith, inside_n, checked.tells.count))
    (λ k low high plain l. let inside : next < length points = omega (arith, l, long) in
    ap (λ (x : PlacedRow). is_before x.place (p.place k)) (row_there p states points next none inside)
    ∙ ap (λ (z : Place). is_before z (p.place k)) (sym (c.points.invariant.waiting p checked.tells 0 inside))
    ∙ c.points.invariant.clear p checked.tells checked.ascending inside k low (c.next_change-n.ensures.to k low high) plain)
    (λ k. begins_or_not p states k (p.place k) refl c.args.sites.now index checked.laid)
    (λ k low high plain. held_there p states c.points.held c.points.rows.items c.points.from c.points.clear_to k (c.next_change-n.ensures.state k low high) (c.points.invariant.held p checked.tells) (c.points.invariant.section p checked.tells checked.ascending) low (c.next_change-n.ensures.to k low high) plain)
    h.2 in
    elim c.match-plain_place.branch [
      | in-Some+in_ok-next+in_ok-put_row w ↦
          let rows_is = w.rows-is in
          let next_is = w.next-is in
          let held_is = w.held-is in
          let waiting_is = w.waiting-is in
          let clear_to_is = w.clear_to-is in
          let end : ℕ = w.in_ok-next.next in
          rw (rows_is, next_is, held_is, waiting_is, clear_to_is) (record {
            inside = omega (arith, inside_n, c.requires.points);
            held = λ p t. subst (λ (z : Place). is_held w.put_row.new.rows.items z.sec (row_of_point states n) ≡ true) (w.in-Some.ensures.place p t) (subst (λ (xs : List PlacedRow). is_held xs w.in-Some.place.sec (row_of_point states n) ≡ true) (sym w.in_ok-put_row.ensures) (held_after w.push_up_to.new.rows.items (placed w.in-Some.place (row_of_point states n))));
            to = omega (arith, inside_n, c.requires.points);
            waiting = w.in_ok-next.ensures.waiting;
            within = w.in_ok-next.ensures.within;
            reach = omega (arith, w.in_ok-next.ensures.reach, c.requires.points);
            section = λ p t up k low high plain. w.in_ok-next.ensures.section p t up k (omega (arith, low)) high plain;
            clear = λ p t up waits k low high plain. w.in_ok-next.ensures.clear p t up waits k (omega (arith, low)) high plain;
            merged = λ p checked index rows.
                let in_sites : List PlacedRow = rows_in_sites p states points in
                let long : length in_sites ≡ length points = length-map points (row_in_site p states) in
                let row = w.in-Some.ensures.begins p checked.tells index checked.laid in
                let h = so_far p checked index rows in
                let place : w.in-Some.place ≡ p.place n = row.1 in
                let added : PlacedRow = placed w.in-Some.place (row_of_point states n) in
                let within : end ≤ length points = w.in_ok-next.ensures.within in
                let r = step p states in_sites checked.ascending checked.laid checked.kept
                (kept_is_point p c.args.kept.now checked.kept (checked.tells.count ∙ sym c.requires.points)) rows.ascend rows n next end none h.0 h.1
                w.in_ok-next.ensures.behind (omega (arith, long, within))
                (λ k l m. ap (λ (x : PlacedRow). is_before x.place (p.place n)) (row_there p states points k none (omega (arith, m, within))) ∙ subst (λ (z : Place). is_before (p.address (get_or points k 0)) z ≡ true) place (w.in_ok-next.ensures.before p checked.tells k 0 l m))
                (λ l. let inside : end < length points = omega (arith, l, long) in
                ap (λ (x : PlacedRow). is_before x.place (p.place n)) (row_there p states points end none inside)
                ∙ (ap (λ (z : Place). is_before z (p.place n)) (sym (w.in_ok-next.ensures.waiting p checked.tells 0 inside))
                ∙ w.in_ok-next.ensures.clear p checked.tells checked.ascending inside n (omega arith) w.in_ok-next.ensures.beyond (row.0).plain))
                (omega (arith, inside_n, checked.tells.count)) row.0 in (
                  r.0,
                  r.1,
                  w.in_ok-put_row.ensures
                      ∙ ap (λ (xs : List PlacedRow). after_row xs added) (w.in_ok-next.ensures.pushed p checked.tells)
                      ∙ ap (λ (xs : List PlacedRow). after_row (add_all c.points.rows.items xs) added) (sym (rows_of_range p states points next end))
                      ∙ ap (λ (xs : List PlacedRow). after_row (add_all xs (slice_range in_sites next end)) added) h.2
                      ∙ ap (λ (z : Place). after_row (add_all (add_all [] h.0) (slice_range in_sites next end)) (placed z (row_of_point states n))) place
                      ∙ sym r.2,
                );
          })
      | in_default w ↦
          let rows_is = w.rows-is in
          let next_is = w.next-is in
          let held_is = w.held-is in
          let waiting_is = w.waiting-is in
          let clear_to_is = w.clear_to-is in
          rw (rows_is, next_is, held_is, waiting_is, clear_to_is) (record {
            inside = c.points.invariant.inside;
            held = c.points.invariant.held;
            to = omega (arith, inside_n, c.requires.points);
            waiting = c.points.invariant.waiting;
            within = c.points.invariant.within;
            reach = c.points.invariant.reach;
            section = λ p t up. section_behind p c.points.held c.points.from c.points.clear_to (n + 1) (c.points.invariant.section p t up) (omega (arith, c.next_change-n.ensures.from));
            clear = λ p t up waits k low high plain. c.points.invariant.clear p t up waits k (omega (arith, low, c.next_change-n.ensures.from)) high plain;
            merged = λ p checked index rows.
                let h = so_far p checked index rows in
                (h.0, no_row p states (rows_in_sites p states points) n next h.0 h.1 (w.in_default.ensures.begins p checked.tells index checked.laid), h.2);
          })
    ]

pub push_all-requires-clause-more : goal.push_all-requires-clause-more
push_all-requires-clause-more c =
    let P : ℕ → Type 0 = λ q. q < length c.args.graph.now.parts.points.items in
    subst (All P) (sym (take_rest c.args.in_sites.now c.points.next)) (All-drop P c.points.next c.args.in_sites.now c.requires.in_sites)

pub returns-then-n-points : goal.returns-then-n-points
returns-then-n-points c p checked index rows =
    let points : List ℕ = c.args.in_sites.now in
    let states = at c.args.kept.now in
    let in_sites : List PlacedRow = rows_in_sites p states points in
    let long : length in_sites ≡ length points = length-map points (row_in_site p states) in
    let within : c.points.next ≤ length points = c.points.invariant.within in
    let so_far = c.points.invariant.merged p checked index rows in
    let all : p.count ≤ c.next_change-n.result = (let h = c.if-n-points.true in let e = c.points-in-points.ensures.points in omega (arith, h, e, checked.tells.count)) in
    let h = same_rows p states in_sites checked.ascending checked.laid checked.kept
    (kept_is_point p c.args.kept.now checked.kept (checked.tells.count ∙ sym c.requires.points)) rows.ascend rows c.points.from p.count c.points.next none so_far.0 c.points.rows.items so_far.1
    (omega (arith, long, within)) (omega (arith, c.points.invariant.to, c.requires.points, checked.tells.count)) (omega arith)
    (λ k low high plain l. let inside : c.points.next < length points = omega (arith, l, long) in
    ap (λ (x : PlacedRow). is_before x.place (p.place k)) (row_there p states points c.points.next none inside)
    ∙ ap (λ (z : Place). is_before z (p.place k)) (sym (c.points.invariant.waiting p checked.tells 0 inside))
    ∙ c.points.invariant.clear p checked.tells checked.ascending inside k low (c.next_change-n.ensures.to k low (omega (arith, high, all))) plain)
    (λ k. begins_or_not p states k (p.place k) refl c.args.sites.now index checked.laid)
    (λ k low high plain. held_there p states c.points.held c.points.rows.items c.points.from c.points.clear_to k (c.next_change-n.ensures.state k low (omega (arith, high, all))) (c.points.invariant.held p checked.tells) (c.points.invariant.section p checked.tells checked.ascending) low (c.next_change-n.ensures.to k low (omega (arith, high, all))) plain)
    so_far.2 in
    let r = whole p states in_sites p.count c.points.next none h.0 rows.ascend refl (omega (arith, within, long)) h.1 in (
      r.0,
      r.1,
      c.in_ok-push_all.ensures p checked.tells
          ∙ ap (λ (xs : List ℕ). add_all c.points.rows.items (rows_in_sites p states xs)) (take_rest points c.points.next)
          ∙ ap (λ (xs : List PlacedRow). add_all c.points.rows.items xs) (sym (drop-map (row_in_site p states) c.points.next points))
          ∙ ap (λ (xs : List PlacedRow). add_all xs (drop c.points.next in_sites)) h.2
          ∙ sym r.2,
    )

pub push_up_to-requires-clause-section : goal.push_up_to-requires-clause-section
push_up_to-requires-clause-section c p t up inside k low high plain =
    section_from p c.points.held c.points.from c.points.clear_to c.next_change-n.result (c.points.invariant.section p t up) c.next_change-n.ensures.from inside (c.plain_place.ensures.plain (let some : _ = search in some) p t) k low high plain

pub push_up_to-requires-clause-clear : goal.push_up_to-requires-clause-clear
push_up_to-requires-clause-clear c p t up waits k low high plain = c.points.invariant.clear p t up waits k (omega (arith, low, c.next_change-n.ensures.from)) high plain
