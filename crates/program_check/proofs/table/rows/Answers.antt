-- Section by section, the rows that begin in the program.
use Rattle.std.proofs.Common.{◌≡◌, ◌<◌, ℕ, All, List, Option, length, subst, sym, ap, ◌∙◌, arith}
use Rattle.std.proofs.lemmas.List.Elements.{All-weaker}
use Rattle.std.proofs.Math.Logic.{∥∥₁_elim}
use Rattle.std.proofs.Props.{props}
use Rattle.std.proofs.lemmas.Result.{IfOk-weaker}
use Rattle.ot_base.specs.declared.row.PlacedRow.{PlacedRow}
use Rattle.machine_defs.specs.Rows.{rows_of}
use Rattle.state_defs.specs.declared.state.State.{State}
use Rattle.machine_defs.specs.Program.{TextSection}
use Rattle.kept_states.specs.LevelStates.{at}
use Rattle.stack_rules.specs.Points.{AreSitePoints}
use Rattle.program_check.specs.Changes.{AreFirstOf, AreRowsInSites, rows_in_sites}
use Rattle.program_check.specs.Ends.{with_ends}
use Rattle.program_check.proofs.Kept.{kept_is_point}
use Rattle.program_check.proofs.SiteRows.{in_program}
use Rattle.program_check.proofs.Whole.{all_is}
use Rattle.program_check.proofs.Joined.{table_is}
use Rattle.program_check.proofs.table.rows.Goals as goal

rows_are_one : (xs ys : List PlacedRow) → IsProp (xs ≡ ys)
rows_are_one xs ys = Prim.hlevel props

within_prop : (xs : List ℕ) (n : ℕ) → IsProp (All (λ q. q < n) xs)
within_prop xs n = Prim.hlevel props

pub first_points-requires : goal.first_points-requires
first_points-requires c =
    let long : ℕ = length c.args.graph.now.parts.points.items in
    ∥∥₁_elim c.requires.listed (within_prop c.args.points.now long) (λ listed. All-weaker (λ (q : ℕ). q < length c.args.kept.now) (λ (q : ℕ). q < long) (λ q h. omega (arith, h, c.requires.points)) c.args.points.now listed.within)

pub returns : goal.returns
returns c = IfOk-weaker c.with_ends.result _ _ (λ rows made p checked. ∥∥₁_elim c.requires.listed (rows_are_one rows.items (rows_of p (at c.args.kept.now))) (λ listed.
    let kept : List (Option State) = c.args.kept.now in
    let points : AreSitePoints p c.args.points.now = listed.listed p checked.tells checked.laid checked.kept in
    let firsts : List ℕ = c.deref.result.now in
    let first : AreFirstOf p c.args.points.now firsts = subst (AreFirstOf p c.args.points.now) (sym c.deref.ensures.value) (c.in_ok-in_sites.ensures.first p checked.tells) in
    let in_sites : AreRowsInSites p (at kept) (rows_in_sites p (at kept) firsts) = in_program p (at kept) c.args.points.now firsts points first in
    let changes = c.in_ok-changes.ensures p checked (c.in_ok-sites.ensures p checked.tells) in_sites in
    let all = all_is p (at kept) checked.laid checked.kept checked.accepted (kept_is_point p kept checked.kept (checked.tells.count ∙ sym c.requires.points)) (rows_in_sites p (at kept) firsts) changes.0 in_sites changes.1 in
    made
    ∙ ap (λ (texts : List TextSection). with_ends texts c.in_ok-changes.changes.items) (c.texts.ensures p checked.tells)
    ∙ ap (with_ends p.texts) changes.2
    ∙ table_is p (at kept) changes.0 checked.laid.sections all)) c.with_ends.ensures
