-- Whether the point begins a row, by the site that holds it.
use Rattle.std.proofs.Common.{◌≡◌, ◌↔◌, Bool, false, IsTrue, IsSome, Option, Some, None, sym, refl, ◌∙◌}
use Rattle.state_defs.specs.declared.state.State.{State}
use Rattle.kept_states.specs.LevelStates.{at}
use Rattle.stack_rules.proofs.ListedPoints.{index_apart}
use Rattle.program_check.proofs.Plain.{kept_begins_none, behind_begins_none, start_begins, outside_begins}
use Rattle.program_check.proofs.changes.plain_place.Goals as goal
use Rattle.program_check.proofs.changes.plain_place.Goals.{then-is_kept-via-then-is_kept, then-is_kept-via-else-is_kept+then-ne}

none_of : (o : Option State) (b : Bool) → IsTrue b ↔ IsSome o → b ≡ false → o ≡ None
none_of None b same h = refl
none_of (Some s) b same h = let t : IsTrue b = same.1 refl in absurd (let k : ⊥ = cc in k)

pub returns-then-is_kept-clause-begins : goal.returns-then-is_kept-clause-begins
returns-then-is_kept-clause-begins c p t index laid begins =
    let place : c.place-place.result ≡ p.place c.args.n = c.place-place.ensures p t in
    elim c.then-is_kept.branch [
      | then-is_kept-via-then-is_kept w ↦
          kept_begins_none p (at c.args.kept.now) c.args.n c.place-place.result place c.args.sites.now index laid c.in-Some.site c.in-Some.ensures.held.0 c.in-Some.ensures.held.1
          (c.is_kept.ensures.0 w.if-is_kept.true) begins
      | then-is_kept-via-else-is_kept+then-ne w ↦
          behind_begins_none p (at c.args.kept.now) c.args.n c.place-place.result place c.args.sites.now index laid c.in-Some.site c.in-Some.ensures.held.0 c.in-Some.ensures.held.1
          (sym w.ne.ensures ∙ w.if-ne.true) begins
    ]

pub returns-else-ne-clause-begins : goal.returns-else-ne-clause-begins
returns-else-ne-clause-begins c p t index laid =
    let place : c.place-place.result ≡ p.place c.args.n = c.place-place.ensures p t in (
      start_begins p (at c.args.kept.now) c.args.n c.place-place.result place c.args.sites.now index laid c.in-Some.site c.in-Some.ensures.held.0 c.in-Some.ensures.held.1
          (none_of (at c.args.kept.now c.args.n) c.is_kept.result c.is_kept.ensures c.if-is_kept.false)
          (sym c.ne.ensures ∙ c.if-ne.false) (sym (c.variant.ensures p t) ∙ c.if-variant-ne0.false),
      place,
    )

pub returns-in_default-clause-begins : goal.returns-in_default-clause-begins
returns-in_default-clause-begins c p t index laid =
    let place : c.place-place.result ≡ p.place c.args.n = c.place-place.ensures p t in (
      outside_begins p (at c.args.kept.now) c.args.n c.place-place.result place c.args.sites.now index laid (c.in_default.ensures.none (index_apart p c.args.sites.now laid index))
          (sym (c.variant.ensures p t) ∙ c.if-variant-ne0.false),
      place,
    )
