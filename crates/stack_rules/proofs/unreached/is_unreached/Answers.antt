-- A point that keeps no state, and one that keeps one.
use Rattle.std.proofs.Common.{◌≡◌, None, IsSome, arith}
use Rattle.machine_defs.specs.Program.{IsPoint}
use Rattle.kept_states.specs.LevelStates.{at}
use Rattle.stack_rules.proofs.Consistency.{not_kept, has_none}
use Rattle.stack_rules.proofs.ByState.{none_of}
use Rattle.stack_rules.proofs.unreached.is_unreached.Goals as goal

pub returns-clause-unreached : goal.returns-clause-unreached
returns-clause-unreached c p ch holes =
    let same = c.is_telling.ensures p ch.tells holes in
    let none : at c.args.kept.now c.args.n ≡ None = none_of _ _ c.is_kept.ensures c.if-is_kept.false in
    let point : IsPoint p c.args.n = omega (arith, c.if-n-points.false, c.points.ensures.points, ch.tells.count) in (
      λ h. let k = same.0 h in record { point = point; plain = k.plain; checked = k.checked; reachable = k.reachable; covered = k.covered; apart = k.apart; telling = k.telling; not_kept = not_kept p c.args.graph.now.parts c.args.kept.now ch c.args.n none },
      λ u. same.1 (record { plain = u.plain; checked = u.checked; reachable = u.reachable; covered = u.covered; apart = u.apart; telling = u.telling }),
    )

pub returns-then-is_kept-clause-unreached : goal.returns-then-is_kept-clause-unreached
returns-then-is_kept-clause-unreached c p ch holes = (
  λ h. absurd (let z : ⊥ = cc in z),
  λ u. absurd (let none : at c.args.kept.now c.args.n ≡ None = has_none p c.args.graph.now.parts c.args.kept.now ch c.args.n u.not_kept in
      let some : IsSome (at c.args.kept.now c.args.n) = c.is_kept.ensures.0 c.if-is_kept.true in let z : ⊥ = grind arith in z),
)
