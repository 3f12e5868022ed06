-- Without a state something is told of an entered RESTORE alone, and of a quiet point nothing.
use Rattle.std.proofs.Common.{◌≡◌, true, false, Some, arith}
use Rattle.std.specs.Prelude.{IsSome}
use Rattle.state_defs.specs.declared.state.HintState.TheVariants.{Restore}
use Rattle.machine_defs.specs.Kept.{is_at_entry}
use Rattle.kept_states.specs.LevelStates.{at}
use Rattle.stack_rules.proofs.QuietPoints.{quiet_warns_nothing, unkept_warns_nothing}
use Rattle.stack_rules.proofs.point_rules.tells_nothing.Goals as goal

pub returns-then-not-is_kept : goal.returns-then-not-is_kept
returns-then-not-is_kept c free p tells w =
    let unkept : c.is_kept.result ≡ false = (let h = c.if-not-is_kept.true in grind arith) in
    let other : c.is_entered_restore.result ≡ false = (let h = free in grind arith) in
    let none : IsSome (at c.args.kept.now c.args.n) → ⊥ = λ some. (let kept : c.is_kept.result ≡ true = c.is_kept.ensures.1 some in cc) in
    let not_entered : p.hint c.args.n ≡ Some Restore × is_at_entry p c.args.n ≡ true → ⊥ = λ h. (let entered : c.is_entered_restore.result ≡ true = (c.is_entered_restore.ensures p tells).1 h in cc) in
    unkept_warns_nothing p c.args.kept.now c.args.n w none not_entered

pub returns : goal.returns
returns c quiet p tells w = quiet_warns_nothing p c.args.kept.now c.args.n w (c.is_quiet.ensures quiet p tells)
