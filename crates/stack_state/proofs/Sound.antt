-- Each move is sound.
use Rattle.state_defs.specs.declared.state.State.TheVariants.{Live, Ended, Regs}
use Rattle.state_defs.specs.Sound.{MoveIsSound}
use Rattle.stack_state.proofs.Consistent.{move_consistent}
use Rattle.stack_state.proofs.LiveSound.{live_sound}
use Rattle.stack_state.proofs.RegsSound.{regs_sound}

pub move_sound : MoveIsSound
move_sound (Live depth fp home) t op before after f below consistent going fits e first told effect last =
    live_sound depth fp home before after f below t op (record { consistent = consistent; first = first; told = told; last = last }) fits effect e
    (move_consistent (Live depth fp home) t op consistent e).0
move_sound (Ended kind) t op before after f below consistent going fits e first told effect last = absurd (cc)
move_sound (Regs full depth) t op before after f below consistent going fits e first told effect last =
    regs_sound full depth before after f below t op (record { consistent = consistent; first = first; told = told; last = last }) effect e
    (move_consistent (Regs full depth) t op consistent e).0
