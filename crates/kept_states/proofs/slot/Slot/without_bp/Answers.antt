use Rattle.std.proofs.Common.{◌≡◌, false, arith, rules}
use Rattle.kept_states.proofs.Short.{in_16_bits}
use Rattle.kept_states.proofs.WordMoves.{lose_bp_slot}
use Rattle.kept_states.proofs.slot.Slot.without_bp.Goals as goal

pub returns-in-KnownSaved : goal.returns-in-KnownSaved
returns-in-KnownSaved c wide other =
    let short : c.args.self.is_wide ≡ false = (let h = c.if-not-self.true in grind arith) in
    lose_bp_slot c.args.self wide other short c.in-KnownSaved.is (in_16_bits c.args.self.depth (search rules)) (in_16_bits c.args.self.fp (search rules)) (in_16_bits c.args.self.home (search rules))
