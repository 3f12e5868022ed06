-- What a push leaves in memory.
use Rattle.std.proofs.Common.{◌≡◌, ◌+◌, ◌-◌, ◌^◌, ◌<◌, ◌≤◌, List, arith}
use Rattle.std.proofs.lemmas.List.Elements.{All-weaker}
use Rattle.state_defs.specs.Address.{down}
use Rattle.state_defs.specs.Region.{WritesOnly}
use Rattle.state_defs.specs.Frame.{Frame, Protected}
use Rattle.state_defs.specs.Effect.{Core, IsInStack}
use Rattle.stack_state.proofs.Memory.{beside_held}
use Rattle.stack_state.proofs.Outcomes.{EachHeld}
use Rattle.stack_state.proofs.Slots.{Each}

-- a push that stays in the stack doesn't wrap
pub push_fits : (before after : Core) → IsInStack before → IsInStack after → after.rsp ≡ down before.rsp 8 → after.rsp + 8 ≡ before.rsp
push_fits before after first last e =
    let low : before.rsp < 2 ^ 64 - 2 ^ 30 = omega (arith, first.below_hi, first.region.below_end) in
    let high : down before.rsp 8 < 2 ^ 64 - 2 ^ 30 = omega (arith, last.below_hi, last.region.below_end, e) in
    omega (arith, e)

pub pushed_held : (before after : Core) (frames : List Frame) → IsInStack before → IsInStack after → after.rsp ≡ down before.rsp 8
    → WritesOnly (down before.rsp 8) 8 before.region after.region → Each (λ (s : Protected). before.rsp ≤ s.at) frames
    → EachHeld before.region frames → EachHeld after.region frames
pushed_held before after frames first last e w above h =
    let fits : after.rsp + 8 ≡ before.rsp = push_fits before after first last e in
    let end : down before.rsp 8 + 8 ≡ before.rsp = omega (arith, fits, e) in
    let short : down before.rsp 8 + 8 ≤ 2 ^ 64 = omega (arith, end, first.below_hi, first.region.below_end) in
    beside_held (down before.rsp 8) before.region after.region frames w short
    (All-weaker (λ (s : Protected). before.rsp ≤ s.at) (λ (s : Protected). down before.rsp 8 + 8 ≤ s.at) (λ s p. omega (arith, p, end)) _ above) h
