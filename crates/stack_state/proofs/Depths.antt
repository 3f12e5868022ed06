-- How the depth follows rsp.
use Rattle.std.proofs.Common.{◌≡◌, ℕ, ◌≤◌, ℤ, pos, neg_ℤ, ◌+ℤ◌, ◌≤ℤ◌, arith}
use Rattle.std.specs.Prelude.{bit_and}
use Rattle.std.proofs.lemmas.Int.{ints}
use Rattle.std.proofs.lemmas.Nat.{and_le_l}
use Rattle.state_defs.specs.declared.state.Depth.{Depth}
use Rattle.state_defs.specs.declared.state.Depth.TheVariants.{Known, AtLeast}
use Rattle.state_defs.specs.Address.{shifted}
use Rattle.state_defs.specs.State.{depth_of, with_depth, MeansDepth}
use Rattle.stack_state.proofs.Addresses.{IsTurned, turned_from, turned_turned, shifted_from, IsNear}
use Rattle.stack_state.proofs.Outcomes.{IsWithin, room}

-- an address k above one that is n below the top is n - k below it
pub place_moved : (from to top : ℕ) (k n m : ℤ) → from ≡ shifted top (neg_ℤ n) → to ≡ shifted from k → m +ℤ k ≡ n → to ≡ shifted top (neg_ℤ m)
place_moved from to top k n m e d s =
    let first : IsTurned from top (neg_ℤ n) = turned_from from top (neg_ℤ n) e in
    let then : IsTurned to from k = turned_from to from k d in
    shifted_from to top (neg_ℤ m) (turned_turned from to top (neg_ℤ n) k (neg_ℤ m) first then (omega (arith, ints)))

-- rsp rises by k
pub depth_moved : (depth : Depth) (from to cfa : ℕ) (k m : ℤ) → MeansDepth depth from cfa → to ≡ shifted from k → m +ℤ k ≡ depth_of depth
    → IsWithin to cfa → IsNear m → pos 0 ≤ℤ m → pos 0 ≤ℤ depth_of depth → MeansDepth (with_depth depth m) to cfa
depth_moved (Known n) from to cfa k m d e s w near low deep = place_moved from to cfa k n m d e s
depth_moved (AtLeast n) from to cfa k m d e s w near low deep =
    let turned : IsTurned to from k = turned_from to from k e in
    omega (arith, ints, w.low, w.high, near.high, near.low)

-- rsp is masked
pub depth_masked : (depth : Depth) (from cfa mask : ℕ) → MeansDepth depth from cfa → IsWithin from cfa → IsNear (depth_of depth)
    → (pos (bit_and from mask) +ℤ depth_of depth) ≤ℤ pos cfa
depth_masked depth from cfa mask d w near =
    let space : (pos from +ℤ depth_of depth) ≤ℤ pos cfa = room depth from cfa w near d in
    let less : bit_and from mask ≤ from = and_le_l from mask in
    omega (arith, ints)

-- rsp is lowered
pub depth_lowered : (depth : Depth) (from to cfa : ℕ) → MeansDepth depth from cfa → IsWithin from cfa → IsNear (depth_of depth) → to ≤ from
    → (pos to +ℤ depth_of depth) ≤ℤ pos cfa
depth_lowered depth from to cfa d w near less =
    let space : (pos from +ℤ depth_of depth) ≤ℤ pos cfa = room depth from cfa w near d in
    omega (arith, ints)
