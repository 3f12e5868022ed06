-- What moves nothing over saved registers.
use Rattle.std.proofs.Common.{◌≡◌, ◌≢◌, Bool, ℤ, refl}
use Rattle.operation_defs.specs.declared.op.Op.{Op}
use Rattle.operation_defs.specs.declared.op.Op.TheVariants.{Push, PushBp, Hop, Pop, Popf, AddSp, PopBp, LeaBpSp, LeaBpRoom, LoadBp, BpOther, AndSp, LeaSpBp, Leave, SpOther, SubSp, SpReg, IretNext}
use Rattle.state_defs.specs.declared.state.State.TheVariants.{Regs}
use Rattle.state_defs.specs.Move.{to, move_regs}

-- each operation but those that move the depth, lose rbp, or are refused
pub regs_stay : (full : Bool) (depth : ℤ) (op : Op)
    → op ≢ Push → op ≢ PushBp → op ≢ Hop → op ≢ Pop → op ≢ Popf → ((by : ℤ) → op ≢ AddSp by)
    → op ≢ PopBp → ((by : ℤ) → op ≢ LeaBpSp by) → ((by : ℤ) → op ≢ LeaBpRoom by) → ((at : ℤ) → op ≢ LoadBp at) → op ≢ BpOther → ((mask : ℤ) → op ≢ AndSp mask)
    → ((by : ℤ) → op ≢ LeaSpBp by) → op ≢ Leave → op ≢ SpOther → op ≢ SubSp → op ≢ SpReg → op ≢ IretNext
    → move_regs full depth op ≡ to (Regs full depth)
regs_stay full depth Push n0 n1 n2 n3 n4 n5 n6 n7 n8 n9 n10 n11 n12 n13 n14 n15 n16 n17 = absurd (n0 refl)
regs_stay full depth PushBp n0 n1 n2 n3 n4 n5 n6 n7 n8 n9 n10 n11 n12 n13 n14 n15 n16 n17 = absurd (n1 refl)
regs_stay full depth Hop n0 n1 n2 n3 n4 n5 n6 n7 n8 n9 n10 n11 n12 n13 n14 n15 n16 n17 = absurd (n2 refl)
regs_stay full depth Pop n0 n1 n2 n3 n4 n5 n6 n7 n8 n9 n10 n11 n12 n13 n14 n15 n16 n17 = absurd (n3 refl)
regs_stay full depth Popf n0 n1 n2 n3 n4 n5 n6 n7 n8 n9 n10 n11 n12 n13 n14 n15 n16 n17 = absurd (n4 refl)
regs_stay full depth (AddSp by) n0 n1 n2 n3 n4 n5 n6 n7 n8 n9 n10 n11 n12 n13 n14 n15 n16 n17 = absurd (n5 by refl)
regs_stay full depth PopBp n0 n1 n2 n3 n4 n5 n6 n7 n8 n9 n10 n11 n12 n13 n14 n15 n16 n17 = absurd (n6 refl)
regs_stay full depth (LeaBpSp by) n0 n1 n2 n3 n4 n5 n6 n7 n8 n9 n10 n11 n12 n13 n14 n15 n16 n17 = absurd (n7 by refl)
regs_stay full depth (LeaBpRoom by) n0 n1 n2 n3 n4 n5 n6 n7 n8 n9 n10 n11 n12 n13 n14 n15 n16 n17 = absurd (n8 by refl)
regs_stay full depth (LoadBp at) n0 n1 n2 n3 n4 n5 n6 n7 n8 n9 n10 n11 n12 n13 n14 n15 n16 n17 = absurd (n9 at refl)
regs_stay full depth BpOther n0 n1 n2 n3 n4 n5 n6 n7 n8 n9 n10 n11 n12 n13 n14 n15 n16 n17 = absurd (n10 refl)
regs_stay full depth (AndSp mask) n0 n1 n2 n3 n4 n5 n6 n7 n8 n9 n10 n11 n12 n13 n14 n15 n16 n17 = absurd (n11 mask refl)
regs_stay full depth (LeaSpBp by) n0 n1 n2 n3 n4 n5 n6 n7 n8 n9 n10 n11 n12 n13 n14 n15 n16 n17 = absurd (n12 by refl)
regs_stay full depth Leave n0 n1 n2 n3 n4 n5 n6 n7 n8 n9 n10 n11 n12 n13 n14 n15 n16 n17 = absurd (n13 refl)
regs_stay full depth SpOther n0 n1 n2 n3 n4 n5 n6 n7 n8 n9 n10 n11 n12 n13 n14 n15 n16 n17 = absurd (n14 refl)
regs_stay full depth SubSp n0 n1 n2 n3 n4 n5 n6 n7 n8 n9 n10 n11 n12 n13 n14 n15 n16 n17 = absurd (n15 refl)
regs_stay full depth SpReg n0 n1 n2 n3 n4 n5 n6 n7 n8 n9 n10 n11 n12 n13 n14 n15 n16 n17 = absurd (n16 refl)
regs_stay full depth IretNext n0 n1 n2 n3 n4 n5 n6 n7 n8 n9 n10 n11 n12 n13 n14 n15 n16 n17 = absurd (n17 refl)
regs_stay full depth _ n0 n1 n2 n3 n4 n5 n6 n7 n8 n9 n10 n11 n12 n13 n14 n15 n16 n17 = refl
