-- What an operation does to registers, memory and slots.
use Rattle.std.specs.Prelude.{◌≡◌, ℕ, ◌^◌, ◌<◌, ◌≤◌, Bool, true, false, ◌&&◌, List, [], ◌∷◌, ◌==◌, MatchBool, bit_and, FitsSigned, ℤ, pos, ◌+ℤ◌, int_le}
use Rattle.std.specs.Int.{w64}
use Rattle.operation_defs.specs.declared.op.Op.{Op}
use Rattle.operation_defs.specs.declared.op.Op.TheVariants.{Plain, Nop, Endbr, Push, PushBp, Pop, PopBp, Popf, AddSp, AndSp, LeaSpBp, LeaBpSp, LeaBpRoom, SubSp, SpReg, StoreBp, LoadBp, Leave, SpOther, BpOther, Call, Hop, CallInd, Jmp, Jcc, JmpInd, Ret, RetImm, Iret, IretNext, Switch, Ud2, Int3, Stac, Clac}
use Rattle.state_defs.specs.Address.{up, down, shifted}
use Rattle.state_defs.specs.Region.{Region, hi_of, IsRegion, Reads, WritesOnly, WritesWord, Stores}
use Rattle.state_defs.specs.Frame.{Slot, Unsaved, SavedAt, PartialAt, FullAt, Frame, protected_addresses, loaded_slot, popped_slot, with_top_slot, after_save}

-- what an operation acts on: the registers that matter to the stack, the stack in memory, whether
-- user access is on, and the shadow call stack, the top frame first
pub record Core : Type 0 where
  pub rsp : ℕ
  pub rbp : ℕ
  pub region : Region
  pub ac : Bool
  pub shadow : List Frame

-- the registers are 64-bit numbers, the region is one, and rsp is in it or right behind it
pub record IsInStack (core : Core) : Type 0 where
  pub rbp : core.rbp < 2 ^ 64
  pub region : IsRegion core.region
  pub above_lo : core.region.lo ≤ core.rsp
  pub below_hi : core.rsp ≤ hi_of core.region

-- the number in an operation has 64 bits, as one that was decoded has
abbrev pub HasSignedNumber : Op → Type 0
HasSignedNumber (AddSp by) = FitsSigned w64 by
HasSignedNumber (AndSp mask) = FitsSigned w64 mask
HasSignedNumber (LeaSpBp by) = FitsSigned w64 by
HasSignedNumber (LeaBpSp by) = FitsSigned w64 by
HasSignedNumber (LeaBpRoom by) = FitsSigned w64 by
HasSignedNumber (StoreBp at) = FitsSigned w64 at
HasSignedNumber (LoadBp at) = FitsSigned w64 at
HasSignedNumber _ = Unit {0}

-- ordinary stores: any value to any bytes outside protected slots
abbrev pub StoresOrdinarily : Core → Core → Type 0
StoresOrdinarily before after = Stores (protected_addresses before.shadow) before.region after.region

-- whether rbp isn't saved yet in a call frame
abbrev pub is_unsaved : Slot → Bool
is_unsaved Unsaved = true
is_unsaved (SavedAt a) = false
is_unsaved (PartialAt a) = false
is_unsaved (FullAt a) = false

-- Whether a store of rbp at rsp + at saves it for the top frame: rbp is still the caller's and isn't
-- saved yet, and the slot lies at or above rsp and below the return address. The sum is plain.
abbrev pub store_saves : ℕ → ℕ → ℤ → List Frame → Bool
store_saves rsp rbp at [] = false
store_saves rsp rbp at (f ∷ fs) = is_unsaved f.slot && (rbp == f.bp && (int_le (pos 0) at && int_le (pos rsp +ℤ (at +ℤ pos 16)) (pos f.cfa)))

-- rsp falls, or stays where it is
abbrev pub MakesRoom : Core → Core → Type 0
MakesRoom before after = (after.rsp ≤ before.rsp) × (after ≡ record before { rsp = after.rsp })

-- What the operation may do to registers, memory and slots where control goes on in the function.
-- What isn't named stays. Words are read from the memory before it, and one outside the region may be
-- anything. Pushes write below rsp wherever that is. Calls, returns and ways out of the code don't go
-- on so (⊥): the machine's step has lines of their own for them. A register that is subtracted from rsp,
-- or to which rsp is set, makes room: rsp doesn't rise. That is a premise; the machine's step says where
-- it isn't asked, and these two write rsp in any way. Premise *flags that are loaded keep user access
-- off*: where it is off, a popf loads flags that were saved with it off.
abbrev pub Effect : Op → Core → Core → Type 0
Effect Plain c d = StoresOrdinarily c d × (d ≡ record c { region = d.region })
Effect Nop c d = d ≡ c
Effect Endbr c d = d ≡ c
Effect Push c d = WritesOnly (down c.rsp 8) 8 c.region d.region × (d ≡ record c { rsp = down c.rsp 8; region = d.region })
Effect PushBp c d = WritesWord (down c.rsp 8) c.rbp c.region d.region × (d ≡ record c { rsp = down c.rsp 8; region = d.region; shadow = after_save c.rbp (down c.rsp 8) c.shadow })
Effect Pop c d = StoresOrdinarily c d × (d ≡ record c { rsp = up c.rsp 8; region = d.region })
Effect PopBp c d = Reads c.region c.rsp d.rbp × (d ≡ record c { rsp = up c.rsp 8; rbp = d.rbp; shadow = with_top_slot (popped_slot c.rsp) c.shadow })
Effect Popf c d = (c.ac ≡ false → d.ac ≡ false) × (d ≡ record c { rsp = up c.rsp 8; ac = d.ac })
Effect (AddSp by) c d = d ≡ record c { rsp = shifted c.rsp by }
Effect (AndSp mask) c d = d ≡ record c { rsp = bit_and c.rsp (shifted 0 mask) }
Effect (LeaSpBp by) c d = d ≡ record c { rsp = shifted c.rbp by }
Effect (LeaBpSp by) c d = d ≡ record c { rbp = shifted c.rsp by }
Effect (LeaBpRoom by) c d = d ≡ record c { rbp = shifted c.rsp by }
Effect SubSp c d = MakesRoom c d
Effect SpReg c d = MakesRoom c d
Effect (StoreBp at) c d =
    WritesWord (shifted c.rsp at) c.rbp c.region d.region
    × MatchBool (store_saves c.rsp c.rbp at c.shadow)
    (d ≡ record c { region = d.region; shadow = after_save c.rbp (shifted c.rsp at) c.shadow })
    (StoresOrdinarily c d × (d ≡ record c { region = d.region }))
Effect (LoadBp at) c d = Reads c.region (shifted c.rsp at) d.rbp × (d ≡ record c { rbp = d.rbp; shadow = with_top_slot (loaded_slot (shifted c.rsp at)) c.shadow })
Effect Leave c d = Reads c.region c.rbp d.rbp × (d ≡ record c { rsp = up c.rbp 8; rbp = d.rbp; shadow = with_top_slot (loaded_slot c.rbp) c.shadow })
Effect SpOther c d = StoresOrdinarily c d × (d ≡ record c { rsp = d.rsp; rbp = d.rbp; region = d.region })
Effect BpOther c d = StoresOrdinarily c d × (d ≡ record c { rbp = d.rbp; region = d.region })
Effect (Call rel) c d = ⊥
Effect Hop c d = WritesOnly (down c.rsp 8) 8 c.region d.region × (d ≡ record c { rsp = down c.rsp 8; region = d.region })
Effect CallInd c d = ⊥
Effect (Jmp rel wide) c d = d ≡ c
Effect (Jcc rel wide) c d = d ≡ c
Effect (JmpInd table) c d = d ≡ c
Effect Ret c d = ⊥
Effect RetImm c d = ⊥
Effect Iret c d = ⊥
Effect IretNext c d = d ≡ record c { rsp = up c.rsp 40 }
Effect Switch c d = ⊥
Effect Ud2 c d = d ≡ c
Effect Int3 c d = d ≡ c
Effect Stac c d = d ≡ record c { ac = true }
Effect Clac c d = d ≡ record c { ac = false }
