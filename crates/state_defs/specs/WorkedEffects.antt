-- What each operation does, from one core: rsp is at the second of four words, rbp at the third, and the caller's rbp isn't saved.
use Rattle.std.specs.Prelude.{ℕ, true, false, List, [], ◌∷◌, ◌++◌, None, pos, negsuc}
use Rattle.operation_defs.specs.declared.op.Op.TheVariants.{Plain, Nop, Endbr, Push, PushBp, Pop, PopBp, Popf, AddSp, AndSp, LeaSpBp, LeaBpSp, LeaBpRoom, SubSp, SpReg, StoreBp, LoadBp, Leave, SpOther, BpOther, Call, Hop, CallInd, Jmp, Jcc, JmpInd, Ret, RetImm, Iret, IretNext, Switch, Ud2, Int3, Stac, Clac}
use Rattle.state_defs.specs.Region.{Region}
use Rattle.state_defs.specs.Frame.{Slot, Unsaved, SavedAt, Frame}
use Rattle.state_defs.specs.Effect.{Core, Effect}

-- a word below 2 ^ 16, by its two bytes
abbrev pub word : ℕ → ℕ → List ℕ
word low high = low ∷ high ∷ 0 ∷ 0 ∷ 0 ∷ 0 ∷ 0 ∷ 0 ∷ []

-- four words: one below rsp, 7, one at rbp, and the return address 0
abbrev pub stack : List ℕ → List ℕ → Region
stack lowest third = record { lo = 0x8000; bytes = lowest ++ word 7 0 ++ third ++ word 0 0 }

abbrev pub four_words : Region
four_words = stack (word 5 0) (word 9 0)

-- with another word at the lowest address, and with rbp there, or in the third word
abbrev pub stored : Region
stored = stack (word 1 2) (word 9 0)

abbrev pub rbp_below : Region
rbp_below = stack (word 16 128) (word 9 0)

abbrev pub rbp_third : Region
rbp_third = stack (word 5 0) (word 16 128)

abbrev pub frame : Slot → List Frame
frame slot = record { call = None; ra = 0; cfa = 0x8020; bp = 0x8010; slot = slot; ac = false; ended_caller = None; mark_caller = None } ∷ []

abbrev pub before : Core
before = record { rsp = 0x8008; rbp = 0x8010; region = four_words; ac = false; shadow = frame Unsaved }

pub record HasEffects : Type 0 where
  pub plain : Effect Plain before (record before { region = stored })
  pub nop : Effect Nop before before
  pub endbr : Effect Endbr before before
  pub push : Effect Push before (record before { rsp = 0x8000; region = stored })
  pub push_bp : Effect PushBp before (record before { rsp = 0x8000; region = rbp_below; shadow = frame (SavedAt 0x8000) })
  pub pop : Effect Pop before (record before { rsp = 0x8010; region = stored })
  pub pop_bp : Effect PopBp before (record before { rsp = 0x8010; rbp = 7 })
  -- rbp is back, and isn't saved any more
  pub pop_saved_bp : Effect PopBp (record before { shadow = frame (SavedAt 0x8008) }) (record before { rsp = 0x8010; rbp = 7 })
  -- where user access is on, a popf may turn it off or leave it; where it is off, it stays off
  pub popf : Effect Popf (record before { ac = true }) (record before { rsp = 0x8010; ac = false })
  pub popf_leaves : Effect Popf (record before { ac = true }) (record before { rsp = 0x8010; ac = true })
  pub popf_off : Effect Popf before (record before { rsp = 0x8010 })
  pub popf_turns_on : Effect Popf before (record before { rsp = 0x8010; ac = true }) → ⊥
  pub add_sp : Effect (AddSp (negsuc 7)) before (record before { rsp = 0x8000 })
  pub and_sp : Effect (AndSp (negsuc 15)) before (record before { rsp = 0x8000 })
  pub lea_sp_bp : Effect (LeaSpBp (pos 8)) before (record before { rsp = 0x8018 })
  pub lea_bp_sp : Effect (LeaBpSp (pos 16)) before (record before { rbp = 0x8018 })
  pub lea_bp_room : Effect (LeaBpRoom (pos 16)) before (record before { rbp = 0x8018 })
  -- a register makes room, or leaves rsp, and doesn't raise it
  pub sub_sp : Effect SubSp before (record before { rsp = 0x8001 })
  pub sp_reg : Effect SpReg before before
  pub sub_sp_rises : Effect SubSp before (record before { rsp = 0x8010 }) → ⊥
  -- a store between rsp and the return address saves rbp, one below rsp doesn't
  pub store_bp : Effect (StoreBp (pos 8)) before (record before { region = rbp_third; shadow = frame (SavedAt 0x8010) })
  pub store_bp_below : Effect (StoreBp (negsuc 7)) before (record before { region = rbp_below })
  pub load_bp : Effect (LoadBp (pos 0)) before (record before { rbp = 7 })
  pub load_saved_bp : Effect (LoadBp (pos 0)) (record before { shadow = frame (SavedAt 0x8008) }) (record before { rbp = 7 })
  pub leave : Effect Leave (record before { shadow = frame (SavedAt 0x8010) }) (record before { rsp = 0x8018; rbp = 9 })
  pub sp_other : Effect SpOther before (record before { rsp = 1; rbp = 2; region = stored })
  pub bp_other : Effect BpOther before (record before { rbp = 2; region = stored })
  -- a call within the function pushes a word, which may be anything
  pub hop : Effect Hop before (record before { rsp = 0x8000 })
  pub jmp : Effect (Jmp (pos 0) false) before before
  pub jcc : Effect (Jcc (pos 0) false) before before
  pub jmp_ind : Effect (JmpInd None) before before
  pub iret_next : Effect IretNext before (record before { rsp = 0x8030 })
  pub ud2 : Effect Ud2 before before
  pub int3 : Effect Int3 before before
  pub stac : Effect Stac before (record before { ac = true })
  pub clac : Effect Clac (record before { ac = true }) before
  -- calls, returns and ways out of the code don't go on so
  pub call : Effect (Call (pos 0)) before before → ⊥
  pub call_ind : Effect CallInd before before → ⊥
  pub ret : Effect Ret before before → ⊥
  pub ret_imm : Effect RetImm before before → ⊥
  pub iret : Effect Iret before before → ⊥
  pub switch : Effect Switch before before → ⊥
