-- The stack isn't as it has to be for a return: a reason for it, from a sum of the reasons.
use Rattle.std.proofs.Common.{◌≡◌, ◌≢◌, ℕ, ◌<◌, ◌⊎◌, true, false, List, [], ◌∷◌, length, inl, inr, arith}
use Rattle.state_defs.specs.Address.{up, down}
use Rattle.state_defs.specs.Region.{Reads}
use Rattle.state_defs.specs.Frame.{is_of_call, Frame}
use Rattle.state_defs.specs.Effect.{Core}
use Rattle.machine_defs.specs.Step.{MissesReturn, no_return, return_in_interrupt, other_return, other_depth, other_rbp, MissesIret, no_interrupt, iret_in_call, other_address, other_rsp, other_interrupted_rbp}
use Rattle.machine_model.specs.declared.frame.Frame.{Frame as OwnFrame}
use Rattle.machine_model.specs.Frame.{frames_of}

pub return_missed : (core : Core) (f : Frame) (fs : List Frame) → (is_of_call f.slot ≡ false) ⊎ (((word : ℕ) × Reads core.memory core.rsp word × (word ≢ f.ra)) ⊎ ((core.rsp ≢ down f.cfa 8) ⊎ (core.rbp ≢ f.bp))) → MissesReturn core (f ∷ fs)
return_missed core f fs (inl h) = return_in_interrupt f fs h
return_missed core f fs (inr (inl h)) = other_return f fs h.0 h.1 h.2
return_missed core f fs (inr (inr (inl h))) = other_depth f fs h
return_missed core f fs (inr (inr (inr h))) = other_rbp f fs h

pub iret_missed : (core : Core) (f : Frame) (fs : List Frame) → (is_of_call f.slot ≡ true) ⊎ (((word : ℕ) × Reads core.memory core.rsp word × (word ≢ f.ra)) ⊎ (((word : ℕ) × Reads core.memory (up core.rsp 24) word × (word ≢ f.cfa)) ⊎ (core.rbp ≢ f.bp))) → MissesIret core (f ∷ fs)
iret_missed core f fs (inl h) = iret_in_call f fs h
iret_missed core f fs (inr (inl h)) = other_address f fs h.0 h.1 h.2
iret_missed core f fs (inr (inr (inl h))) = other_rsp f fs h.0 h.1 h.2
iret_missed core f fs (inr (inr (inr h))) = other_interrupted_rbp f fs h

-- there is no frame
pub none_returns : (core : Core) (xs : List OwnFrame) → length xs < 1 → MissesReturn core (frames_of xs)
none_returns core [] h = no_return
none_returns core (x ∷ xs) h = absurd (omega arith)

pub none_irets : (core : Core) (xs : List OwnFrame) → length xs < 1 → MissesIret core (frames_of xs)
none_irets core [] h = no_interrupt
none_irets core (x ∷ xs) h = absurd (omega arith)
