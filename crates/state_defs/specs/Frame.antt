-- Frames of the shadow call stack: what a debugger that watched every call would know. The shadow
-- stands beside memory, and no instruction reads it.
use Rattle.std.specs.Prelude.{ℕ, ◌≤◌, Bool, true, false, List, [], ◌∷◌, Option, Some, None, map, flat_map, All, ◌==◌, if◌then◌else◌}
use Rattle.state_defs.specs.declared.state.EndKind.{EndKind}
use Rattle.state_defs.specs.Address.{up, down}
use Rattle.state_defs.specs.Region.{Region, Holds}

-- What kind of frame it is, and where it keeps what. A call frame is Unsaved where its caller's rbp
-- isn't in memory, or SavedAt the address where it is. An interrupt frame is PartialAt the address
-- of the saved ip, cs, flags, sp and ss, or FullAt the address of a whole pt_regs: 168 bytes, with
-- bp at 32, ip at 128 and sp at 152.
pub data Slot : Type 0 where
  Unsaved : Slot
  SavedAt : ℕ → Slot
  PartialAt : ℕ → Slot
  FullAt : ℕ → Slot

abbrev pub is_of_call : Slot → Bool
is_of_call Unsaved = true
is_of_call (SavedAt address) = true
is_of_call (PartialAt address) = false
is_of_call (FullAt address) = false

-- the last SAVE hint passed on a level: its point, and what rsp, rbp, the top frame's slot and the
-- end of the stack were there
pub record Mark : Type 0 where
  pub point : ℕ
  pub rsp : ℕ
  pub rbp : ℕ
  pub slot : Option Slot
  pub ended : Option EndKind

-- A frame. In a call frame ra is the return address, cfa the caller's rsp and bp the caller's rbp; in
-- an interrupt frame they are the interrupted address, rsp and rbp. `call` is the point of the call,
-- or the interrupted point; a frame that was there at the start has none. `ac` is user access when
-- it was made, and `ended_caller` and `mark_caller` are those of the level below.
pub record Frame : Type 0 where
  pub call : Option ℕ
  pub ra : ℕ
  pub cfa : ℕ
  pub bp : ℕ
  pub slot : Slot
  pub ac : Bool
  pub ended_caller : Option EndKind
  pub mark_caller : Option Mark

-- the slot of the top frame, where there is a frame
abbrev pub top_slot : List Frame → Option Slot
top_slot [] = None
top_slot (f ∷ fs) = Some f.slot

-- a word of memory that a walk needs: its address, and the value that it holds
pub record Protected : Type 0 where
  pub at : ℕ
  pub value : ℕ

-- the protected slots of a frame, by its kind: its slot, ra, cfa and bp
abbrev pub protected_by : Slot → ℕ → ℕ → ℕ → List Protected
protected_by Unsaved ra cfa bp = record { at = down cfa 8; value = ra } ∷ []
protected_by (SavedAt a) ra cfa bp = record { at = down cfa 8; value = ra } ∷ record { at = a; value = bp } ∷ []
protected_by (PartialAt a) ra cfa bp = record { at = a; value = ra } ∷ record { at = up a 24; value = cfa } ∷ []
protected_by (FullAt a) ra cfa bp = record { at = up a 32; value = bp } ∷ record { at = up a 128; value = ra } ∷ record { at = up a 152; value = cfa } ∷ []

abbrev pub protected : Frame → List Protected
protected f = protected_by f.slot f.ra f.cfa f.bp

-- the addresses of the protected slots of these frames
abbrev pub protected_addresses : List Frame → List ℕ
protected_addresses frames = map (λ slot. slot.at) (flat_map protected frames)

-- The frames that a walk is to find: from the top, down to the first whose caller's stack had ended,
-- that one included, or to the last; none where the stack has ended at the top.
abbrev pub listed : Option EndKind → List Frame → List Frame
listed (Some kind) frames = []
listed None [] = []
listed None (f ∷ fs) = f ∷ listed f.ended_caller fs

-- the kind that emptied or cut the list, if one did
abbrev pub end_of : Option EndKind → List Frame → Option EndKind
end_of (Some kind) frames = Some kind
end_of None [] = None
end_of None (f ∷ fs) = end_of f.ended_caller fs

-- each protected slot of these frames lies at or above rsp and holds its value
pub record AreKept (rsp : ℕ) (region : Region) (frames : List Frame) : Type 0 where
  pub above : All (λ slot. rsp ≤ slot.at) (flat_map protected frames)
  pub hold : All (λ slot. Holds region slot.at slot.value) (flat_map protected frames)

-- each protected slot of these frames lies at or above an address
abbrev pub LieAbove : ℕ → List Frame → Type 0
LieAbove address frames = All (λ slot. address ≤ slot.at) (flat_map protected frames)

-- How slots change. rbp was written to this address: where it is still the caller's and isn't saved
-- yet, it is saved there.
abbrev pub saved_slot : Bool → ℕ → Slot → Slot
saved_slot true address Unsaved = SavedAt address
saved_slot true address (SavedAt a) = SavedAt a
saved_slot true address (PartialAt a) = PartialAt a
saved_slot true address (FullAt a) = FullAt a
saved_slot false address slot = slot

-- rbp was read from this address: where that is the slot, it isn't saved any more
abbrev pub loaded_slot : ℕ → Slot → Slot
loaded_slot address Unsaved = Unsaved
loaded_slot address (SavedAt a) = if address == a then Unsaved else SavedAt a
loaded_slot address (PartialAt a) = PartialAt a
loaded_slot address (FullAt a) = FullAt a

-- rbp was popped from this address: as above, and a pt_regs whose bp it was is partial from then on
abbrev pub popped_slot : ℕ → Slot → Slot
popped_slot address Unsaved = Unsaved
popped_slot address (SavedAt a) = if address == a then Unsaved else SavedAt a
popped_slot address (PartialAt a) = PartialAt a
popped_slot address (FullAt a) = if address == up a 32 then PartialAt (up a 128) else FullAt a

-- the frames with the top one's slot changed
abbrev pub with_top_slot : (Slot → Slot) → List Frame → List Frame
with_top_slot change [] = []
with_top_slot change (f ∷ fs) = record f { slot = change f.slot } ∷ fs

-- the frames after rbp was written to an address
abbrev pub after_save : ℕ → ℕ → List Frame → List Frame
after_save rbp address [] = []
after_save rbp address (f ∷ fs) = record f { slot = saved_slot (rbp == f.bp) address f.slot } ∷ fs
