-- The row of a state that means a frame gives that frame.
use Rattle.std.proofs.Common.{◌≡◌, ℕ, ◌+◌, ◌-◌, ◌^◌, ◌<◌, ◌≤◌, true, false, not, List, [], ◌∷◌, Option, Some, None, Ok, flat_map, All, ℤ, neg_ℤ, refl, ap, ◌∙◌, subst, arith}
use Rattle.std.specs.Prelude.{nat_lt}
use Rattle.std.proofs.lemmas.Bool.{lt-ltb}
use Rattle.std.proofs.lemmas.List.Elements.{All-head, All-tail}
use Rattle.ot_base.specs.declared.row.Row.{Row}
use Rattle.state_defs.specs.declared.state.Depth.{Depth}
use Rattle.state_defs.specs.declared.state.Depth.TheVariants.{Known, AtLeast}
use Rattle.state_defs.specs.declared.state.BpHome.{BpHome}
use Rattle.state_defs.specs.declared.state.BpHome.TheVariants.{Same, Saved}
use Rattle.state_defs.specs.declared.state.State.{State}
use Rattle.state_defs.specs.declared.state.State.TheVariants.{Live, Ended, Regs}
use Rattle.state_defs.specs.Address.{up, down, shifted}
use Rattle.state_defs.specs.Region.{Region, hi_of, IsRegion, word_at, Holds}
use Rattle.state_defs.specs.Frame.{Slot, Unsaved, SavedAt, PartialAt, FullAt, is_of_call, Frame, Protected, protected_by, protected, AreKept}
use Rattle.state_defs.specs.State.{ended_by, MeansLive, MeansFull, MeansPartial, Means, IsConsistentLive, IsConsistent}
use Rattle.state_defs.specs.Row.{sp_offset_of, bp_offset_of, row_of, has_16_bits, unfit_offset}
use Rattle.machine_defs.specs.Machine.{walked}
use Rattle.table_defs.specs.declared.frame.Regs.{Regs as WalkRegs}
use Rattle.table_defs.specs.Walk.{Memory, offset_by, read, pointed_to, ra_address, caller_sp, caller_bp, frame_of, unwound}
use Rattle.unwinding_law.proofs.Lists.{all_left}
use Rattle.unwinding_law.proofs.Numbers.{down_inside, holds_inside}
use Rattle.table_defs.specs.Walks.{walk_frame}
use Rattle.table_law.proofs.Numbers.{offset_is, offset_back, fits}

-- what a row gives, once its address and its words are known
given : (memory : Memory) (regs : WalkRegs) (row : Row) (at ra cfa bp : ℕ) → pointed_to regs row ≡ at → memory (ra_address row at) ≡ Some ra → caller_sp memory row at ≡ Ok cfa → caller_bp memory regs row at cfa ≡ Ok bp → regs.sp < cfa → frame_of memory regs row ≡ Ok (record { ra = ra; cfa = cfa; bp = bp })
given memory regs row at ra cfa bp e h k l m = let n : nat_lt regs.sp cfa ≡ true = lt-ltb regs.sp cfa m in rw (e, h, k, l, n) refl

-- a word is read at an address that is written otherwise
read_at : (memory : Memory) (a b word : ℕ) → a ≡ b → memory b ≡ Some word → read memory a ≡ Ok word
read_at memory a b word e h = rw (e, h) refl

-- A state that isn't ended means a frame, whose slots are kept among those of other frames; its row fits.
pub record MeansFrame (state : State) (rsp rbp : ℕ) (region : Region) (f : Frame) (rest : List Frame) : Type 0 where
  pub live : ended_by state ≡ None
  pub consistent : IsConsistent state
  pub fit : unfit_offset state ≡ None
  pub is_region : IsRegion region
  pub top : f.cfa ≤ hi_of region
  pub kept : AreKept rsp region (f ∷ rest)
  pub means : Means state rsp rbp f

module _ (rsp : ℕ) (region : Region) (is_region : IsRegion region) (f : Frame) (rest : List Frame) (kept : AreKept rsp region (f ∷ rest)) (top : f.cfa ≤ hi_of region) where
  -- the words of the stack, its slots by address and value, and what is known of them
  abbrev memory : Memory
  memory = λ address. word_at region address

  abbrev slot_at : ℕ → ℕ → Protected
  slot_at address word = record { at = address; value = word }

  abbrev IsAbove : Protected → Type 0
  IsAbove x = rsp ≤ x.at

  abbrev IsHeld : Protected → Type 0
  IsHeld x = Holds region x.at x.value

  -- the slots of the frame, by its kind: they lie at or above rsp, and hold their values
  above : (slot : Slot) → f.slot ≡ slot → All IsAbove (protected_by slot f.ra f.cfa f.bp)
  above slot e = subst (λ (s : Slot). All IsAbove (protected_by s f.ra f.cfa f.bp)) e (all_left IsAbove (protected f) (flat_map protected rest) kept.above)

  hold : (slot : Slot) → f.slot ≡ slot → All IsHeld (protected_by slot f.ra f.cfa f.bp)
  hold slot e = subst (λ (s : Slot). All IsHeld (protected_by s f.ra f.cfa f.bp)) e (all_left IsHeld (protected f) (flat_map protected rest) kept.hold)

  -- its top is an address
  small : f.cfa < 2 ^ 64
  small = bound f.cfa (hi_of region) top is_region.below_end
    where
      bound : (x hi : ℕ) → x ≤ hi → hi < 2 ^ 64 - 2 ^ 30 → x < 2 ^ 64
      bound x hi a b = omega arith

  -- the word right below a call frame's top is the return address, and the top lies above rsp
  record HasReturnAddress : Type 0 where
    held : Holds region (down f.cfa 8) f.ra
    rising : rsp < f.cfa

  has_return_address : (slots : List Protected) → All IsAbove (slot_at (down f.cfa 8) f.ra ∷ slots) → All IsHeld (slot_at (down f.cfa 8) f.ra ∷ slots) → HasReturnAddress
  has_return_address slots a h =
      let held : Holds region (down f.cfa 8) f.ra = All-head IsHeld (slot_at (down f.cfa 8) f.ra) slots h in
      let low : rsp ≤ down f.cfa 8 = All-head IsAbove (slot_at (down f.cfa 8) f.ra) slots a in
      let inside : down f.cfa 8 + 8 ≤ hi_of region = holds_inside region (down f.cfa 8) f.ra held in
      let plain : down f.cfa 8 + 8 ≡ f.cfa = down_inside f.cfa (hi_of region) top is_region.below_end (less (down f.cfa 8) (hi_of region) inside) in
      record { held = held; rising = lower (down f.cfa 8) f.cfa low plain }
    where
      less : (x hi : ℕ) → x + 8 ≤ hi → x ≤ hi
      less x hi h = omega arith

      lower : (x cfa : ℕ) → rsp ≤ x → x + 8 ≡ cfa → rsp < cfa
      lower x cfa a e = omega arith

  module _ (ip rbp : ℕ) where
    -- the registers of the walk
    abbrev regs : WalkRegs
    regs = record { ip = ip; sp = rsp; bp = rbp }

    -- a live state counts to the frame's top
    live_top : (depth : Depth) (pointer : Option ℤ) (home : BpHome) → IsConsistentLive depth pointer home → has_16_bits (sp_offset_of depth pointer) ≡ true → MeansLive depth pointer home rsp rbp f → pointed_to regs (row_of (Live depth pointer home)) ≡ f.cfa
    live_top (Known n) None home c e m = offset_back n rsp f.cfa e small m.depth
    live_top (AtLeast n) None home c e m = absurd (let some = c.aligned refl in let k : ⊥ = cc in k)
    live_top depth (Some n) home c e m = offset_back n rbp f.cfa e small m.fp

    -- its return address stands right below the frame's top
    live_address : (depth : Depth) (pointer : Option ℤ) (home : BpHome) → MeansLive depth pointer home rsp rbp f → HasReturnAddress
    live_address depth pointer Same m = has_return_address [] (above Unsaved m.bp.0) (hold Unsaved m.bp.0)
    live_address depth pointer (Saved o) m = has_return_address (slot_at (shifted f.cfa (neg_ℤ o)) f.bp ∷ []) (above (SavedAt (shifted f.cfa (neg_ℤ o))) m.bp) (hold (SavedAt (shifted f.cfa (neg_ℤ o))) m.bp)

    -- rbp is still there, or saved where the row says
    live_bp : (depth : Depth) (pointer : Option ℤ) (home : BpHome) → has_16_bits (bp_offset_of home) ≡ true → MeansLive depth pointer home rsp rbp f → caller_bp memory regs (row_of (Live depth pointer home)) f.cfa f.cfa ≡ Ok f.bp
    live_bp depth pointer Same e m = ap Ok m.bp.1
    live_bp depth pointer (Saved o) e m =
        let held : Holds region (shifted f.cfa (neg_ℤ o)) f.bp = All-head IsHeld (slot_at (shifted f.cfa (neg_ℤ o)) f.bp) [] (All-tail IsHeld (slot_at (down f.cfa 8) f.ra) (slot_at (shifted f.cfa (neg_ℤ o)) f.bp ∷ []) (hold (SavedAt (shifted f.cfa (neg_ℤ o))) m.bp)) in
        read_at memory (offset_by f.cfa (neg_ℤ o)) (shifted f.cfa (neg_ℤ o)) f.bp (offset_is (neg_ℤ o) f.cfa e) held

    -- its row is one of a frame
    live_unwound : (depth : Depth) (pointer : Option ℤ) (home : BpHome) → unwound memory regs (row_of (Live depth pointer home)) ≡ frame_of memory regs (row_of (Live depth pointer home))
    live_unwound depth None Same = refl
    live_unwound depth None (Saved o) = refl
    live_unwound depth (Some n) Same = refl
    live_unwound depth (Some n) (Saved o) = refl

    -- so it gives the call frame
    live_frame : (depth : Depth) (pointer : Option ℤ) (home : BpHome) → IsConsistentLive depth pointer home → has_16_bits (sp_offset_of depth pointer) ≡ true → has_16_bits (bp_offset_of home) ≡ true → MeansLive depth pointer home rsp rbp f → unwound memory regs (row_of (Live depth pointer home)) ≡ Ok (walk_frame (walked f))
    live_frame depth pointer home c sp bp m =
        let a = live_address depth pointer home m in
        live_unwound depth pointer home
        ∙ given memory regs (row_of (Live depth pointer home)) f.cfa f.ra f.cfa f.bp (live_top depth pointer home c sp m) a.held refl (live_bp depth pointer home bp m) a.rising

    -- a full `pt_regs` tells all three
    full_frame : (depth : ℤ) → has_16_bits depth ≡ true → MeansFull depth rsp f → unwound memory regs (row_of (Regs true depth)) ≡ Ok (walk_frame (walked f))
    full_frame depth e m =
        let hs = hold (FullAt m.at) m.slot in
        let ts = All-tail IsHeld (slot_at (up m.at 32) f.bp) (slot_at (up m.at 128) f.ra ∷ slot_at (up m.at 152) f.cfa ∷ []) hs in
        let bp : Holds region (up m.at 32) f.bp = All-head IsHeld (slot_at (up m.at 32) f.bp) (slot_at (up m.at 128) f.ra ∷ slot_at (up m.at 152) f.cfa ∷ []) hs in
        let ra : Holds region (up m.at 128) f.ra = All-head IsHeld (slot_at (up m.at 128) f.ra) (slot_at (up m.at 152) f.cfa ∷ []) ts in
        let cfa : Holds region (up m.at 152) f.cfa = All-head IsHeld (slot_at (up m.at 152) f.cfa) [] (All-tail IsHeld (slot_at (up m.at 128) f.ra) (slot_at (up m.at 152) f.cfa ∷ []) ts) in
        let low : rsp ≤ up m.at 32 = All-head IsAbove (slot_at (up m.at 32) f.bp) (slot_at (up m.at 128) f.ra ∷ slot_at (up m.at 152) f.cfa ∷ []) (above (FullAt m.at) m.slot) in
        given memory regs (row_of (Regs true depth)) m.at f.ra f.cfa f.bp
        (offset_back depth rsp m.at e (low_at m.at f.cfa m.below small) m.depth)
        ra
        (read_at memory (up m.at 152) (up m.at 152) f.cfa refl cfa)
        (read_at memory (up m.at 32) (up m.at 32) f.bp refl bp)
        (rises m.at f.cfa low m.below small)
      where
        low_at : (at cfa : ℕ) → at + 168 ≤ cfa → cfa < 2 ^ 64 → at < 2 ^ 64
        low_at at cfa a b = omega arith

        rises : (at cfa : ℕ) → rsp ≤ up at 32 → at + 168 ≤ cfa → cfa < 2 ^ 64 → rsp < cfa
        rises at cfa l a b = omega arith

    -- the five words of an interrupt tell two, and rbp is still there
    partial_frame : (depth : ℤ) → has_16_bits depth ≡ true → MeansPartial depth rsp rbp f → unwound memory regs (row_of (Regs false depth)) ≡ Ok (walk_frame (walked f))
    partial_frame depth e m =
        let hs = hold (PartialAt m.at) m.slot in
        let ra : Holds region m.at f.ra = All-head IsHeld (slot_at m.at f.ra) (slot_at (up m.at 24) f.cfa ∷ []) hs in
        let cfa : Holds region (up m.at 24) f.cfa = All-head IsHeld (slot_at (up m.at 24) f.cfa) [] (All-tail IsHeld (slot_at m.at f.ra) (slot_at (up m.at 24) f.cfa ∷ []) hs) in
        let low : rsp ≤ m.at = All-head IsAbove (slot_at m.at f.ra) (slot_at (up m.at 24) f.cfa ∷ []) (above (PartialAt m.at) m.slot) in
        given memory regs (row_of (Regs false depth)) m.at f.ra f.cfa f.bp
        (offset_back depth rsp m.at e (low_at m.at f.cfa m.below small) m.depth)
        ra
        (read_at memory (up m.at 24) (up m.at 24) f.cfa refl cfa)
        (ap Ok m.bp)
        (rises m.at f.cfa low m.below)
      where
        low_at : (at cfa : ℕ) → at + 40 ≤ cfa → cfa < 2 ^ 64 → at < 2 ^ 64
        low_at at cfa a b = omega arith

        rises : (at cfa : ℕ) → rsp ≤ at → at + 40 ≤ cfa → rsp < cfa
        rises at cfa l a = omega arith

-- the row of the state gives the frame
pub row_gives : (state : State) (ip rsp rbp : ℕ) (region : Region) (f : Frame) (rest : List Frame) → MeansFrame state rsp rbp region f rest → unwound (λ address. word_at region address) (record { ip = ip; sp = rsp; bp = rbp }) (row_of state) ≡ Ok (walk_frame (walked f))
row_gives (Live depth pointer home) ip rsp rbp region f rest m = let e = fits (Live depth pointer home) m.fit in live_frame rsp region m.is_region f rest m.kept m.top ip rbp depth pointer home m.consistent e.0 e.1 m.means
row_gives (Ended kind) ip rsp rbp region f rest m = absurd (let e : Some kind ≡ None = m.live in let k : ⊥ = cc in k)
row_gives (Regs true depth) ip rsp rbp region f rest m = full_frame rsp region m.is_region f rest m.kept m.top ip rbp depth (fits (Regs true depth) m.fit).0 m.means
row_gives (Regs false depth) ip rsp rbp region f rest m = partial_frame rsp region m.is_region f rest m.kept m.top ip rbp depth (fits (Regs false depth) m.fit).0 m.means

-- and its signal bit tells an interrupt frame from a call frame
pub signal_tells : (state : State) (rsp rbp : ℕ) (f : Frame) → ended_by state ≡ None → Means state rsp rbp f → is_of_call f.slot ≡ not (row_of state).signal
signal_tells (Live depth pointer Same) rsp rbp f e m = ap is_of_call m.bp.0
signal_tells (Live depth pointer (Saved o)) rsp rbp f e m = ap is_of_call m.bp
signal_tells (Ended kind) rsp rbp f e m = absurd (let k : ⊥ = cc in k)
signal_tells (Regs true depth) rsp rbp f e m = ap is_of_call m.slot
signal_tells (Regs false depth) rsp rbp f e m = ap is_of_call m.slot
