-- The moves of a live state are sound: those that save rbp in the top frame or take it back.
use Rattle.std.proofs.Common.{◌≡◌, ℕ, ◌+◌, ◌^◌, ◌≤◌, Bool, true, false, cond, List, [], ◌∷◌, ℤ, pos, negsuc, neg_ℤ, ◌+ℤ◌, ◌-ℤ◌, ◌≤ℤ◌, ◌<ℤ◌, arith, refl, sym, ap, subst, ◌∙◌}
use Rattle.std.specs.Prelude.{Option, Some, None, IfSome, Ok, int_le, ◌==◌, FitsSigned}
use Rattle.std.specs.Int.{w64}
use Rattle.std.proofs.lemmas.Int.{ints}
use Rattle.std.proofs.lemmas.Bool.{eq-eqb, cond-true, cond-false, ne_eqb}
use Rattle.state_defs.specs.declared.state.Depth.{Depth}
use Rattle.state_defs.specs.declared.state.Depth.TheVariants.{Known, AtLeast}
use Rattle.state_defs.specs.declared.state.BpHome.{BpHome}
use Rattle.state_defs.specs.declared.state.BpHome.TheVariants.{Same, Saved}
use Rattle.state_defs.specs.declared.state.State.{State}
use Rattle.state_defs.specs.declared.state.State.TheVariants.{Live}
use Rattle.state_defs.specs.Address.{up, down, shifted}
use Rattle.state_defs.specs.Region.{Region, hi_of, Holds, Reads, WritesWord}
use Rattle.state_defs.specs.Frame.{Slot, Unsaved, SavedAt, Frame, Protected, listed, with_top_slot, after_save, saved_slot}
use Rattle.state_defs.specs.Effect.{Core}
use Rattle.state_defs.specs.State.{depth_of, IsConsistentLive, MeansDepth, MeansLive}
use Rattle.state_defs.specs.Move.{has_near_numbers, push_bp, pop_at, load_bp, int_same}
use Rattle.stack_state.proofs.Addresses.{IsTurned, turned_from, IsNear}
use Rattle.stack_state.proofs.Consistent.{same_is_known, same_has_no_pointer, int_same_is, int_same_not}
use Rattle.stack_state.proofs.Depths.{place_moved}
use Rattle.stack_state.proofs.LiveMoves.{shift_sound}
use Rattle.stack_state.proofs.Memory.{same_top}
use Rattle.stack_state.proofs.Outcomes.{near_depth, Outcome, EachHeld, AllHeld, held_at_top, held_lower, live_outcome}
use Rattle.stack_state.proofs.Pushes.{push_fits, pushed_held}
use Rattle.stack_state.proofs.Results.{pick_then, refused_then}
use Rattle.stack_state.proofs.Scenes.{Scene, Arrives, arrive, new_slot, slot_changed, slot_saved}
use Rattle.stack_state.proofs.Slots.{one_slot, two_slots, first_slot, second_slot}
use Rattle.stack_state.proofs.Words.{HasWord, read_held, written_word}

-- what a frame holds by its slot
held_unsaved : (r : Region) (f : Frame) → Holds r (down f.cfa 8) f.ra → AllHeld r Unsaved f
held_unsaved r f h = one_slot (λ (s : Protected). Holds r s.at s.value) (record { at = down f.cfa 8; value = f.ra }) h

held_saved : (r : Region) (f : Frame) (a : ℕ) → Holds r (down f.cfa 8) f.ra → Holds r a f.bp → AllHeld r (SavedAt a) f
held_saved r f a h k = two_slots (λ (s : Protected). Holds r s.at s.value) (record { at = down f.cfa 8; value = f.ra }) (record { at = a; value = f.bp }) h k

unsaved_ra : (r : Region) (f : Frame) → AllHeld r Unsaved f → Holds r (down f.cfa 8) f.ra
unsaved_ra r f h = first_slot (λ (s : Protected). Holds r s.at s.value) (record { at = down f.cfa 8; value = f.ra }) [] h

saved_ra : (r : Region) (f : Frame) (a : ℕ) → AllHeld r (SavedAt a) f → Holds r (down f.cfa 8) f.ra
saved_ra r f a h = first_slot (λ (s : Protected). Holds r s.at s.value) (record { at = down f.cfa 8; value = f.ra }) (record { at = a; value = f.bp } ∷ []) h

saved_bp : (r : Region) (f : Frame) (a : ℕ) → AllHeld r (SavedAt a) f → Holds r a f.bp
saved_bp r f a h = second_slot (λ (s : Protected). Holds r s.at s.value) (record { at = down f.cfa 8; value = f.ra }) (record { at = a; value = f.bp }) [] h

held_by : (r : Region) (f : Frame) (slot : Slot) → f.slot ≡ slot → AllHeld r f.slot f → AllHeld r slot f
held_by r f slot e h = subst (λ (s : Slot). AllHeld r s f) e h

-- a word is stored where rbp is saved from then on
pub saved_outcome : (s : State) (before after : Core) (f : Frame) (below : List Frame) → Scene s before after f below
    → (n o : ℤ) (fp : Option ℤ) → IsConsistentLive (Known n) fp (Saved o) → has_near_numbers (Live (Known n) fp (Saved o)) ≡ true
    → (address : ℕ) → address ≡ shifted f.cfa (neg_ℤ o) → f.slot ≡ Unsaved → before.rbp ≡ f.bp
    → after.shadow ≡ after_save before.rbp address before.shadow → WritesWord address before.rbp before.region after.region → HasWord after.region address
    → EachHeld after.region (f ∷ listed f.ended_caller below)
    → MeansDepth (Known n) after.rsp f.cfa → IfSome fp (λ m. after.rbp ≡ shifted f.cfa (neg_ℤ m))
    → Outcome (Live (Known n) fp (Saved o)) after f below
saved_outcome s before after f below scene n o fp c near address place unsaved rbp frames write inside held d p =
    let lower : List Frame = listed f.ended_caller below in
    let same : (before.rbp == f.bp) ≡ true = eq-eqb before.rbp f.bp rbp in
    let slot : saved_slot (before.rbp == f.bp) address f.slot ≡ SavedAt address =
    ap (λ (b : Bool). saved_slot b address f.slot) same ∙ ap (λ (x : Slot). saved_slot true address x) unsaved in
    let shadow : after.shadow ≡ record f { slot = SavedAt address } ∷ below =
    slot_saved before.rbp address before.shadow after.shadow f below (SavedAt address) frames scene.told.frames slot in
    let top : f.cfa ≤ hi_of after.region = omega (arith, same_top before.region after.region write.only.addresses, scene.told.top) in
    let ra : Holds after.region (down f.cfa 8) f.ra = unsaved_ra after.region f (held_by after.region f Unsaved unsaved (held_at_top after.region f lower held)) in
    let bp : Holds after.region address f.bp = subst (λ (v : ℕ). Holds after.region address v) rbp (written_word address before.rbp before.region after.region write inside) in
    live_outcome (Known n) fp (Saved o) f below after (SavedAt address) c near scene.last shadow d p (ap (λ (a : ℕ). SavedAt a) place) top
    (held_saved after.region f address ra bp) (held_lower after.region f lower held) scene.told.above

saved_stays : (b : Bool) (address a : ℕ) → saved_slot b address (SavedAt a) ≡ SavedAt a
saved_stays true address a = refl
saved_stays false address a = refl

pub no_pointer : (depth : Depth) (fp : Option ℤ) (rbp cfa : ℕ) → IsConsistentLive depth fp Same → IfSome fp (λ m. rbp ≡ shifted cfa (neg_ℤ m))
no_pointer depth None rbp cfa c = tt
no_pointer depth (Some m) rbp cfa c = absurd (same_has_no_pointer depth m c)

-- rbp is pushed
pub push_bp_sound : (depth : Depth) (fp : Option ℤ) (home : BpHome) (before after : Core) (f : Frame) (below : List Frame) (t : State)
    → Scene (Live depth fp home) before after f below → WritesWord (down before.rsp 8) before.rbp before.region after.region
    → after.rsp ≡ down before.rsp 8 → after.rbp ≡ before.rbp → after.shadow ≡ after_save before.rbp (down before.rsp 8) before.shadow
    → push_bp depth fp home ≡ Ok t → Arrives t after f below
push_bp_sound depth fp (Saved o) before after f below t scene write rsp rbp frames e =
    let means : MeansLive depth fp (Saved o) before.rsp before.rbp f = scene.told.means in
    let held : EachHeld after.region (f ∷ listed f.ended_caller below) =
    pushed_held before after (f ∷ listed f.ended_caller below) scene.first scene.last rsp write.only scene.told.kept.above scene.told.kept.hold in
    let stays : saved_slot (before.rbp == f.bp) (down before.rsp 8) f.slot ≡ f.slot =
    ap (λ (x : Slot). saved_slot (before.rbp == f.bp) (down before.rsp 8) x) means.bp ∙ saved_stays (before.rbp == f.bp) _ _ ∙ sym means.bp in
    let shadow : after.shadow ≡ f ∷ below = slot_saved before.rbp (down before.rsp 8) before.shadow after.shadow f below f.slot frames scene.told.frames stays in
    shift_sound (negsuc 7) (depth_of depth +ℤ pos 8) depth fp (Saved o) before after f below t scene
    (record { frames = shadow ∙ sym scene.told.frames; top = same_top before.region after.region write.only.addresses; held = held })
    rsp rbp (omega (arith, ints)) e
push_bp_sound (AtLeast n) fp Same before after f below t scene write rsp rbp frames e = absurd (same_is_known n fp scene.consistent)
push_bp_sound (Known n) fp Same before after f below t scene write rsp rbp frames e =
    let means : MeansLive (Known n) fp Same before.rsp before.rbp f = scene.told.means in
    let held : EachHeld after.region (f ∷ listed f.ended_caller below) =
    pushed_held before after (f ∷ listed f.ended_caller below) scene.first scene.last rsp write.only scene.told.kept.above scene.told.kept.hold in
    let deeper : down before.rsp 8 ≡ shifted f.cfa (neg_ℤ (n +ℤ pos 8)) = place_moved before.rsp (down before.rsp 8) f.cfa (negsuc 7) n (n +ℤ pos 8) means.depth refl (omega (arith, ints)) in
    let fits : after.rsp + 8 ≡ before.rsp = push_fits before after scene.first scene.last rsp in
    let inside : HasWord after.region (down before.rsp 8) = record {
      from = omega (arith, rsp, scene.last.above_lo);
      upto = omega (arith, rsp, fits, scene.first.below_hi, same_top before.region after.region write.only.addresses);
    } in
    arrive (Live (Known (n +ℤ pos 8)) fp (Saved (n +ℤ pos 8))) t after f below
    (λ near c. saved_outcome (Live (Known n) fp Same) before after f below scene (n +ℤ pos 8) (n +ℤ pos 8) fp c near (down before.rsp 8) deeper means.bp.0 means.bp.1
    frames write inside held (rsp ∙ deeper) (no_pointer (Known n) fp after.rbp f.cfa scene.consistent))
    e

-- the slot where rbp is saved was read, or another word
slot_read : (change : Slot → Slot) (p a : ℕ) (slot : Slot) → change (SavedAt a) ≡ cond (p == a) Unsaved (SavedAt a) → slot ≡ SavedAt a → p ≡ a → change slot ≡ Unsaved
slot_read change p a slot e s same = ap change s ∙ e ∙ cond-true (p == a) Unsaved (SavedAt a) (eq-eqb p a same)

slot_passed : (change : Slot → Slot) (p a : ℕ) (slot : Slot) → change (SavedAt a) ≡ cond (p == a) Unsaved (SavedAt a) → slot ≡ SavedAt a → (p ≡ a → ⊥) → change slot ≡ SavedAt a
slot_passed change p a slot e s other = ap change s ∙ e ∙ cond-false (p == a) Unsaved (SavedAt a) (ne_eqb p a other)

-- rbp was read from the slot: it is the caller's again
read_back : (s : State) (before after : Core) (f : Frame) (below : List Frame) → Scene s before after f below
    → (n : ℤ) → IsConsistentLive (Known n) None Same → has_near_numbers (Live (Known n) None Same) ≡ true
    → (change : Slot → Slot) (p a : ℕ) → change (SavedAt a) ≡ cond (p == a) Unsaved (SavedAt a) → f.slot ≡ SavedAt a → p ≡ a
    → Reads before.region p after.rbp → after.shadow ≡ with_top_slot change before.shadow → after.region ≡ before.region
    → MeansDepth (Known n) after.rsp f.cfa → Outcome (Live (Known n) None Same) after f below
read_back s before after f below scene n c near change p a changes slot same read frames memory d =
    let lower : List Frame = listed f.ended_caller below in
    let shadow : after.shadow ≡ record f { slot = Unsaved } ∷ below =
    slot_changed change before.shadow after.shadow f below Unsaved frames scene.told.frames (slot_read change p a f.slot changes slot same) in
    let held : AllHeld before.region (SavedAt a) f = held_by before.region f (SavedAt a) slot (held_at_top before.region f lower scene.told.kept.hold) in
    let read_there : Reads before.region a after.rbp = subst (λ (x : ℕ). Reads before.region x after.rbp) same read in
    let bp : after.rbp ≡ f.bp = read_held before.region a f.bp after.rbp (saved_bp before.region f a held) read_there in
    new_slot s before after f below scene (Known n) None Same c near Unsaved shadow memory (held_unsaved before.region f (saved_ra before.region f a held))
    d tt (refl, bp)

-- another word was read: rbp is still saved
read_past : (s : State) (before after : Core) (f : Frame) (below : List Frame) → Scene s before after f below
    → (n o : ℤ) → IsConsistentLive (Known n) None (Saved o) → has_near_numbers (Live (Known n) None (Saved o)) ≡ true
    → (change : Slot → Slot) (p a : ℕ) → change (SavedAt a) ≡ cond (p == a) Unsaved (SavedAt a) → f.slot ≡ SavedAt a → a ≡ shifted f.cfa (neg_ℤ o) → (p ≡ a → ⊥)
    → after.shadow ≡ with_top_slot change before.shadow → after.region ≡ before.region
    → MeansDepth (Known n) after.rsp f.cfa → Outcome (Live (Known n) None (Saved o)) after f below
read_past s before after f below scene n o c near change p a changes slot place other frames memory d =
    let lower : List Frame = listed f.ended_caller below in
    let shadow : after.shadow ≡ record f { slot = SavedAt a } ∷ below =
    slot_changed change before.shadow after.shadow f below (SavedAt a) frames scene.told.frames (slot_passed change p a f.slot changes slot other) in
    let held : AllHeld before.region (SavedAt a) f = held_by before.region f (SavedAt a) slot (held_at_top before.region f lower scene.told.kept.hold) in
    new_slot s before after f below scene (Known n) None (Saved o) c near (SavedAt a) shadow memory held d tt (ap (λ (x : ℕ). SavedAt x) place)

-- two places at different small depths, or different by less than a turn, differ
pub apart : (p a top : ℕ) (n o : ℤ) → p ≡ shifted top (neg_ℤ n) → a ≡ shifted top (neg_ℤ o) → (n ≡ o → ⊥)
    → (n -ℤ o) <ℤ pos (2 ^ 64) → (o -ℤ n) <ℤ pos (2 ^ 64) → p ≡ a → ⊥
apart p a top n o e d other high low same =
    let first : IsTurned p top (neg_ℤ n) = turned_from p top (neg_ℤ n) e in
    let second : IsTurned a top (neg_ℤ o) = turned_from a top (neg_ℤ o) d in
    other (omega (arith, ints))

-- rbp is popped from p, with the top slot changed by the read
pub pop_at_sound : (s : State) (before after : Core) (f : Frame) (below : List Frame) (t : State) → Scene s before after f below
    → (n o : ℤ) (p : ℕ) (change : Slot → Slot) → ((a : ℕ) → change (SavedAt a) ≡ cond (p == a) Unsaved (SavedAt a))
    → f.slot ≡ SavedAt (shifted f.cfa (neg_ℤ o)) → p ≡ shifted f.cfa (neg_ℤ n)
    → Reads before.region p after.rbp → after.rsp ≡ up p 8 → after.shadow ≡ with_top_slot change before.shadow → after.region ≡ before.region
    → pop_at n o ≡ Ok t → Arrives t after f below
pop_at_sound s before after f below t scene n o p change changes slot place read rsp frames memory e =
    let a : ℕ = shifted f.cfa (neg_ℤ o) in
    let risen : after.rsp ≡ shifted f.cfa (neg_ℤ (n -ℤ pos 8)) = place_moved p after.rsp f.cfa (pos 8) n (n -ℤ pos 8) place rsp (omega (arith, ints)) in
    pick_then (Arrives t after f below) (int_same n o) _ _ t
    (λ same d. arrive (Live (Known (n -ℤ pos 8)) None Same) t after f below
    (λ near c.
    let at_slot : p ≡ a = place ∙ ap (λ (x : ℤ). shifted f.cfa (neg_ℤ x)) (int_same_is n o same) in
    read_back s before after f below scene (n -ℤ pos 8) c near change p a (changes a) slot at_slot read frames memory risen) d)
    (λ other d. pick_then (Arrives t after f below) (int_le o (n -ℤ pos 8)) _ _ t
    (λ high b. arrive (Live (Known (n -ℤ pos 8)) None (Saved o)) t after f below
    (λ near c.
    let bounds : (pos 16 ≤ℤ o) × (o ≤ℤ (n -ℤ pos 8)) = c.saved o refl in
    let close : IsNear (n -ℤ pos 8) = near_depth (Known (n -ℤ pos 8)) None (Saved o) near in
    let past : p ≡ a → ⊥ = apart p a f.cfa n o place refl (int_same_not n o other)
    (omega (arith, ints, bounds.0, bounds.1, close.high)) (omega (arith, ints, bounds.0, bounds.1, close.high)) in
    read_past s before after f below scene (n -ℤ pos 8) o c near change p a (changes a) slot refl past frames memory risen) b)
    (λ less b. refused_then (Arrives t after f below) _ t b) d)
    e

-- rbp is loaded from k bytes above rsp
pub load_bp_sound : (k : ℤ) (depth : Depth) (fp : Option ℤ) (home : BpHome) (before after : Core) (f : Frame) (below : List Frame) (t : State)
    → Scene (Live depth fp home) before after f below → FitsSigned w64 k
    → (change : Slot → Slot) → ((a : ℕ) → change (SavedAt a) ≡ cond (shifted before.rsp k == a) Unsaved (SavedAt a))
    → Reads before.region (shifted before.rsp k) after.rbp → after.rsp ≡ before.rsp
    → after.shadow ≡ with_top_slot change before.shadow → after.region ≡ before.region
    → load_bp k depth home ≡ Ok t → Arrives t after f below
load_bp_sound k depth fp Same before after f below t scene fits change changes read rsp frames memory e = refused_then (Arrives t after f below) _ t e
load_bp_sound k (AtLeast n) fp (Saved o) before after f below t scene fits change changes read rsp frames memory e = refused_then (Arrives t after f below) _ t e
load_bp_sound k (Known n) fp (Saved o) before after f below t scene fits change changes read rsp frames memory e =
    let means : MeansLive (Known n) fp (Saved o) before.rsp before.rbp f = scene.told.means in
    let s : State = Live (Known n) fp (Saved o) in
    let a : ℕ = shifted f.cfa (neg_ℤ o) in
    let p : ℕ = shifted before.rsp k in
    let place : p ≡ shifted f.cfa (neg_ℤ (n -ℤ k)) = place_moved before.rsp p f.cfa k n (n -ℤ k) means.depth refl (omega (arith, ints)) in
    pick_then (Arrives t after f below) (int_same (n -ℤ k) o) _ _ t
    (λ same d. arrive (Live (Known n) None Same) t after f below
    (λ near c.
    let at_slot : p ≡ a = place ∙ ap (λ (x : ℤ). shifted f.cfa (neg_ℤ x)) (int_same_is (n -ℤ k) o same) in
    read_back s before after f below scene n c near change p a (changes a) means.bp at_slot read frames memory (rsp ∙ means.depth)) d)
    (λ other d. arrive (Live (Known n) None (Saved o)) t after f below
    (λ near c.
    let bounds : (pos 16 ≤ℤ o) × (o ≤ℤ n) = c.saved o refl in
    let close : IsNear n = near_depth (Known n) None (Saved o) near in
    let past : p ≡ a → ⊥ = apart p a f.cfa (n -ℤ k) o place refl (int_same_not (n -ℤ k) o other)
    (omega (arith, ints, fits, bounds.0, bounds.1, close.high)) (omega (arith, ints, fits, bounds.0, bounds.1, close.high)) in
    read_past s before after f below scene n o c near change p a (changes a) means.bp refl past frames memory (rsp ∙ means.depth)) d)
    e
