-- Protected slots keep their values under what operations do to memory.
use Rattle.std.proofs.Common.{◌≡◌, inr, ℕ, ◌+◌, ◌^◌, ◌≤◌, List, ◌∷◌, arith, sym, subst, ◌∙◌}
use Rattle.std.proofs.lemmas.List.Elements.{All-weaker}
use Rattle.state_defs.specs.Region.{Region, hi_of, word_at, Holds, SameAddresses, WritesOnly}
use Rattle.state_defs.specs.Frame.{Frame, Protected, listed}
use Rattle.state_defs.specs.Effect.{Core, StoresOrdinarily}
use Rattle.stack_state.proofs.Outcomes.{EachHeld}
use Rattle.stack_state.proofs.Slots.{Each, each_top, each_below, each_joined, each_listed, both_parts, spared_slots}
use Rattle.stack_state.proofs.Words.{spared_word}

pub same_top : (before after : Region) → SameAddresses before after → hi_of after ≡ hi_of before
same_top before after s = omega (arith, s.lo, s.size)

pub same_region_held : (before after : Region) (frames : List Frame) → after ≡ before → EachHeld before frames → EachHeld after frames
same_region_held before after frames e h = subst (λ (r : Region). EachHeld r frames) (sym e) h

-- words that stay hold what they held
pub same_words_held : (before after : Region) (frames : List Frame) → Each (λ (s : Protected). word_at after s.at ≡ word_at before s.at) frames
    → EachHeld before frames → EachHeld after frames
same_words_held before after frames same h =
    both_parts (λ (s : Protected). word_at after s.at ≡ word_at before s.at) (λ (s : Protected). Holds before s.at s.value) (λ (s : Protected). Holds after s.at s.value)
    (λ s e p. e ∙ p) _ same h

-- ordinary stores spare the slots of all frames
pub ordinary_held : (before after : Core) (f : Frame) (below : List Frame) → before.shadow ≡ f ∷ below → StoresOrdinarily before after
    → EachHeld before.region (f ∷ listed f.ended_caller below) → EachHeld after.region (f ∷ listed f.ended_caller below)
ordinary_held before after f below frames stores h =
    let Stays : Protected → Type 0 = λ (s : Protected). word_at after.region s.at ≡ word_at before.region s.at in
    let all : Each Stays (f ∷ below) = subst (λ (fs : List Frame). Each Stays fs) frames (spared_slots before.shadow before.region after.region stores) in
    let kept : Each Stays (f ∷ listed f.ended_caller below) =
    each_joined Stays f (listed f.ended_caller below) (each_top Stays f below all) (each_listed Stays f.ended_caller below (each_below Stays f below all)) in
    same_words_held before.region after.region (f ∷ listed f.ended_caller below) kept h

-- a write of a word below all slots leaves them
pub beside_held : (start : ℕ) (before after : Region) (frames : List Frame) → WritesOnly start 8 before after → start + 8 ≤ 2 ^ 64
    → Each (λ (s : Protected). start + 8 ≤ s.at) frames → EachHeld before frames → EachHeld after frames
beside_held start before after frames w short above h =
    let same : Each (λ (s : Protected). word_at after s.at ≡ word_at before s.at) frames =
    All-weaker (λ (s : Protected). start + 8 ≤ s.at) (λ (s : Protected). word_at after s.at ≡ word_at before s.at)
    (λ s p. spared_word start 8 before after s.at w short (inr p)) _ above in
    same_words_held before after frames same h
