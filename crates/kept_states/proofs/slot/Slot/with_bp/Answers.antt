-- The caller's rbp is saved right below what was there.
use Rattle.std.proofs.Common.{rules, ◌≡◌, false, ℤ, pos, ◌+ℤ◌, w16, to_z, of_z, SFits, refl, subst}
use Rattle.std.specs.Prelude.{int_lt}
use Rattle.std.proofs.lemmas.Int.{to_z-of_z}
use Rattle.kept_states.specs.declared.parts.Shape.TheVariants.{KnownSaved}
use Rattle.kept_states.specs.declared.slot.Slot.{Slot}
use Rattle.kept_states.proofs.WordMoves.{push_bp_slot, read_up, up_fits}
use Rattle.kept_states.proofs.slot.Slot.with_bp.Goals as goal

pub returns-in-Known : goal.returns-in-Known
returns-in-Known c wide other =
    let s : Slot = c.args.self in
    let depth : ℤ = to_z w16 (of_z w16 (to_z w16 (of_z w16 s.depth) +ℤ pos 8)) in
    let t : Slot = record { shape = KnownSaved; is_wide = false; depth = depth; fp = pos 0; home = depth } in
    let depth_fits : SFits w16 s.depth = search rules in
    let up : depth ≡ s.depth +ℤ pos 8 = read_up s.depth depth_fits c.if-self-2.false in
    let fits : SFits w16 (s.depth +ℤ pos 8) = up_fits s.depth depth_fits (subst (λ (m : ℤ). int_lt (pos 32759) m ≡ false) (to_z-of_z w16 s.depth depth_fits) c.if-self-2.false) in
    push_bp_slot s t wide other c.if-self.false c.in-Known.is refl refl up up fits
