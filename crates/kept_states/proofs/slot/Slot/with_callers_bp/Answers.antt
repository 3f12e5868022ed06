-- The caller's rbp is back.
use Rattle.std.proofs.Common.{rules, ◌≡◌, false, ℤ, pos, ◌-ℤ◌, w16, to_z, of_z, SFits, refl, ap, sym, subst, ◌∙◌}
use Rattle.std.specs.Prelude.{int_lt, negsuc}
use Rattle.std.proofs.lemmas.Int.{to_z-of_z}
use Rattle.kept_states.specs.declared.parts.Shape.TheVariants.{Known}
use Rattle.kept_states.specs.declared.slot.Slot.{Slot}
use Rattle.kept_states.proofs.WordMoves.{pop_bp_slot, read_down, down_fits}
use Rattle.kept_states.proofs.slot.Slot.with_callers_bp.Goals as goal

pub returns-in-KnownSaved : goal.returns-in-KnownSaved
returns-in-KnownSaved c wide other =
    let s : Slot = c.args.self in
    let depth : ℤ = to_z w16 (of_z w16 (to_z w16 (of_z w16 s.depth) -ℤ pos 8)) in
    let t : Slot = record { shape = Known; is_wide = false; depth = depth; fp = pos 0; home = pos 0 } in
    let depth_fits : SFits w16 s.depth = search rules in
    let home_fits : SFits w16 s.home = search rules in
    let down : depth ≡ s.depth -ℤ pos 8 = read_down s.depth depth_fits c.if-self-2.false in
    let fits : SFits w16 (s.depth -ℤ pos 8) = down_fits s.depth depth_fits (subst (λ (m : ℤ). int_lt m (negsuc 32759) ≡ false) (to_z-of_z w16 s.depth depth_fits) c.if-self-2.false) in
    let home : s.depth ≡ s.home = sym (to_z-of_z w16 s.depth depth_fits) ∙ (ap (to_z w16) c.if-self-3.false ∙ to_z-of_z w16 s.home home_fits) in
    pop_bp_slot s t wide other c.if-self.false c.in-KnownSaved.is home refl refl down fits
