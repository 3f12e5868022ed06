-- The slot after a pop has another depth alone.
use Rattle.std.proofs.Common.{rules, ◌≡◌, true, false, ℤ, pos, ◌-ℤ◌, w16, to_z, of_z, SFits, refl, ap, sym, subst, ◌∙◌}
use Rattle.std.specs.Prelude.{int_lt, negsuc}
use Rattle.std.proofs.lemmas.Int.{to_z-of_z}
use Rattle.kept_states.specs.declared.slot.Slot.{Slot}
use Rattle.kept_states.specs.Words.{is_live, floor_in}
use Rattle.kept_states.proofs.WordMoves.{pop_slot, read_down, down_fits, over_floor}
use Rattle.kept_states.proofs.slot.Slot.popped.Goals as goal

pub returns : goal.returns
returns c wide other =
    let s : Slot = c.args.self in
    let t : Slot = record { shape = s.shape; is_wide = false; depth = to_z w16 (of_z w16 (to_z w16 (of_z w16 s.depth) -ℤ pos 8)); fp = to_z w16 (of_z w16 s.fp); home = to_z w16 (of_z w16 s.home) } in
    let depth_fits : SFits w16 s.depth = search rules in
    let fp_fits : SFits w16 s.fp = search rules in
    let home_fits : SFits w16 s.home = search rules in
    let down : t.depth ≡ s.depth -ℤ pos 8 = read_down s.depth depth_fits c.if-self-2.false in
    let fits : SFits w16 (s.depth -ℤ pos 8) = down_fits s.depth depth_fits (subst (λ (m : ℤ). int_lt m (negsuc 32759) ≡ false) (to_z-of_z w16 s.depth depth_fits) c.if-self-2.false) in
    let live : is_live s.shape ≡ true = sym c.is_live.ensures ∙ c.if-not-is_live.false in
    let floor : c.floor.result ≡ floor_in s.shape s.home = c.floor.ensures ∙ ap (floor_in s.shape) (to_z-of_z w16 s.home home_fits) in
    let over : int_lt (s.depth -ℤ pos 8) (floor_in s.shape s.home) ≡ false = subst (λ (m : ℤ). int_lt m (floor_in s.shape s.home) ≡ false) down (over_floor t.depth c.floor.result s.shape s.home home_fits floor c.if-depth-floor.false) in
    pop_slot s t wide other live (record {
      short = c.if-self.false;
      still_short = refl;
      shape = refl;
      depth = down;
      fp = to_z-of_z w16 s.fp fp_fits;
      home = to_z-of_z w16 s.home home_fits;
      depth_fits = subst (λ (m : ℤ). SFits w16 m) (sym down) fits;
      fp_fits = fp_fits;
      home_fits = home_fits;
    }) over
