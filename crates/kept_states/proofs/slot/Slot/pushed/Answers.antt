-- The slot after a push has another depth alone.
use Rattle.std.proofs.Common.{rules, ◌≡◌, true, false, ℤ, pos, ◌+ℤ◌, w16, to_z, of_z, SFits, refl, sym, subst, ◌∙◌}
use Rattle.std.specs.Prelude.{int_lt}
use Rattle.std.proofs.lemmas.Int.{to_z-of_z}
use Rattle.kept_states.specs.declared.slot.Slot.{Slot}
use Rattle.kept_states.specs.Words.{is_live}
use Rattle.kept_states.proofs.WordMoves.{push_slot, read_up, up_fits}
use Rattle.kept_states.proofs.slot.Slot.pushed.Goals as goal

pub returns : goal.returns
returns c wide other =
    let s : Slot = c.args.self in
    let t : Slot = record { shape = s.shape; is_wide = false; depth = to_z w16 (of_z w16 (to_z w16 (of_z w16 s.depth) +ℤ pos 8)); fp = to_z w16 (of_z w16 s.fp); home = to_z w16 (of_z w16 s.home) } in
    let depth_fits : SFits w16 s.depth = search rules in
    let fp_fits : SFits w16 s.fp = search rules in
    let home_fits : SFits w16 s.home = search rules in
    let up : t.depth ≡ s.depth +ℤ pos 8 = read_up s.depth depth_fits c.if-self-2.false in
    let fits : SFits w16 (s.depth +ℤ pos 8) = up_fits s.depth depth_fits (subst (λ (m : ℤ). int_lt (pos 32759) m ≡ false) (to_z-of_z w16 s.depth depth_fits) c.if-self-2.false) in
    let live : is_live s.shape ≡ true = sym c.is_live.ensures ∙ c.if-not-is_live.false in
    push_slot s t wide other live (record {
      short = c.if-self.false;
      still_short = refl;
      shape = refl;
      depth = up;
      fp = to_z-of_z w16 s.fp fp_fits;
      home = to_z-of_z w16 s.home home_fits;
      depth_fits = subst (λ (m : ℤ). SFits w16 m) (sym up) fits;
      fp_fits = fp_fits;
      home_fits = home_fits;
    })
