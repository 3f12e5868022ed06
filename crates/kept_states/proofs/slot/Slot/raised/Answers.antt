-- The slot after rsp is raised has another depth alone.
use Rattle.std.proofs.Common.{rules, ◌≡◌, true, false, ℤ, ◌-ℤ◌, w16, w64, to_z, of_z, SFits, refl, ap, sym, subst, ◌∙◌}
use Rattle.std.specs.Prelude.{int_lt}
use Rattle.std.proofs.lemmas.Int.{to_z-of_z}
use Rattle.state_defs.specs.Row.{has_16_bits}
use Rattle.kept_states.specs.declared.slot.Slot.{Slot}
use Rattle.kept_states.specs.Words.{is_live, floor_in}
use Rattle.kept_states.proofs.Short.{fits_16}
use Rattle.kept_states.proofs.WordMoves.{floor_fits, raise_slot, read_less, read_wide}
use Rattle.kept_states.proofs.slot.Slot.raised.Goals as goal

pub overflow_cast-result : goal.overflow_cast-result
overflow_cast-result c =
    let s : Slot = c.args.self in
    let k : ℤ = c.args.by in
    let depth_fits : SFits w16 s.depth = search rules in
    let k_fits : SFits w64 k = search rules in
    let k_short : has_16_bits k ≡ true = subst (λ (m : ℤ). has_16_bits m ≡ true) (to_z-of_z w64 k k_fits) (sym c.has_16_bits.ensures ∙ c.if-not-has_16_bits.false) in
    fits_16 (to_z w64 (of_z w64 (to_z w64 (of_z w64 (to_z w16 (of_z w16 s.depth))) -ℤ to_z w64 (of_z w64 k)))) (sym c.has_16_bits-2.ensures ∙ c.if-not-has_16_bits-2.false)

pub returns : goal.returns
returns c wide other =
    let s : Slot = c.args.self in
    let k : ℤ = c.args.by in
    let depth : ℤ = to_z w64 (of_z w64 (to_z w64 (of_z w64 (to_z w16 (of_z w16 s.depth))) -ℤ to_z w64 (of_z w64 k))) in
    let t : Slot = record { shape = s.shape; is_wide = false; depth = to_z w16 (of_z w16 depth); fp = to_z w16 (of_z w16 s.fp); home = to_z w16 (of_z w16 s.home) } in
    let depth_fits : SFits w16 s.depth = search rules in
    let fp_fits : SFits w16 s.fp = search rules in
    let home_fits : SFits w16 s.home = search rules in
    let k_fits : SFits w64 k = search rules in
    let k_short : has_16_bits k ≡ true = subst (λ (m : ℤ). has_16_bits m ≡ true) (to_z-of_z w64 k k_fits) (sym c.has_16_bits.ensures ∙ c.if-not-has_16_bits.false) in
    let less : depth ≡ s.depth -ℤ k = read_less s.depth k depth_fits k_fits k_short in
    let short : has_16_bits (s.depth -ℤ k) ≡ true = subst (λ (m : ℤ). has_16_bits m ≡ true) less (sym c.has_16_bits-2.ensures ∙ c.if-not-has_16_bits-2.false) in
    let fits : SFits w16 (s.depth -ℤ k) = fits_16 (s.depth -ℤ k) short in
    let down : t.depth ≡ s.depth -ℤ k = ap (λ (m : ℤ). to_z w16 (of_z w16 m)) less ∙ to_z-of_z w16 (s.depth -ℤ k) fits in
    let live : is_live s.shape ≡ true = sym c.is_live.ensures ∙ c.if-not-is_live.false in
    let is : c.floor.result ≡ floor_in s.shape s.home = c.floor.ensures ∙ ap (floor_in s.shape) (to_z-of_z w16 s.home home_fits) in
    let floor : to_z w64 (of_z w64 (to_z w16 (of_z w16 c.floor.result))) ≡ floor_in s.shape s.home =
    ap (λ (m : ℤ). to_z w64 (of_z w64 (to_z w16 (of_z w16 m)))) is ∙ read_wide (floor_in s.shape s.home) (floor_fits s.shape s.home home_fits) in
    let over : int_lt (s.depth -ℤ k) (floor_in s.shape s.home) ≡ false =
    subst (λ (m : ℤ). int_lt m (floor_in s.shape s.home) ≡ false) less (subst (λ (m : ℤ). int_lt depth m ≡ false) floor c.if-depth-floor.false) in
    raise_slot s t wide other k live (record {
      short = c.if-self.false;
      still_short = refl;
      shape = refl;
      depth = down;
      fp = to_z-of_z w16 s.fp fp_fits;
      home = to_z-of_z w16 s.home home_fits;
      depth_fits = subst (λ (m : ℤ). SFits w16 m) (sym down) fits;
      fp_fits = fp_fits;
      home_fits = home_fits;
    }) over
