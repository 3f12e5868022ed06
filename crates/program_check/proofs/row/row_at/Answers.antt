-- The offsets of a kept state's row fit the format.
use Rattle.std.proofs.Common.{◌≡◌, ℤ, None, w64, rules, subst, sym, ◌∙◌}
use Rattle.std.proofs.lemmas.Int.{to_z-of_z}
use Rattle.state_defs.specs.declared.state.State.{State}
use Rattle.state_defs.specs.declared.state.State.TheVariants.{Regs}
use Rattle.state_defs.specs.Row.{unfit_offset}
use Rattle.program_check.proofs.row.row_at.Goals as goal

pub live_row-requires : goal.live_row-requires
live_row-requires c = subst (λ (s : State). unfit_offset s ≡ None) c.in-Some-Live.field-0-is (c.requires.fit c.args.n _ (sym c.state.ensures ∙ c.in-Some-Live.is))

pub regs_row-requires : goal.regs_row-requires
regs_row-requires c =
    let fits = subst (λ (s : State). unfit_offset s ≡ None) c.in-Some-Regs.field-0-is (c.requires.fit c.args.n _ (sym c.state.ensures ∙ c.in-Some-Regs.is)) in
    subst (λ (z : ℤ). unfit_offset (Regs c.in-Some-Regs.full z) ≡ None) (sym (to_z-of_z w64 c.in-Some-Regs.depth (search rules))) fits
