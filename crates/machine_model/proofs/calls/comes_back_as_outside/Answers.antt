-- The call goes out, and its target may return.
use Rattle.std.proofs.Common.{◌≡◌, true, refl, sym, ◌∙◌, subst}
use Rattle.machine_defs.specs.declared.flow.Role.{Role}
use Rattle.machine_defs.specs.Program.{Program}
use Rattle.machine_defs.specs.MayReturn.{target_may_return}
use Rattle.machine_defs.specs.Ways.{comes_back_as_outside}
use Rattle.program_model.specs.Program.{program_of}
use Rattle.machine_model.specs.Called.{goes_out}
use Rattle.machine_model.proofs.calls.comes_back_as_outside.Goals as goal

pub returns-then-goes_out : goal.returns-then-goes_out
returns-then-goes_out c h =
    let P : Program = program_of c.args.p.now c.args.set.now in
    let out : goes_out P c.args.q c.in-CallIn.entry ≡ true = sym (c.goes_out.ensures c.args.set.now) ∙ c.if-goes_out.true in
    let may : target_may_return P c.args.q ≡ true = c.target_may_return.ensures h in
    subst (λ (r : Role). comes_back_as_outside P c.args.q r ≡ true) (sym c.in-CallIn.is) (rw (out, may) refl)
