use Rattle.std.proofs.Common.{Bool, subst}
use Rattle.std.proofs.Math.Path.{fun_ext}
use Rattle.std.proofs.lemmas.Result.{err_from_is_err_and}
use Rattle.ot_base.specs.declared.place.Place.{Place}
use Rattle.special_sections.specs.Hints.{hints}
use Rattle.special_sections.specs.Kinds.{faults}
use Rattle.special_sections.specs.Reasons.{TellsFirst}
use Rattle.special_sections.proofs.hints.read_hints.Goals as goal

pub returns-in_err-hints-clause-err : goal.returns-in_err-hints-clause-err
returns-in_err-hints-clause-err c =
    let p = err_from_is_err_and c.from_residual-in_err-hints.result c.from_residual-in_err-hints.ensures.1 in
    rw (p.1, p.2) (subst (λ (loose : Place → Bool). TellsFirst (faults (hints loose) c.args.object.now) c.in_err-hints.field-0.0) (fun_ext c.in_ok-loose.ensures) c.in_err-hints.ensures.err)
