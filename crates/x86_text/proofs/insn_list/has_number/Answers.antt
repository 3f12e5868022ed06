use Rattle.std.proofs.Common.{◌≡◌, Some, length, refl, sym, ap, ◌∙◌}
use Rattle.std.proofs.lemmas.Option.{slice_get_read}
use Rattle.operation_defs.specs.declared.insn.Insn.{Insn}
use Rattle.x86_text.proofs.SameInsns.{same_insn}
use Rattle.x86_text.proofs.insn_list.has_number.Goals as goal

pub returns-in-Some : goal.returns-in-Some
returns-in-Some c = λ equal.
    let same : c.in-Some.kind.now ≡ c.args.insn = same_insn c.in-Some.kind.now c.args.insn (sym c.eq.ensures ∙ equal) in
    slice_get_read c.args.kinds.now (length c.args.kinds.now) c.args.number c.in-Some.kind.now refl c.in-Some.ensures.lookup.3.0 c.in-Some.ensures.lookup.1
    ∙ ap (λ (insn : Insn). Some insn) same
