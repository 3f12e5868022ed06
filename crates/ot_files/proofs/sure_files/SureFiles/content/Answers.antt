use Rattle.std.proofs.Common.{sym, ap, ◌∙◌, position, Some, option_copied}
use Rattle.std.specs.FinMap.{get}
use Rattle.ot_files.proofs.Entries.{has_name, get_absent, get_present}
use Rattle.ot_files.proofs.sure_files.SureFiles.content.Goals as goal

pub returns-in_err-place : goal.returns-in_err-place
returns-in_err-place c =
    let name = c.args.name.now in
    ap option_copied c.from_residual.ensures
    ∙ sym (get_absent name c.self.inside.entries.items (c.in_err-place.ensures ∙ ap (position (has_name name)) c.deref.ensures.value))
    ∙ ap (λ held. get held name) c.self.view_is

pub returns : goal.returns
returns c =
    let name = c.args.name.now in
    ap Some c.as_slice.ensures.value
    ∙ sym (get_present name c.self.inside.entries.items c.in_ok-place.place c.index.result.now (c.in_ok-place.ensures ∙ ap (position (has_name name)) c.deref.ensures.value) c.index.ensures)
    ∙ ap (λ held. get held name) c.self.view_is
