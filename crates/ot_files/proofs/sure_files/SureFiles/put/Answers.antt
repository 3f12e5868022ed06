use Rattle.std.proofs.Common.{ap, ◌∙◌, position}
use Rattle.std.specs.FinMap.{insert}
use Rattle.ot_files.specs.Memory.{content_of}
use Rattle.ot_files.proofs.Entries.{has_name, content_of-set, content_of-push}
use Rattle.ot_files.proofs.sure_files.SureFiles.put.Goals as goal

pub returns-in-Some-clause-ok : goal.returns-in-Some-clause-ok
returns-in-Some-clause-ok c =
    let name = c.args.name.now in
    content_of-set name c.self.inside.entries.items c.in-Some.place c.index_mut.result.now c.in_ok-copy.copy c.args.bytes.now (c.in-Some.ensures ∙ ap (position (has_name name)) c.deref.ensures.value) c.index_mut.ensures.value c.in_ok-copy.ensures.items
    ∙ ap (λ held. insert held name c.args.bytes.now) c.self.view_is

pub returns-in_ok-push-in-None-clause-ok : goal.returns-in_ok-push-in-None-clause-ok
returns-in_ok-push-in-None-clause-ok c =
    let name = c.args.name.now in
    ap content_of c.in_ok-push-in-None.ensures.items
    ∙ content_of-push name c.self.inside.entries.items (c.in_ok-name-in-None.name, c.in_ok-copy.copy) c.args.bytes.now (c.in-None.ensures ∙ ap (position (has_name name)) c.deref.ensures.value) c.in_ok-name-in-None.ensures.ok c.in_ok-copy.ensures.items
    ∙ ap (λ held. insert held name c.args.bytes.now) c.self.view_is
