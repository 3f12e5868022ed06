use Rattle.std.proofs.Common.{◌≡◌, [], subst, sym}
use Rattle.std.specs.Prelude.{IfErr, IfOk, OnOk}
use Rattle.elf_objects.specs.Object.{IsObject}
use Rattle.flow_defs.specs.Coded.{Coded}
use Rattle.command_base.specs.Code.{IsInOrder}
use Rattle.code_commands.specs.Entry.{AreEntryWarnings, IsUncheckable, KeepsEntryRules}
use Rattle.code_commands.proofs.entry_finding.warnings_of.Goals as goal

pub returns-clause-are : goal.returns-clause-are
returns-clause-are c =
    subst (λ (x : Coded). IfOk c.warnings_of_linked.result (λ warnings. AreEntryWarnings x c.args.lists.now c.args.options warnings.items)) c.in_ok-linked.ensures.ok c.warnings_of_linked.ensures.are

pub returns-clause-keeps : goal.returns-clause-keeps
returns-clause-keeps c =
    subst (λ (x : Coded). IfOk c.warnings_of_linked.result (λ warnings. warnings.items ≡ [] → KeepsEntryRules x c.args.lists.now c.args.options)) c.in_ok-linked.ensures.ok c.warnings_of_linked.ensures.keeps

pub returns-clause-right : goal.returns-clause-right
returns-clause-right c =
    subst (λ (x : Coded). OnOk c.warnings_of_linked.result (IsInOrder x c.args.lists.now)) c.in_ok-linked.ensures.ok c.warnings_of_linked.ensures.right

pub returns-clause-stopped : goal.returns-clause-stopped
returns-clause-stopped c bytes is =
    let same = c.in_ok-linked.ensures.ok in
    subst (λ (x : Coded). IfErr c.warnings_of_linked.result (IsUncheckable x.map bytes c.args.lists.now)) same
    (c.warnings_of_linked.ensures.stopped bytes (subst (λ (x : Coded). IsObject bytes x.elf) (sym same) is))
