use Rattle.std.proofs.Common.{subst, sym}
use Rattle.std.specs.Prelude.{IfErr, IfOk, OnOk}
use Rattle.elf_objects.specs.Object.{IsObject}
use Rattle.flow_defs.specs.Coded.{Coded}
use Rattle.flow_defs.specs.Program.{program_of}
use Rattle.command_base.specs.Code.{IsInOrder}
use Rattle.code_commands.specs.Entry.{IsUncheckable}
use Rattle.code_commands.specs.Show.{IsShownCode}
use Rattle.code_commands.proofs.show_code.code_of.Goals as goal

pub returns-clause-shown : goal.returns-clause-shown
returns-clause-shown c =
    subst (λ (x : Coded). IfOk c.code_of_linked.result (IsShownCode (program_of x c.args.lists.now))) c.in_ok-linked.ensures.ok c.code_of_linked.ensures.shown

pub returns-clause-right : goal.returns-clause-right
returns-clause-right c =
    subst (λ (x : Coded). OnOk c.code_of_linked.result (IsInOrder x c.args.lists.now)) c.in_ok-linked.ensures.ok c.code_of_linked.ensures.right

pub returns-clause-stopped : goal.returns-clause-stopped
returns-clause-stopped c bytes is =
    let same = c.in_ok-linked.ensures.ok in
    subst (λ (x : Coded). IfErr c.code_of_linked.result (IsUncheckable x.map bytes c.args.lists.now)) same
    (c.code_of_linked.ensures.stopped bytes (subst (λ (x : Coded). IsObject bytes x.elf) (sym same) is))
