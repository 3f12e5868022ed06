use Rattle.std.proofs.Common.{◌≡◌, ◌∙◌, ap, ap₂, true}
use Rattle.std.proofs.lemmas.Result.{IfOk-at_ok, IfOk-weaker}
use Rattle.clap.specs.Words.{App, app_of, with_subcommand}
use Rattle.clap.proofs.SimpleLemmas.{plain_fields}
use Rattle.cli_matches.proofs.making.with_command.Goals as goal

pub returns-in-Ok-program : goal.returns-in-Ok-program
returns-in-Ok-program c = λ app added plain program_is command_is.
    let program : app_of c.in-Ok-program.program ≡ app = IfOk-at_ok (λ made. app_of made ≡ app) c.in-Ok-program.is program_is in
    let command : app_of c.in-Ok.command ≡ added = IfOk-at_ok (λ made. app_of made ≡ added) c.in-Ok.is command_is in
    let is_plain : (app_of c.in-Ok.command).top.is_plain ≡ true = ap (λ (a : App). a.top.is_plain) command ∙ plain in
    IfOk-weaker c.subcommand.result _ _ (λ made adds. adds.shape (plain_fields _ is_plain).globals ∙ ap₂ with_subcommand program (ap (λ (a : App). a.top) command)) c.subcommand.ensures
