use Rattle.std.proofs.Common.{rules, ◌≡◌, Ok, ap, is_ok, map, option_map, string_bytes, sym, true, ◌∙◌}
use Rattle.clap.specs.Words.{app_of}
use Rattle.cli_words.specs.Grammar.{command_in, meaning}
use Rattle.cli_matches.specs.Matches.{request_of}
use Rattle.cli_matches.proofs.MeantLemmas.{answers, meant_of, nothing_is, ok_if_asked, ok_says, request_is, some_is}
use Rattle.cli_matches.proofs.reading.read_words.Goals as goal

pub unreachable-requires : goal.unreachable-requires
unreachable-requires c =
    let words = map string_bytes c.args.words.now in
    let right : is_ok (meaning words) ≡ true = search rules in
    let meant = meant_of (meaning words) right in
    let says = ok_says (app_of c.in_ok-command_line.field-0) words c.in-Ok.matches meant.0 c.in_ok-command_line.ensures (answers words meant.0 meant.1) c.in-Ok.ensures.matches c.in-Ok.ensures.kinds in
    nothing_is _ meant.0 (ap (option_map command_in) c.in-None.is) (c.in_ok-command-in-Ok.ensures meant.0 says)

pub returns-in-Some-clause-ok : goal.returns-in-Some-clause-ok
returns-in-Some-clause-ok c =
    let words = map string_bytes c.args.words.now in
    let right : is_ok (meaning words) ≡ true = search rules in
    let meant = meant_of (meaning words) right in
    let says = ok_says (app_of c.in_ok-command_line.field-0) words c.in-Ok.matches meant.0 c.in_ok-command_line.ensures (answers words meant.0 meant.1) c.in-Ok.ensures.matches c.in-Ok.ensures.kinds in
    meant.1 ∙ ap Ok (some_is meant.0 (command_in c.in-Some.command) (sym (c.in_ok-command-in-Ok.ensures meant.0 says) ∙ ap (option_map command_in) c.in-Some.is))

pub returns-in-Err-clause-ok : goal.returns-in-Err-clause-ok
returns-in-Err-clause-ok c =
    let words = map string_bytes c.args.words.now in
    let right : is_ok (meaning words) ≡ true = search rules in
    let meant = meant_of (meaning words) right in
    let asked = c.requested.ensures ∙ ap request_of c.kind.ensures in
    ok_if_asked words meant.0 c.requested.result _ c.ok_or.result c.ok_or.ensures.value meant.1
    (λ command same. request_is (app_of c.in_ok-command_line.field-0) words c.in-Err.error meant.0 command c.in_ok-command_line.ensures (answers words meant.0 meant.1) c.in-Err.ensures.passes c.in-Err.ensures.kinds (sym asked ∙ same))
