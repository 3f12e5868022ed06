use Rattle.std.proofs.Common.{◌≡◌, [], map, string_bytes}
use Rattle.cli_words.specs.Grammar.{first_fault}
use Rattle.cli_words.proofs.JudgeLemmas.{fault_from}
use Rattle.cli_words.proofs.judge.first_fault.Given as goal

abbrev pub invariant-loop-index : goal.invariant-loop-index
invariant-loop-index l = first_fault l.command [] (map string_bytes l.words) ≡ fault_from l.command (map string_bytes l.words) l.index
