use Rattle.std.proofs.Common.{rules, tests, string_bytes}
use Rattle.std.specs.Prelude.{not}
use Rattle.std.proofs.lemmas.Iterator.{YieldsList-from_map_by, YieldsList-from_slice}
use Rattle.std.proofs.lemmas.Iterator.Consumers.{map_from_collect, YieldsList-from_filter}
use Rattle.cli_words.specs.Words.{is_option}
use Rattle.advice.proofs.files.names_in.Goals as goal

pub returns : goal.returns
returns c = map_from_collect _ c.collect.ensures.ran (YieldsList-from_filter _ (λ word. not (is_option word)) (YieldsList-from_map_by _ (λ word. word.now) string_bytes (YieldsList-from_slice c.args.words.now (cc)) c.map.ensures.closure (λ x r q k. search (rules, tests))) c.filter.ensures.closure (λ x b q k. search (rules, tests)))
