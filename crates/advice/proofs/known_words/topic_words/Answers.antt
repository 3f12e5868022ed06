use Rattle.std.proofs.Common.{◌==◌, rules, tests}
use Rattle.std.specs.List.{before_first}
use Rattle.std.proofs.lemmas.Iterator.{YieldsList-from_map_by}
use Rattle.std.proofs.lemmas.Iterator.Consumers.{map_from_collect, YieldsList-from_filter}
use Rattle.std.proofs.lemmas.Iterator.Splits.{YieldsList-from_lines}
use Rattle.explanations.specs.Topics.{is_topic}
use Rattle.advice.proofs.Topics.{are_topics, listed}
use Rattle.advice.proofs.known_words.topic_words.Goals as goal

pub returns-clause-topics : goal.returns-clause-topics
returns-clause-topics c = are_topics

pub returns-clause-words : goal.returns-clause-words
returns-clause-words c =
    rw (listed c.topics.result.now c.topics.ensures.text) at (map_from_collect _ c.collect.ensures.ran (YieldsList-from_filter _ is_topic (YieldsList-from_map_by _ (λ word. word.now) (before_first (λ byte. byte == 32)) (YieldsList-from_lines c.topics.result.now (cc)) c.map.ensures.closure (λ x r q k. search (rules, tests))) c.filter.ensures.closure (λ x b q k. search (rules, tests))))
