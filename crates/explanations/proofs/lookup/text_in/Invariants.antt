use Rattle.std.proofs.Common.{◌≡◌, drop}
use Rattle.explanations.specs.Entry.{text_on, told}
use Rattle.explanations.proofs.lookup.text_in.Given as goal

-- the text on the topic is that in the tables that are left
abbrev pub invariant-loop-rows : goal.invariant-loop-rows
invariant-loop-rows l = text_on (told l.tables) l.topic ≡ text_on (told (drop l.rows-index l.tables)) l.topic
