use Rattle.std.proofs.Common.{◌≡◌, map, take}
use Rattle.alternatives.specs.declared.original.Original.{Original}
use Rattle.alternatives.proofs.sites.numbers_of.Given as goal

abbrev pub invariant-loop-original : goal.invariant-loop-original
invariant-loop-original l = l.numbers.items ≡ map (λ (o : Original). o.entry) (take l.original-index l.originals)
