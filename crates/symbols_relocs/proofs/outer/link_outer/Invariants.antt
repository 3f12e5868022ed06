use Rattle.std.proofs.Common.{◌≡◌, length}
use Rattle.symbols_relocs.specs.Lists.{AreOuter}
use Rattle.symbols_relocs.proofs.outer.link_outer.Given as goal

abbrev pub invariant-loop-i : goal.invariant-loop-i
invariant-loop-i l = (length l.outer.items ≡ l.i) × AreOuter l.functions l.outer.items
