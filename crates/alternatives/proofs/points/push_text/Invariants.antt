use Rattle.std.proofs.Common.{◌≡◌, ◌<◌, ◌≤◌, ◌++◌, ◌∷◌, List, length, drop, map}
use Rattle.x86_text.specs.Code.{offsets_of}
use Rattle.alternatives.specs.declared.point.Point.{Point}
use Rattle.alternatives.specs.Gathered.{plain_of, woven}
use Rattle.alternatives.proofs.Merging.{plain_begin}
use Rattle.alternatives.proofs.points.push_text.Given as goal

abbrev pub invariant-loop-off : goal.invariant-loop-off
invariant-loop-off l = record {
  within : l.next ≤ length l.others;
  points : (rest : List Point) → l.points.items ++ woven (map (plain_begin l.text.sec) (drop l.off-index (offsets_of l.text.text)) ++ rest) (drop l.next l.others) ≡ l.fn.points.items ++ woven (plain_of l.text ++ rest) (drop l.from l.others);
  behind : (p : Point) (rest : List Point) → p.place.sec ≡ l.text.sec → p.place.off < l.limit → woven (p ∷ rest) (drop l.next l.others) ≡ p ∷ woven rest (drop l.next l.others);
}
