-- The points of level 0 so far are marked and listed.
use Rattle.std.proofs.Common.{◌≡◌, ◌≤◌, ℕ, [], length}
use Rattle.machine_defs.specs.Program.{Program}
use Rattle.program_graph.specs.Tells.{Tells}
use Rattle.state_ways.specs.Marks.{AreShown, IsBegun}
use Rattle.state_ways.specs.Ways.{turns_at}
use Rattle.state_ways.proofs.search.begin.Given as goal

abbrev pub invariant-loop-n : goal.invariant-loop-n
invariant-loop-n l = record {
  points : length l.search.ways ≡ length l.graph.parts.points.items;
  fresh : (q : ℕ) → l.n ≤ q → turns_at l.search.ways q ≡ [];
  shown : AreShown l.search.ways l.search.next.items;
  begun : (p : Program) → Tells p l.graph.parts → IsBegun p l.n l.search.ways l.search.next.items;
  spent : l.search.spent ≡ l.fn.search.spent;
}
