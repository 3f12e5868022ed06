use Rattle.std.proofs.Common.{◌≡◌, ℕ, ◌+◌, ◌<◌, ◌≤◌, [], take, drop, get_or, None, length}
use Rattle.std.specs.Prelude.{option_map}
use Rattle.ot_base.specs.NamesFile.{bytes_left, line_fault, lines, lines_in}
use Rattle.ot_base.specs.NameLists.{with_lines}
use Rattle.ot_base.proofs.lists.Lists.parse.Given as goal

abbrev pub invariant-loop-rest : goal.invariant-loop-rest
invariant-loop-rest l = record {
  lists : l.lists ≡ with_lines (take l.count (lines l.bytes));
  no_fault : (k : ℕ) → k < l.count → line_fault (get_or (lines l.bytes) k []) ≡ None;
  left : drop l.count (lines l.bytes) ≡ lines_in (option_map (λ rest. rest.now) l.rest);
  few : l.count + bytes_left (option_map (λ rest. rest.now) l.rest) ≤ length l.bytes + 1;
}

abbrev pub decreases-loop-rest : goal.decreases-loop-rest
decreases-loop-rest l = bytes_left (option_map (λ rest. rest.now) l.rest)
