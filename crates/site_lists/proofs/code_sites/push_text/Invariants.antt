use Rattle.std.proofs.Common.{◌≡◌, take}
use Rattle.site_lists.specs.Listed.{listed}
use Rattle.site_lists.specs.Sites.{joined, listed_of, placed_code}
use Rattle.site_lists.proofs.code_sites.push_text.Given as goal

abbrev pub invariant-loop-i : goal.invariant-loop-i
invariant-loop-i l = listed l.lists ≡ joined (listed l.initial.lists) (listed_of l.fn.options l.linked (take l.i (placed_code l.text)))
