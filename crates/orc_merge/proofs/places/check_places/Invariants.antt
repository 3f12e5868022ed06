use Rattle.std.proofs.Common.{◌≡◌, take, None}
use Rattle.std.specs.Prelude.{All}
use Rattle.orc_walk.specs.Table.{IsLaidOut}
use Rattle.orc_merge.specs.Parts.{first_in}
use Rattle.orc_merge.specs.MergeFaults.{unplaced}
use Rattle.orc_merge.proofs.places.check_places.Given as goal

abbrev pub invariant-loop-number : goal.invariant-loop-number
invariant-loop-number l = record {
  fits : first_in unplaced 0 (take l.number l.parts) ≡ None;
  laid_out : All (λ part. IsLaidOut part.ranges.items) (take l.number l.parts);
}
