use Rattle.std.proofs.Common.{◌≡◌, take}
use Rattle.ot_files.specs.Output.{appending}
use Rattle.command_base.specs.List.{list_text}
use Rattle.command_base.proofs.sites_listing.print_places.Given as goal

abbrev pub invariant-loop-place : goal.invariant-loop-place
invariant-loop-place g l = record {
  so_far : g.S.Sink.written l.out ≡ appending (g.S.Sink.written l.initial.out) (list_text l.object l.word (take l.place-index l.places));
  unfailed : g.S.Sink.faults l.out ≡ g.S.Sink.faults l.initial.out;
}
