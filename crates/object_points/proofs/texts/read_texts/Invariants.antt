use Rattle.std.proofs.Common.{◌≡◌}
use Rattle.alternatives.specs.Gathered.{plain_insns}
use Rattle.flow_defs.specs.Coded.{coded_by}
use Rattle.object_points.specs.Linked.{AreCode}
use Rattle.object_points.proofs.TextsLemmas.{texts_below}
use Rattle.object_points.proofs.texts.read_texts.Given as goal

abbrev pub invariant-loop-sec : goal.invariant-loop-sec
invariant-loop-sec l = record {
  read : l.texts.items ≡ texts_below (coded_by l.map l.object) l.sec;
  insns : l.insns ≡ plain_insns (texts_below (coded_by l.map l.object) l.sec);
  code : AreCode (coded_by l.map l.object) l.sec;
}
