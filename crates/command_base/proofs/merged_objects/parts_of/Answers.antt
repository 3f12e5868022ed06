use Rattle.std.proofs.Common.{◌+◌, ◌∙◌, List, arith, refl, subst, sym, take}
use Rattle.orc_merge.specs.declared.part.Part.{Part}
use Rattle.command_base.specs.MergedObjects.{no_memory}
use Rattle.command_base.proofs.ObjectLemmas.{ReadSoFar, all_mergeable, all_read, mergeable_at, none_at, none_read, one_more, part_at, pushed, stops_at}
use Rattle.command_base.proofs.merged_objects.parts_of.Goals as goal

pub loop-number-init : goal.loop-number-init
loop-number-init g c = record {
  so_far = subst (λ (parts : List Part). ReadSoFar (g.F.Files.content c.args.files.now) (take 0 c.files-file-items.result.now) parts) (sym c.new-parts.ensures.items) (none_read (g.F.Files.content c.args.files.now) c.files-file-items.result.now);
  kept = refl;
  later = omega arith;
}

pub returns-in-Err-clause-stopped : goal.returns-in-Err-clause-stopped
returns-in-Err-clause-stopped g c =
    stops_at (g.F.Files.content c.args.files.now) c.args.layout.now c.files-file-items.result.now c.loop-number.number c.file-item.result c.loop-number.parts.items (g.F.Files.faults c.args.files.now) (record { content = g.F.Files.content c.read_part.new.files; faults = g.F.Files.faults c.read_part.new.files }) c.in-Err.stop c.of_part.result c.files-file-items.ensures c.loop-number-test.true c.loop-number.invariant.so_far
    (none_at c.files-file-items.result.now c.loop-number.number c.file-item.result (g.F.Files.content c.args.files.now) (g.F.Files.content c.loop-number.files) (g.F.Files.faults c.args.files.now) (g.F.Files.faults c.loop-number.files) (record { content = g.F.Files.content c.read_part.new.files; faults = g.F.Files.faults c.read_part.new.files }) c.in-Err.stop c.file-item.is c.loop-number.invariant.kept c.loop-number.invariant.later c.in-Err.ensures.none)
    c.of_part.ensures

pub returns-in-Err-clause-unchanged : goal.returns-in-Err-clause-unchanged
returns-in-Err-clause-unchanged g c = c.read_part.ensures.unchanged ∙ c.loop-number.invariant.kept

pub returns-in-Err-clause-later : goal.returns-in-Err-clause-later
returns-in-Err-clause-later g c = omega (arith, c.loop-number.invariant.later, c.read_part.ensures.later)

pub returns-then-is_err-clause-stopped : goal.returns-then-is_err-clause-stopped
returns-then-is_err-clause-stopped g c = no_memory

pub returns-then-is_err-clause-unchanged : goal.returns-then-is_err-clause-unchanged
returns-then-is_err-clause-unchanged g c = c.read_part.ensures.unchanged ∙ c.loop-number.invariant.kept

pub returns-then-is_err-clause-later : goal.returns-then-is_err-clause-later
returns-then-is_err-clause-later g c = omega (arith, c.loop-number.invariant.later, c.read_part.ensures.later)

pub loop-number-preserved : goal.loop-number-preserved
loop-number-preserved g c = record {
  so_far = subst (λ (parts : List Part). ReadSoFar (g.F.Files.content c.args.files.now) (take (c.loop-number.number + 1) c.files-file-items.result.now) parts) (sym (pushed c.push.result _ _ _ (sym c.is_err.ensures.value ∙ c.if-is_err.false) c.push.ensures.items))
      (one_more (g.F.Files.content c.args.files.now) c.files-file-items.result.now c.loop-number.number c.file-item.result c.loop-number.parts.items c.in-Ok.part c.loop-number-test.true c.loop-number.invariant.so_far
      (part_at c.files-file-items.result.now c.loop-number.number c.file-item.result (g.F.Files.content c.args.files.now) (g.F.Files.content c.loop-number.files) c.in-Ok.part c.file-item.is c.loop-number.invariant.kept c.in-Ok.ensures.part) (mergeable_at c.files-file-items.result.now c.loop-number.number c.file-item.result c.in-Ok.part c.file-item.is c.in-Ok.ensures.mergeable));
  kept = c.read_part.ensures.unchanged ∙ c.loop-number.invariant.kept;
  later = omega (arith, c.loop-number.invariant.later, c.read_part.ensures.later);
}

pub returns-clause-parts : goal.returns-clause-parts
returns-clause-parts g c = all_read (g.F.Files.content c.args.files.now) c.args.layout.now c.files-file-items.result.now c.loop-number.number c.loop-number.parts.items c.files-file-items.ensures c.loop-number-test.false c.loop-number.invariant.so_far

pub returns-clause-mergeable : goal.returns-clause-mergeable
returns-clause-mergeable g c =
    all_mergeable (g.F.Files.content c.args.files.now) c.args.layout.now c.files-file-items.result.now c.loop-number.number c.loop-number.parts.items c.files-file-items.ensures c.loop-number-test.false c.loop-number.invariant.so_far c.requires.files c.requires.places

pub returns-clause-unchanged : goal.returns-clause-unchanged
returns-clause-unchanged g c = c.loop-number.invariant.kept

pub returns-clause-later : goal.returns-clause-later
returns-clause-later g c = c.loop-number.invariant.later
