use Rattle.std.proofs.Common.{◌+◌, ℕ, List, Option, None, slice_index_or, sym, subst, ◌∙◌}
use Rattle.symbols_relocs.specs.Names.{AreStems, HasMark}
use Rattle.symbols_relocs.proofs.Numbers.{marks_more, stems_more}
use Rattle.symbols_relocs.proofs.names.list_stems.Goals as goal

pub loop-function-preserved : goal.loop-function-preserved
loop-function-preserved c = record {
  stems = subst (AreStems c.args.object.now c.args.functions.now c.number_stem.new.texts.texts (c.loop-function.function-index + 1)) (sym c.in_ok-push.ensures.items)
      (stems_more c.args.object.now c.args.functions.now c.loop-function.texts.texts c.number_stem.new.texts.texts c.loop-function.function-index c.in_ok-stem.stem c.loop-function.stems.items c.number_stem.ensures.kept c.loop-function.invariant.stems c.in_ok-stem.ensures.number);
  marked = subst (λ (list : List (Option ℕ)). (i : ℕ) → HasMark c.number_stem.new.texts.texts c.number_stem.new.marks.items (slice_index_or list i None)) (sym c.in_ok-push.ensures.items)
      (marks_more c.loop-function.texts.texts c.number_stem.new.texts.texts c.loop-function.marks.items c.number_stem.new.marks.items c.in_ok-stem.stem c.loop-function.stems.items c.number_stem.ensures.kept c.number_stem.ensures.marks c.loop-function.invariant.marked c.in_ok-stem.ensures.marked);
  table = c.number_stem.ensures.table ∙ c.loop-function.invariant.table;
  runs = c.number_stem.ensures.runs;
  len = c.number_stem.ensures.len;
}
