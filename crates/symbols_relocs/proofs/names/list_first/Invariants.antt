use Rattle.std.proofs.Common.{◌≡◌, length}
use Rattle.text_numbers.specs.Texts.{AreKept}
use Rattle.symbols_relocs.specs.Names.{strings}
use Rattle.symbols_relocs.proofs.Numbers.{AreFirstBelow}
use Rattle.symbols_relocs.proofs.names.list_first.Given as goal

abbrev pub invariant-loop-k : goal.invariant-loop-k
invariant-loop-k l = record {
  len : length l.first.items ≡ length l.initial.texts.texts;
  table : l.texts.table ≡ strings l.object;
  kept : AreKept l.initial.texts.texts l.texts.texts;
  first : AreFirstBelow l.object l.initial.texts.texts l.marks l.k l.first.items;
}
