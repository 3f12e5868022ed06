use Rattle.std.proofs.Common.{◌≡◌, ℕ, ◌<◌, length, get_or}
use Rattle.ot_base.specs.declared.place.Place.{Place}
use Rattle.jump_tables.specs.declared.table.Table.{Table}
use Rattle.jump_tables.specs.Kept.{IsTableFrom}
use Rattle.jump_tables.proofs.table.list_tables.Given as goal

abbrev pub invariant-loop-start : goal.invariant-loop-start
invariant-loop-start l = record {
  len : length l.tables.items ≡ l.start-index;
  each : (k : ℕ) (d : Place) (e : Table) → k < l.start-index → IsTableFrom l.code.index.now.elf l.code.texts.now l.code.sites.now.entries (get_or l.starts k d) (get_or l.tables.items k e);
}
