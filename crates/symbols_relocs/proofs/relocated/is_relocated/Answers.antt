use Rattle.std.proofs.Common.{sym, ap}
use Rattle.std.specs.List.{list_any}
use Rattle.elf_objects.specs.Contents.{relocs_at}
use Rattle.symbols_relocs.specs.Relocs.{changes_field, is_changed}
use Rattle.symbols_relocs.proofs.Ranges.{none_pass}
use Rattle.symbols_relocs.proofs.relocated.is_relocated.Goals as goal

pub returns-then-lacks_relocs : goal.returns-then-lacks_relocs
returns-then-lacks_relocs c =
    sym (none_pass (λ off. is_changed off (relocs_at c.args.index.now.elf c.args.place.sec)) c.args.place.off c.args.len (λ i l. ap (list_any changes_field) (c.lacks_relocs.ensures c.if-lacks_relocs.true i l)))
