use Rattle.std.proofs.Common.{sym}
use Rattle.symbols_relocs.proofs.ExtentOrder.{none_has}
use Rattle.symbols_relocs.proofs.extents.Extents.contains.Goals as goal

pub returns-in-None : goal.returns-in-None
returns-in-None c = sym (none_has c.args.self.now c.args.place c.in-None.ensures)
