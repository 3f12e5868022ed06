use Rattle.std.proofs.Common.{refl}
use Rattle.orc_merge.proofs.LayoutLemmas.{file_added, new_has_none}
use Rattle.orc_merge.proofs.layout.Reading.add_file.Goals as goal

pub returns : goal.returns
returns c = λ files is.
    (refl, file_added files c.args.self.now _ (record { name = c.args.name; places = c.new-places.result }) is c.in_ok-push.ensures.items c.new-places.ensures.items (new_has_none c.new.result c.new.ensures.empty))
