use Rattle.std.proofs.Common.{◌<◌, ap, length, subst, arith}
use Rattle.std.proofs.lemmas.List.Elements.{All-weaker}
use Rattle.std.proofs.lemmas.Option.{slice_get_within}
use Rattle.ot_base.specs.declared.row.PlacedRow.{PlacedRow}
use Rattle.elf_objects.specs.Elf.{Elf}
use Rattle.elf_write.specs.Room.{AreBytes}
use Rattle.eh_frame.specs.Framed.{IsFrameRowIn}
use Rattle.eh_frame.proofs.frames.with_frames.Goals as goal

pub needed_symbols-requires : goal.needed_symbols-requires
needed_symbols-requires c =
    let o : Elf = c.args.object.now in
    All-weaker (IsFrameRowIn o) (λ (placed : PlacedRow). placed.place.sec < length o.sections) (λ placed is. slice_get_within o.sections placed.place.sec is.place.section is.place.at) c.args.rows.now c.requires.each

pub write_frames-requires-clause-fit : goal.write_frames-requires-clause-fit
write_frames-requires-clause-fit c =
    let o : Elf = c.args.object.now in
    let needed = ap length c.in_ok-secs.ensures in
    record {
      bytes = subst AreBytes c.bytes.ensures.value c.are_bytes.ensures;
      object = c.symbols.ensures.object;
      can = c.requires;
      few = omega (arith, c.in_ok-secs.secs.ok.0);
    }
