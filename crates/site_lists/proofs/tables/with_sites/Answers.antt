use Rattle.std.proofs.Common.{ap, length, subst, arith}
use Rattle.elf_objects.specs.Elf.{Elf}
use Rattle.elf_write.specs.Room.{AreBytes}
use Rattle.site_lists.proofs.tables.with_sites.Goals as goal

pub write_sites-requires-clause-fit : goal.write_sites-requires-clause-fit
write_sites-requires-clause-fit c =
    let o : Elf = c.args.object.now in
    let needed = ap length c.in_ok-secs.ensures in
    record {
      bytes = subst AreBytes c.bytes.ensures.value c.are_bytes.ensures;
      object = c.symbols.ensures.object;
      can = c.requires;
      few = omega (arith, c.in_ok-secs.secs.ok.0);
    }
