use Rattle.std.proofs.Common.{◌≡◌, ◌<◌, ◌≤◌, true, refl, arith}
use Rattle.elf_objects.specs.Extents.{extent_at}
use Rattle.elf_objects.proofs.extents.is_crowded.Goals as goal

pub returns-then-from-reach : goal.returns-then-from-reach
returns-then-from-reach c =
    let xs = c.args.extents.now in
    let p = c.args.p in
    let order = c.requires.order.1 in
    let begins : (extent_at xs p).offset < c.args.reach = omega (arith, c.from.ensures) in
    let found = c.requires.reach.reached (extent_at xs p).offset begins in (
      λ _. record {
        other = found.0;
        inside = omega (arith, found.1, c.requires.known);
        differs = λ e. absurd (omega (arith, found.1, e));
        meets = record {
          byte = (extent_at xs p).offset;
          from_x = omega arith;
          to_x = order.some p c.requires.known;
          from_y = order.rising found.0 p (omega (arith, found.1)) c.requires.known;
          to_y = found.2;
        };
      },
      λ _. refl,
    )
