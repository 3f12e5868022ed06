use Rattle.std.proofs.Common.{◌+◌, ◌*◌, ap, ◌∙◌}
use Rattle.byteorder.specs.Endian.{little_number}
use Rattle.elf_objects.specs.Number.{xword}
use Rattle.orc_bytes.proofs.Decoding.{tail_is}
use Rattle.orc_merge.proofs.table_reading.address.Goals as goal

pub returns : goal.returns
unfolding xword
returns c = c.read_u64.ensures ∙ ap (little_number 8) (tail_is (16 + 8 * c.args.i) c.args.bytes.now)
