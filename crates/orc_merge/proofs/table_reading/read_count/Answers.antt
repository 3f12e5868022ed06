use Rattle.std.proofs.Common.{sym, ap, ◌∙◌, refl, arith}
use Rattle.byteorder.specs.Endian.{little_number}
use Rattle.elf_objects.specs.Number.{xword}
use Rattle.orc_bytes.proofs.Decoding.{tail_is}
use Rattle.orc_merge.proofs.TableSteps.{head_of, count_first}
use Rattle.orc_merge.proofs.table_reading.read_count.Goals as goal

pub returns-then-fits_length-clause-head : goal.returns-then-fits_length-clause-head
unfolding xword
returns-then-fits_length-clause-head c =
    let is = c.read_u64-count.ensures ∙ ap (little_number 8) (tail_is 8 c.args.bytes.now) in
    head_of c.args.bytes.now c.read_u64-count.result (sym c.wrong_magic.ensures ∙ c.in_default.is) (omega arith) is (sym c.fits_length.ensures ∙ c.if-fits_length.true)

pub returns-else-fits_length-clause-fault : goal.returns-else-fits_length-clause-fault
unfolding xword
returns-else-fits_length-clause-fault c =
    let is = c.read_u64-count.ensures ∙ ap (little_number 8) (tail_is 8 c.args.bytes.now) in
    (8, count_first c.args.bytes.now c.read_u64-count.result (sym c.wrong_magic.ensures ∙ c.in_default.is) (omega arith) is (sym c.fits_length.ensures ∙ c.if-fits_length.false), refl)
