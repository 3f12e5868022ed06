use Rattle.std.proofs.Common.{rules, w16, of_z, to_z, ◌∙◌, ap, FitsSigned, arith}
use Rattle.std.proofs.Math.Facts.{to_z-of_z}
use Rattle.byteorder.specs.Endian.{little_number}
use Rattle.elf_objects.specs.Number.{half}
use Rattle.orc_bytes.specs.RowBytes.{bytes_of_row}
use Rattle.orc_bytes.proofs.RowRead.{row_told, six_bytes}
use Rattle.orc_bytes.proofs.Decoding.{tail_is}
use Rattle.orc_merge.proofs.TableLemmas.{row_tested, row_refused}
use Rattle.orc_merge.proofs.row_bytes.read_row.Goals as goal
use Rattle.orc_merge.proofs.row_bytes.read_row.Goals.{else-row-le-REG_SP_INDIRECT-via-then-row-le-REG_SP_INDIRECT+then-row-le-REG_SP_INDIRECT-2+then-row-le-KIND_REGS_PARTIAL+else-fields, else-row-le-REG_SP_INDIRECT-via-then-row-le-REG_SP_INDIRECT+then-row-le-REG_SP_INDIRECT-2+else-row-le-KIND_REGS_PARTIAL, else-row-le-REG_SP_INDIRECT-via-then-row-le-REG_SP_INDIRECT+else-row-le-REG_SP_INDIRECT-2, else-row-le-REG_SP_INDIRECT-via-else-row-le-REG_SP_INDIRECT}

pub returns-then-fields : goal.returns-then-fields
unfolding half
returns-then-fields c =
    let sp : FitsSigned w16 c.read_i16.result = search rules in
    let bp : FitsSigned w16 c.read_i16-2.result = search rules in
    let told = row_told c.args.bytes.now (to_z w16 (of_z w16 c.read_i16.result)) (to_z w16 (of_z w16 c.read_i16-2.result)) c.read_u16-fields.result
    (to_z-of_z sp ∙ c.read_i16.ensures)
    (to_z-of_z bp ∙ c.read_i16-2.ensures ∙ ap (λ xs. to_z w16 (little_number 2 xs)) (tail_is 2 c.args.bytes.now))
    (c.read_u16-fields.ensures ∙ ap (λ xs. little_number 2 xs) (tail_is 4 c.args.bytes.now))
    c.if-row-le-REG_SP_INDIRECT.true c.if-row-le-REG_SP_INDIRECT-2.true c.if-row-le-KIND_REGS_PARTIAL.true c.if-fields.true in
    record {
      some = told;
      test = row_tested c.args.bytes.now told.1;
      bytes = ap bytes_of_row told.0 ∙ six_bytes c.args.bytes.now (λ k. let small = c.type_inv.bytes k in omega (arith, small.fits)) c.requires told.1;
      none = tt;
    }

pub returns-else-row-le-REG_SP_INDIRECT-clause-none : goal.returns-else-row-le-REG_SP_INDIRECT-clause-none
unfolding half
returns-else-row-le-REG_SP_INDIRECT-clause-none c =
    row_refused c.args.bytes.now c.read_u16-fields.result (c.read_u16-fields.ensures ∙ ap (λ xs. little_number 2 xs) (tail_is 4 c.args.bytes.now)) (λ sp bp kind few.
    elim c.else-row-le-REG_SP_INDIRECT.branch [
      | else-row-le-REG_SP_INDIRECT-via-then-row-le-REG_SP_INDIRECT+then-row-le-REG_SP_INDIRECT-2+then-row-le-KIND_REGS_PARTIAL+else-fields w ↦ omega (arith, w.if-fields.false, few)
      | else-row-le-REG_SP_INDIRECT-via-then-row-le-REG_SP_INDIRECT+then-row-le-REG_SP_INDIRECT-2+else-row-le-KIND_REGS_PARTIAL w ↦ omega (arith, w.if-row-le-KIND_REGS_PARTIAL.false, kind)
      | else-row-le-REG_SP_INDIRECT-via-then-row-le-REG_SP_INDIRECT+else-row-le-REG_SP_INDIRECT-2 w ↦ omega (arith, w.if-row-le-REG_SP_INDIRECT-2.false, bp)
      | else-row-le-REG_SP_INDIRECT-via-else-row-le-REG_SP_INDIRECT w ↦ omega (arith, w.if-row-le-REG_SP_INDIRECT.false, sp)
    ])
