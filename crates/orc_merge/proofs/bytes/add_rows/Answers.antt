use Rattle.std.proofs.Common.{◌≡◌, ◌++◌, ap, sym, subst, ◌∙◌, length, append_assoc, take, take_all, arith, refl, Some}
use Rattle.std.specs.Prelude.{slice_get}
use Rattle.ot_base.specs.CountedItems.{CountedItems}
use Rattle.orc_walk.specs.Rows.{rows_of}
use Rattle.orc_bytes.specs.RowBytes.{bytes_of_row}
use Rattle.orc_merge.specs.TableBytes.{row_section}
use Rattle.orc_merge.proofs.PartLemmas.{append_nil}
use Rattle.orc_merge.proofs.Writing.{next_row, row_known}
use Rattle.orc_merge.proofs.bytes.add_rows.Goals as goal

pub read-address-requires : goal.read-address-requires
read-address-requires c = omega (arith, ap length c.loop-i.invariant.same, c.len-i-end.ensures)

pub row_bytes-requires : goal.row_bytes-requires
row_bytes-requires c =
    row_known c.args.tape.now.items c.loop-i.i c.read-address.result c.requires
    (subst (λ items. slice_get items c.loop-i.i ≡ Some c.read-address.result) c.loop-i.invariant.same c.read-address.ensures.item)

pub loop-i-init : goal.loop-i-init
loop-i-init c = record { bytes = sym (append_nil _); same = refl }

pub loop-i-preserved : goal.loop-i-preserved
loop-i-preserved c =
    let items = c.args.tape.now.items in
    let read = subst (λ items. slice_get items c.loop-i.i ≡ Some c.read-address.result) c.loop-i.invariant.same c.read-address.ensures.item in
    record {
      bytes =
          c.in_ok-extend_from_slice.ensures.items
          ∙ ap (λ bs. c.loop-i.bytes.items ++ bs) c.row_bytes.ensures
          ∙ ap (λ bs. bs ++ bytes_of_row c.read-address.result.1) c.loop-i.invariant.bytes
          ∙ append_assoc c.args.bytes.now.items (row_section (rows_of (take c.loop-i.i items))) (bytes_of_row c.read-address.result.1)
          ∙ ap (λ bs. c.args.bytes.now.items ++ bs) (sym (next_row items c.loop-i.i c.read-address.result read));
      same = ap (λ (t : CountedItems). t.items) c.read-address.ensures.counted ∙ c.loop-i.invariant.same;
    }

pub returns-clause-bytes : goal.returns-clause-bytes
returns-clause-bytes c = c.loop-i.invariant.bytes ∙ ap (λ items. c.args.bytes.now.items ++ row_section (rows_of items)) (take_all c.loop-i.i c.args.tape.now.items (omega (arith, c.len-i-end.ensures)))
