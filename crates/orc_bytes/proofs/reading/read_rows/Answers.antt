use Rattle.std.proofs.Common.{◌≡◌, ℕ, ◌+◌, ◌*◌, ◌<◌, List, [], ◌∷◌, ◌++◌, inr, sym, ◌∙◌, ap, subst, w16, FitsSigned, rules, length, arith}
use Rattle.ot_base.specs.declared.row.PlacedRow.{PlacedRow}
use Rattle.orc_bytes.specs.Faults.{row, bits, slot, without_rows, row_count}
use Rattle.orc_bytes.specs.Parts.{parts_of}
use Rattle.orc_bytes.proofs.Decoding.{AreRead, next_read, all_read, row_tail, six_tail, no_row_tail, row_tail_is}
use Rattle.orc_bytes.proofs.reading.read_rows.Goals as goal
use Rattle.orc_bytes.proofs.reading.read_rows.Goals.{else-count-eq0-via-then-count-eq0+else-relocs-gt0, else-count-eq0-via-else-count-eq0}

pub returns-in_default-clause-err : goal.returns-in_default-clause-err
returns-in_default-clause-err c =
    inr (row (parts_of c.args.object.now c.args.parts.now) c.loop-i.i _ c.requires.has c.requires.counts (omega arith) c.loop-i.invariant.sound
    (bits (no_row_tail (6 * c.loop-i.i) c.args.parts.now.table.now c.in_default.ensures.none)))

pub returns-in-Err-clause-err : goal.returns-in-Err-clause-err
returns-in-Err-clause-err c =
    inr (row (parts_of c.args.object.now c.args.parts.now) c.loop-i.i _ c.requires.has c.requires.counts (omega arith) c.loop-i.invariant.sound
    (slot c.in-Err.why (row_tail (6 * c.loop-i.i) c.args.parts.now.table.now c.in-Some.ensures.some.1) c.in-Err.ensures.err))

pub loop-i-preserved : goal.loop-i-preserved
loop-i-preserved c =
    let sp : FitsSigned w16 c.in-Some.row.sp_offset = search rules in
    let bp : FitsSigned w16 c.in-Some.row.bp_offset = search rules in
    let placed : PlacedRow = record { place = c.in-Ok.place; row = c.in-Some.row } in
    subst (AreRead c.args.object.now (parts_of c.args.object.now c.args.parts.now) (c.loop-i.i + 1)) (sym c.in_ok-push-in-Ok.ensures.items)
    (next_read c.args.object.now (parts_of c.args.object.now c.args.parts.now) c.loop-i.i c.loop-i.rows.items placed
    (six_tail (6 * c.loop-i.i) c.args.parts.now.table.now _ c.in-Some.ensures.bytes)
    c.loop-i.invariant c.requires.counts (omega arith)
    (row_tail (6 * c.loop-i.i) c.args.parts.now.table.now c.in-Some.ensures.some.1)
    (row_tail_is (6 * c.loop-i.i) c.args.parts.now.table.now c.in-Some.row c.in-Some.ensures.some.0)
    sp bp c.in-Ok.ensures.ok c.in-Ok.ensures.near)

pub returns-then-relocs-gt0-clause-err : goal.returns-then-relocs-gt0-clause-err
returns-then-relocs-gt0-clause-err c =
    inr (without_rows (parts_of c.args.object.now c.args.parts.now) c.requires.has c.requires.counts (omega arith)
    (λ none. let empty = ap (λ xs. length xs) none in omega (arith, empty)))

pub returns-clause-ok : goal.returns-clause-ok
returns-clause-ok c =
    all_read c.args.object.now (parts_of c.args.object.now c.args.parts.now) c.loop-i.rows.items c.requires.has c.requires.counts
    (subst (λ (n : ℕ). AreRead c.args.object.now (parts_of c.args.object.now c.args.parts.now) n c.loop-i.rows.items) (omega arith) c.loop-i.invariant)
    (λ none. elim c.else-count-eq0.branch [
      | else-count-eq0-via-then-count-eq0+else-relocs-gt0 w ↦ omega arith
      | else-count-eq0-via-else-count-eq0 w ↦ absurd (omega arith)
    ])
