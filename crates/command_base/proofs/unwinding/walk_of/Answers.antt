use Rattle.std.proofs.Common.{◌≡◌, ℕ, None, List, ◌++◌, length, ap, ◌∙◌, sym, subst, arith}
use Rattle.command_base.specs.Dump.{HoldsNoRows}
use Rattle.command_base.specs.Unwind.{HasNoWalk, IsForeign, first_foreign, no_memory, no_rows, ranges_of}
use Rattle.command_base.proofs.DumpLemmas.{no_object, no_rows_held}
use Rattle.command_base.proofs.UnwindLemmas.{foreign_walk, image_refused, placed_is, rows_within, unplaced_walk, walk_is}
use Rattle.command_base.proofs.unwinding.walk_of.Goals as goal

pub returns-in-Err-clause-none : goal.returns-in-Err-clause-none
returns-in-Err-clause-none c =
    subst (HasNoWalk c.args.bytes.now c.args.text.now) (sym c.image_stop.ensures) (image_refused c.args.bytes.now c.args.text.now c.in-Err.fault c.in-Err.ensures.fault)

pub returns-in-Err-parse-clause-none : goal.returns-in-Err-parse-clause-none
returns-in-Err-parse-clause-none c =
    no_rows c.in-Ok.image c.in-Ok.ensures.image (subst (HoldsNoRows c.args.bytes.now) (sym c.parse_stop.ensures) (no_object c.args.bytes.now c.in-Err-parse.fault c.in-Err-parse.ensures.err))

pub returns-in-Err-decode-clause-none : goal.returns-in-Err-decode-clause-none
returns-in-Err-decode-clause-none c =
    no_rows c.in-Ok.image c.in-Ok.ensures.image (subst (HoldsNoRows c.args.bytes.now) (sym c.orc_stop.ensures) (no_rows_held c.args.bytes.now c.in-Ok-parse.object c.in-Err-decode.fault c.in-Ok-parse.ensures.ok c.in-Err-decode.ensures.err))

pub returns-in-Err-ranges_of-clause-none : goal.returns-in-Err-ranges_of-clause-none
returns-in-Err-ranges_of-clause-none c =
    foreign_walk c.args.bytes.now c.args.text.now c.in-Ok.image c.in-Ok-parse.object c.in-Ok-decode.rows.items c.in-Err-ranges_of.stop c.in-Ok.ensures.image (record { object = c.in-Ok-parse.ensures.ok; held = c.in-Ok-decode.ensures.ok })
    (subst (λ (places : List (ℕ × ℕ)). IsForeign c.in-Ok-parse.object places c.in-Err-ranges_of.stop) c.places.ensures c.in-Err-ranges_of.ensures.foreign)

pub place-requires-clause-number : goal.place-requires-clause-number
place-requires-clause-number c = omega (arith, ap length c.deref.ensures.value, c.in-Ok-decode.ensures.few)

pub place-requires-clause-within : goal.place-requires-clause-within
place-requires-clause-within c =
    rows_within c.in-Ok-parse.object c.places.result.now c.in-Ok-decode.rows.items c.deref-2.result.now c.deref.result.now (c.deref-2.ensures.value ∙ c.in-Ok-ranges_of.ensures.ranges) c.deref.ensures.value c.in-Ok-decode.ensures.ok

pub returns-in-Err-place-clause-none : goal.returns-in-Err-place-clause-none
returns-in-Err-place-clause-none c =
    subst (HasNoWalk c.args.bytes.now c.args.text.now) (sym c.place_stop.ensures)
    (unplaced_walk c.args.bytes.now c.args.text.now c.in-Ok.image c.in-Ok-parse.object c.in-Ok-decode.rows.items c.deref.result.now c.deref-2.result.now c.in-Err-place.fault c.in-Ok.ensures.image (record { object = c.in-Ok-parse.ensures.ok; held = c.in-Ok-decode.ensures.ok })
    (subst (λ (places : List (ℕ × ℕ)). first_foreign c.in-Ok-parse.object places ≡ None) c.places.ensures c.in-Ok-ranges_of.ensures.texts) c.deref.ensures.value
    (c.deref-2.ensures.value ∙ c.in-Ok-ranges_of.ensures.ranges ∙ ap (ranges_of c.in-Ok-parse.object) c.places.ensures) c.in-Err-place.ensures.fault)

pub returns-in-NoMemory-clause-none : goal.returns-in-NoMemory-clause-none
returns-in-NoMemory-clause-none c = no_memory

pub returns-clause-walks : goal.returns-clause-walks
returns-clause-walks c =
    let w = c.walk.ensures.walked c.deref.result.now c.deref-2.result.now c.in-Ok-place.ensures.table in
    let are = c.deref-2.ensures.value ∙ c.in-Ok-ranges_of.ensures.ranges ∙ ap (ranges_of c.in-Ok-parse.object) c.places.ensures in
    record {
      image = c.in-Ok.image;
      object = c.in-Ok-parse.object;
      rows = c.in-Ok-decode.rows.items;
      placed = placed_is c.args.bytes.now c.args.text.now c.in-Ok.image c.in-Ok-parse.object c.in-Ok-decode.rows.items c.deref.result.now c.deref-2.result.now c.in-Ok.ensures.image (record { object = c.in-Ok-parse.ensures.ok; held = c.in-Ok-decode.ensures.ok })
          (subst (λ (places : List (ℕ × ℕ)). first_foreign c.in-Ok-parse.object places ≡ None) c.places.ensures c.in-Ok-ranges_of.ensures.texts) c.deref.ensures.value are c.in-Ok-place.ensures.fits;
      walks = walk_is c.in-Ok.image c.in-Ok-parse.object c.in-Ok-decode.rows.items c.deref.result.now c.deref-2.result.now c.into_memory-memory.result c.regs-regs.result w.0 c.walk.new.into.items c.walk.result c.deref.ensures.value are c.into_memory-memory.ensures c.regs-regs.ensures
          (w.1.0 ∙ ap (λ front. front ++ w.0) c.new-frames.ensures.items) c.in_default.not-NoMemory w.1.1;
    }
