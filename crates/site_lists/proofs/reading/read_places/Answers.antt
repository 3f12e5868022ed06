use Rattle.std.proofs.Common.{ℕ, ◌+◌, inr, sym, ap, subst, length, arith}
use Rattle.site_lists.specs.Faults.{bad_slot, without_slots}
use Rattle.site_lists.specs.Parts.{parts_of}
use Rattle.site_lists.specs.Sections.{list_name}
use Rattle.site_lists.proofs.Decoding.{AreRead, all_read, next_read}
use Rattle.site_lists.proofs.reading.read_places.Goals as goal
use Rattle.site_lists.proofs.reading.read_places.Goals.{else-count-eq0-via-then-count-eq0+else-relocs-gt0, else-count-eq0-via-else-count-eq0}

pub returns-in-Err-clause-err : goal.returns-in-Err-clause-err
returns-in-Err-clause-err c =
    inr (bad_slot (parts_of c.args.object.now c.args.slots.now) c.loop-slot.slot c.in-Err.why c.requires.has c.requires.whole (omega arith) c.loop-slot.invariant.sound c.in-Err.ensures.err)

pub loop-slot-preserved : goal.loop-slot-preserved
loop-slot-preserved c =
    subst (AreRead c.args.object.now (parts_of c.args.object.now c.args.slots.now) (c.loop-slot.slot + 1)) (sym c.in_ok-push-in-Ok.ensures.items)
    (next_read c.args.object.now (parts_of c.args.object.now c.args.slots.now) c.loop-slot.slot c.loop-slot.places.items c.in-Ok.place
    c.loop-slot.invariant c.requires.whole (omega arith) c.in-Ok.ensures.ok c.in-Ok.ensures.near)

pub returns-then-relocs-gt0-clause-err : goal.returns-then-relocs-gt0-clause-err
returns-then-relocs-gt0-clause-err c =
    inr (without_slots (parts_of c.args.object.now c.args.slots.now) c.requires.has (omega arith) c.requires.whole
    (λ none. let empty = ap (λ xs. length xs) none in omega (arith, empty)))

pub returns-clause-ok : goal.returns-clause-ok
returns-clause-ok c =
    all_read c.args.object.now (list_name c.args.which) (parts_of c.args.object.now c.args.slots.now) c.loop-slot.places.items c.requires.has c.requires.whole
    (subst (λ (n : ℕ). AreRead c.args.object.now (parts_of c.args.object.now c.args.slots.now) n c.loop-slot.places.items) (omega arith) c.loop-slot.invariant)
    (λ none. elim c.else-count-eq0.branch [
      | else-count-eq0-via-then-count-eq0+else-relocs-gt0 w ↦ omega arith
      | else-count-eq0-via-else-count-eq0 w ↦ absurd (omega arith)
    ])
