use Rattle.std.proofs.Common.{◌≡◌, ℕ, ◌+◌, ◌<◌, ◌≤◌, Some, None, inr, sym, ◌∙◌, ap, arith}
use Rattle.elf_objects.specs.Contents.{relocs_at, section_at}
use Rattle.eh_frame.specs.Faults as faults
use Rattle.eh_frame.proofs.EntryFound.{names_section, no_address, no_reloc, others, out_of_order, some}
use Rattle.eh_frame.proofs.reading.find_entry.Goals as goal
use Rattle.eh_frame.proofs.reading.find_entry.Goals.{then-section_size-from-via-then-section_size-from, then-section_size-from-via-else-section_size-from+then-from-least}

pub returns-in_default-clause-err : goal.returns-in_default-clause-err
returns-in_default-clause-err c = inr (c.requires.first _ (faults.record_bytes c.requires.further c.in_default.ensures.none))

pub returns-in_default-only_below-clause-err : goal.returns-in_default-only_below-clause-err
returns-in_default-only_below-clause-err c =
    inr (c.requires.first _ (no_reloc c.args.object.now (relocs_at c.args.object.now c.args.section) c.args.at c.args.least c.args.bytes.now c.args.relocs.now c.in-Some.entry.size c.in-Some.entry.spelled.now c.in-Some.ensures.some c.requires.ascending c.requires.from
    (sym c.in_default-only_below.ensures)))

pub returns-in_default-addressed_text-clause-err : goal.returns-in_default-addressed_text-clause-err
returns-in_default-addressed_text-clause-err c =
    inr (c.requires.first _ (no_address c.args.object.now (relocs_at c.args.object.now c.args.section) c.args.at c.args.least c.args.bytes.now c.args.relocs.now c.in-Some.entry.size c.in-Some.entry.spelled.now c.in-Some.ensures.some c.requires.ascending c.requires.from
    c.in-Some-only_below.reloc (sym c.in-Some-only_below.ensures) c.in_default-addressed_text.ensures.none))

pub returns-then-section_size-from-clause-err : goal.returns-then-section_size-from-clause-err
returns-then-section_size-from-clause-err c =
    inr (c.requires.first _ (out_of_order c.args.object.now (relocs_at c.args.object.now c.args.section) c.args.at c.args.least c.args.bytes.now c.args.relocs.now c.in-Some.entry.size c.in-Some.entry.spelled.now c.in-Some.ensures.some c.requires.ascending c.requires.from
    c.in-Some-only_below.reloc (sym c.in-Some-only_below.ensures) c.in-Some-addressed_text.sec c.in-Some-addressed_text.ensures.some
    (λ order. elim c.then-section_size-from.branch [
      | then-section_size-from-via-then-section_size-from w ↦ w.if-section_size-from.true (c.section_size.ensures ∙ sym order.whole ∙ sym c.from.ensures)
      | then-section_size-from-via-else-section_size-from+then-from-least w ↦ (let early = w.if-from-least.true in let same = w.from-else-section_size-from.ensures in let later = order.later in absurd (omega arith))
    ])))

pub returns-clause-ok : goal.returns-clause-ok
returns-clause-ok c = record {
  entry = c.in-Some.ensures.some;
  names = names_section c.args.object.now (relocs_at c.args.object.now c.args.section) c.args.at c.args.least c.args.bytes.now c.args.relocs.now c.in-Some.entry.size c.in-Some.entry.spelled.now c.in-Some.ensures.some c.requires.ascending c.requires.from
      c.in-Some-only_below.reloc (sym c.in-Some-only_below.ensures) c.in-Some-addressed_text.sec c.in-Some-addressed_text.ensures.some;
  order = record {
    whole = sym c.from.ensures ∙ sym c.if-section_size-from.false ∙ c.section_size.ensures;
    later = let same = c.from-else-section_size-from.ensures in let late = c.if-from-least.false in omega arith;
  };
  one = some c.args.object.now (relocs_at c.args.object.now c.args.section) c.args.at c.args.least c.args.bytes.now c.args.relocs.now c.in-Some.entry.size c.in-Some.entry.spelled.now c.in-Some.ensures.some c.requires.ascending c.requires.from
      c.in-Some-only_below.reloc (sym c.in-Some-only_below.ensures);
  others = others c.args.object.now (relocs_at c.args.object.now c.args.section) c.args.at c.args.least c.args.bytes.now c.args.relocs.now c.in-Some.entry.size c.in-Some.entry.spelled.now c.in-Some.ensures.some c.requires.ascending c.requires.from
      c.in-Some-only_below.reloc (sym c.in-Some-only_below.ensures);
  inside = c.in-Some.ensures.short;
  known = c.in-Some-addressed_text.ensures.known;
}
