use Rattle.std.proofs.Common.{◌≡◌, ◌∙◌, ◌++◌, ◌-◌, ◌<◌, ℕ, List, [], length, take, drop, sym, ap, subst, arith}
use Rattle.ot_base.specs.declared.row.PlacedRow.{PlacedRow}
use Rattle.elf_objects.specs.Contents.{section_at, section_symbol_of}
use Rattle.elf_objects.specs.Elf.{Elf}
use Rattle.orc_bytes.specs.RelocBytes.{bytes_of_reloc}
use Rattle.eh_frame.specs.Records.{cie, entry_bytes}
use Rattle.eh_frame.specs.RowFrames.{address_slot, spelled_rows}
use Rattle.eh_frame.proofs.EncodeReady.{entry_fits, has_symbol, offsets_ascend, size_fits}
use Rattle.eh_frame.proofs.EncodeSteps.{EncodedTo, IsRun, all_relocated, all_written, none_encoded, none_more, one_more}
use Rattle.eh_frame.proofs.writing.encode.Goals as goal
use Rattle.eh_frame.proofs.writing.encode.Goals.{then-from-to+in_ok-extend_from_slice+in_ok-spelled+in_ok-push_entry, else-from-to}

start : (object : Elf) (rows : List PlacedRow) (body rela : List ℕ) → body ≡ cie → rela ≡ [] → EncodedTo object rows 0 0 body rela
start object rows body rela e f =
    subst (λ (bs : List ℕ). EncodedTo object rows 0 0 bs rela) (sym e) (subst (λ (bs : List ℕ). EncodedTo object rows 0 0 cie bs) (sym f) (none_encoded object rows))

pub loop-sec-init : goal.loop-sec-init
loop-sec-init c = start c.args.object.now c.args.rows.now c.in_ok-body.body.items c.new-rela.result.items c.in_ok-body.ensures.items c.new-rela.ensures.items

pub slot_of-requires-clause-symbol : goal.slot_of-requires-clause-symbol
slot_of-requires-clause-symbol c =
    let to = c.end_of_section-to.ensures in
    has_symbol c.args.object.now c.args.rows.now c.requires c.loop-sec.from c.end_of_section-to.result c.loop-sec.sec (record { low = to.low; high = to.high; own = to.own; next = to.next }) c.if-from-to.true

pub overflow_cast-size : goal.overflow_cast-size
overflow_cast-size c =
    let to = c.end_of_section-to.ensures in
    let fits = size_fits c.args.object.now c.args.rows.now c.requires c.loop-sec.from c.end_of_section-to.result c.loop-sec.sec (record { low = to.low; high = to.high; own = to.own; next = to.next }) c.if-from-to.true in
    record { fits = let same = c.section_size-size.ensures in omega arith }

pub spell_rows-requires-clause-ascend : goal.spell_rows-requires-clause-ascend
spell_rows-requires-clause-ascend c =
    let to = c.end_of_section-to.ensures in
    offsets_ascend c.args.object.now c.args.rows.now c.requires c.loop-sec.from c.end_of_section-to.result c.loop-sec.sec (record { low = to.low; high = to.high; own = to.own; next = to.next }) c.if-from-to.true

pub push_entry-requires : goal.push_entry-requires
push_entry-requires c =
    let to = c.end_of_section-to.ensures in
    let rows : List PlacedRow = c.args.rows.now in
    let few = c.sections-sec-end.ensures.few in
    let inside = c.loop-sec-test.true in
    entry_fits c.args.object.now c.args.rows.now c.requires c.loop-sec.from c.end_of_section-to.result c.loop-sec.sec (record { low = to.low; high = to.high; own = to.own; next = to.next }) c.if-from-to.true
    c.loop-sec.body.items c.loop-sec.rela.items c.deref.result.now (omega arith) c.loop-sec.invariant
    (c.deref.ensures.value ∙ c.in_ok-spelled.ensures ∙ ap (λ (n : ℕ). spelled_rows n (take (c.end_of_section-to.result - c.loop-sec.from) (drop c.loop-sec.from c.args.rows.now))) c.section_size-size.ensures)

pub loop-sec-preserved : goal.loop-sec-preserved
loop-sec-preserved c =
    let object : Elf = c.args.object.now in
    let rows : List PlacedRow = c.args.rows.now in
    let sec : ℕ = c.loop-sec.sec in
    let to = c.end_of_section-to.ensures in
    let run : IsRun c.args.rows.now c.loop-sec.from c.end_of_section-to.result c.loop-sec.sec = record { low = to.low; high = to.high; own = to.own; next = to.next } in
    elim c.if-from-to.branch [
      | then-from-to+in_ok-extend_from_slice+in_ok-spelled+in_ok-push_entry w ↦
          let len : w.len.result ≡ length c.loop-sec.body.items = w.len.ensures ∙ c.loop-sec.body.ok.0 in
          rw (w.body-is, w.rela-is)
          (one_more object rows sec c.loop-sec.from c.end_of_section-to.result c.loop-sec.body.items c.loop-sec.rela.items c.requires.ascend c.loop-sec.invariant run _ _ w.deref.result.now w.if-from-to.true
          (w.deref.ensures.value ∙ w.in_ok-spelled.ensures ∙ ap (λ (n : ℕ). spelled_rows n (take (c.end_of_section-to.result - c.loop-sec.from) (drop c.loop-sec.from c.args.rows.now))) w.section_size-size.ensures)
          (w.in_ok-push_entry.ensures ∙ ap (λ (n : ℕ). c.loop-sec.body.items ++ entry_bytes (length c.loop-sec.body.items) n w.deref.result.now) w.section_size-size.ensures)
          (w.in_ok-extend_from_slice.ensures.items
          ∙ ap (λ (bs : List ℕ). c.loop-sec.rela.items ++ bs) (w.reloc_bytes.ensures ∙ ap bytes_of_reloc (w.slot_of.ensures ∙ ap (λ (n : ℕ). address_slot (section_symbol_of object) n sec) len))))
      | else-from-to w ↦
          rw (w.body-is, w.rela-is)
          (none_more object rows sec c.loop-sec.from c.end_of_section-to.result c.loop-sec.body.items c.loop-sec.rela.items c.requires.ascend c.loop-sec.invariant run w.if-from-to.false)
    ]

pub returns-clause-body : goal.returns-clause-body
returns-clause-body c =
    let count = c.sections-sec-end.ensures.value in
    all_written c.args.object.now c.args.rows.now c.loop-sec.sec c.loop-sec.from c.loop-sec.body.items c.loop-sec.rela.items _ (omega arith) c.loop-sec.invariant c.in_ok-extend_from_slice-2.ensures.items

pub returns-clause-rela : goal.returns-clause-rela
returns-clause-rela c =
    let count = c.sections-sec-end.ensures.value in
    all_relocated c.args.object.now c.args.rows.now c.loop-sec.sec c.loop-sec.from c.loop-sec.body.items c.loop-sec.rela.items (omega arith) c.loop-sec.invariant
