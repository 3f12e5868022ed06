use Rattle.std.proofs.Common.{◌≡◌, ℕ, List, true, false, drop, take, inr, sym, ◌∙◌, ap}
use Rattle.std.proofs.lemmas.Result.{IfOk-weaker}
use Rattle.elf_objects.specs.declared.symbol.Reloc.{Reloc}
use Rattle.elf_objects.specs.Contents.{relocs_at, section_at}
use Rattle.elf_objects.specs.Elf.{Elf, SectionEntry}
use Rattle.eh_frame.specs.declared.fault.EhFault.TheVariants.{BadRecord, BadReloc}
use Rattle.eh_frame.specs.Cursor.{begins_below}
use Rattle.eh_frame.specs.Faults as faults
use Rattle.eh_frame.specs.Faults.{HasFrames}
use Rattle.eh_frame.proofs.Decoded.{has_behind, has_frames, in_cie, no_fault, none_in_cie, only_memory, reads_hold}
use Rattle.eh_frame.proofs.Excluded.{rules_same}
use Rattle.eh_frame.proofs.reading.decode.Goals as goal

pub returns-in_default-clause-err : goal.returns-in_default-clause-err
returns-in_default-clause-err c = inr (faults.no_section (sym c.in_default.ensures.value))

pub returns-then-not-begins_with_cie-clause-err : goal.returns-then-not-begins_with_cie-clause-err
returns-then-not-begins_with_cie-clause-err c =
    let has = has_frames c.args.object.now c.in-Some.section c.section.result.body.now c.in-Some.ensures.value c.in-Some.ensures.known c.in-Some.ensures.related (ap (λ (s : SectionEntry). s.body) c.section.ensures.value) in
    inr (faults.cie_bytes c.section.result.body.now (relocs_at c.args.object.now c.in-Some.section) has (c.begins_with_cie.ensures.none c.if-not-begins_with_cie.true))

pub returns-then-not-begins_with_cie-clause-only : goal.returns-then-not-begins_with_cie-clause-only
returns-then-not-begins_with_cie-clause-only c = λ rules holds.
    let has = has_frames c.args.object.now c.in-Some.section c.section.result.body.now c.in-Some.ensures.value c.in-Some.ensures.known c.in-Some.ensures.related (ap (λ (s : SectionEntry). s.body) c.section.ensures.value) in
    absurd (no_fault c.args.object.now rules (BadRecord 0) (faults.cie_bytes c.section.result.body.now (relocs_at c.args.object.now c.in-Some.section) has (c.begins_with_cie.ensures.none c.if-not-begins_with_cie.true)) holds)

pub returns-then-begins_below-clause-err : goal.returns-then-begins_below-clause-err
returns-then-begins_below-clause-err c =
    let has = has_frames c.args.object.now c.in-Some.section c.section.result.body.now c.in-Some.ensures.value c.in-Some.ensures.known c.in-Some.ensures.related (ap (λ (s : SectionEntry). s.body) c.section.ensures.value) in
    let below : begins_below c.in_ok-relocs.relocs.items 24 ≡ true = ap (λ (rs : List Reloc). begins_below rs 24) (sym c.deref.ensures.value) ∙ sym c.begins_below.ensures ∙ c.if-begins_below.true in
    inr (in_cie c.args.object.now c.section.result.body.now (relocs_at c.args.object.now c.in-Some.section) c.in_ok-relocs.relocs.items (c.begins_with_cie.ensures.some c.if-not-begins_with_cie.false) has c.in_ok-relocs.ensures.permutation below)

pub returns-then-begins_below-clause-only : goal.returns-then-begins_below-clause-only
returns-then-begins_below-clause-only c = λ rules holds.
    let has = has_frames c.args.object.now c.in-Some.section c.section.result.body.now c.in-Some.ensures.value c.in-Some.ensures.known c.in-Some.ensures.related (ap (λ (s : SectionEntry). s.body) c.section.ensures.value) in
    let below : begins_below c.in_ok-relocs.relocs.items 24 ≡ true = ap (λ (rs : List Reloc). begins_below rs 24) (sym c.deref.ensures.value) ∙ sym c.begins_below.ensures ∙ c.if-begins_below.true in
    absurd (no_fault c.args.object.now rules (BadReloc 0) (in_cie c.args.object.now c.section.result.body.now (relocs_at c.args.object.now c.in-Some.section) c.in_ok-relocs.relocs.items (c.begins_with_cie.ensures.some c.if-not-begins_with_cie.false) has c.in_ok-relocs.ensures.permutation below) holds)

pub read_records-requires-clause-has : goal.read_records-requires-clause-has
read_records-requires-clause-has c =
    has_frames c.args.object.now c.in-Some.section c.section.result.body.now c.in-Some.ensures.value c.in-Some.ensures.known c.in-Some.ensures.related (ap (λ (s : SectionEntry). s.body) c.section.ensures.value)

pub read_records-requires-clause-none : goal.read_records-requires-clause-none
read_records-requires-clause-none c =
    let above : begins_below c.in_ok-relocs.relocs.items 24 ≡ false = ap (λ (rs : List Reloc). begins_below rs 24) (sym c.deref.ensures.value) ∙ sym c.begins_below.ensures ∙ c.if-begins_below.false in
    none_in_cie (relocs_at c.args.object.now c.in-Some.section) c.in_ok-relocs.relocs.items c.in_ok-relocs.ensures.permutation c.in_ok-relocs.ensures.ascending above

pub returns-clause-ok : goal.returns-clause-ok
returns-clause-ok c =
    let has = has_frames c.args.object.now c.in-Some.section c.section.result.body.now c.in-Some.ensures.value c.in-Some.ensures.known c.in-Some.ensures.related (ap (λ (s : SectionEntry). s.body) c.section.ensures.value) in
    let above : begins_below c.in_ok-relocs.relocs.items 24 ≡ false = ap (λ (rs : List Reloc). begins_below rs 24) (sym c.deref.ensures.value) ∙ sym c.begins_below.ensures ∙ c.if-begins_below.false in
    let none = none_in_cie (relocs_at c.args.object.now c.in-Some.section) c.in_ok-relocs.relocs.items c.in_ok-relocs.ensures.permutation c.in_ok-relocs.ensures.ascending above in
    IfOk-weaker c.read_records.result _ _ (λ rules read. reads_hold c.args.object.now c.section.result.body.now (relocs_at c.args.object.now c.in-Some.section) rules.items (c.begins_with_cie.ensures.some c.if-not-begins_with_cie.false) has none read) c.read_records.ensures.ok

pub returns-clause-only : goal.returns-clause-only
returns-clause-only c = λ rules holds. only_memory c.args.object.now rules c.read_records.result c.read_records.ensures.err holds

pub returns-clause-same : goal.returns-clause-same
returns-clause-same c = λ rules holds.
    let has = has_frames c.args.object.now c.in-Some.section c.section.result.body.now c.in-Some.ensures.value c.in-Some.ensures.known c.in-Some.ensures.related (ap (λ (s : SectionEntry). s.body) c.section.ensures.value) in
    let behind = has_behind c.args.object.now c.section.result.body.now (relocs_at c.args.object.now c.in-Some.section) (c.begins_with_cie.ensures.some c.if-not-begins_with_cie.false) has in
    IfOk-weaker c.read_records.result _ _ (λ told read. rules_same c.args.object.now (relocs_at c.args.object.now c.in-Some.section) (drop 24 c.section.result.body.now) rules told.items behind read holds) c.read_records.ensures.ok
