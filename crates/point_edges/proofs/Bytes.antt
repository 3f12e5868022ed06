-- The items of an object's texts are bytes, as those of its file are.
use Rattle.std.proofs.Common.{◌≡◌, ◌≢◌, ℕ, ◌+◌, ◌<◌, ◌≤◌, All, length, true, sym, subst, arith}
use Rattle.std.specs.List.{AllByRecursion, range_with_len}
use Rattle.std.proofs.lemmas.Bool.Decides.{nat_tests}
use Rattle.std.proofs.lemmas.List.Elements.{All-drop, All-same, All-take, recursion_from_All}
use Rattle.elf_objects.specs.Elf.{SectionEntry}
use Rattle.x86_text.specs.Code.{Body}
use Rattle.flow_defs.specs.Coded.{Coded}
use Rattle.elf_objects.specs.Contents.{is_text, section_at}
use Rattle.elf_objects.specs.Object.{IsObject}
use Rattle.elf_objects.specs.declared.TheConstants.{SHT_NOBITS, SHT_NULL}
use Rattle.elf_objects.proofs.Read.{IsSlice-entry, length-sections}
use Rattle.alternatives.proofs.Ascending.{every-in, every-range, in_contains}
use Rattle.unwinding_law.proofs.Lists.{from_filter}
use Rattle.object_law.specs.Flows.{HasBytes}
use Rattle.object_law.proofs.Bodies.{text_of}

abbrev IsLow : ℕ → Type 0
IsLow byte = byte < 256

is_progbits : (s : SectionEntry) → is_text s ≡ true → s.kind ≡ 1
is_progbits s h = grind (arith, nat_tests)

pub has_bytes : (o : Coded) → IsObject o.elf.bytes o.elf → All (λ byte. byte < 256) o.elf.bytes → HasBytes o
has_bytes o is low t listed =
    let own = text_of o t listed in
    let s : SectionEntry = section_at o.elf t.sec in
    let among = from_filter (λ i. is_text (section_at o.elf i)) (range_with_len 0 (length o.elf.sections)) t.sec own.listed in
    let inside = every-in (λ (k : ℕ). (0 ≤ k) × (k < 0 + length o.elf.sections)) (range_with_len 0 (length o.elf.sections)) t.sec (every-range 0 (length o.elf.sections)) (in_contains (range_with_len 0 (length o.elf.sections)) t.sec among.0) in
    let slice = IsSlice-entry o.elf.bytes o.elf t.sec (sym is.says) (omega (arith, inside.1, length-sections o.elf.bytes o.elf (sym is.says))) is.well_formed in
    let kind : s.kind ≡ 1 = is_progbits s own.code in
    let not_null : s.kind ≢ SHT_NULL = λ e. absurd (omega (arith, e, kind)) in
    let not_nobits : s.kind ≢ SHT_NOBITS = λ e. absurd (omega (arith, e, kind)) in
    let part : All IsLow s.body = All-same IsLow s.body _ (slice.body not_null not_nobits) (All-take IsLow _ _ (All-drop IsLow s.offset o.elf.bytes low)) in
    subst (λ (b : Body). AllByRecursion IsLow b.bytes) (sym own.body) (recursion_from_All IsLow s.body part)
