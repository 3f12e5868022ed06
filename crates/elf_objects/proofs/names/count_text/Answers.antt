use Rattle.std.proofs.Common.{◌≡◌, ◌≤◌, ◌<◌, ◌^◌, ℕ, Bool, true, false, refl, ap, ◌∙◌, arith}
use Rattle.std.proofs.lemmas.List.FromFn.{sum_by-map-range_with_len_more}
use Rattle.std.proofs.lemmas.Bool.Decides.{nat_tests}
use Rattle.elf_objects.specs.declared.header.SectionHeader.{SectionHeader}
use Rattle.elf_objects.specs.File.{section_header}
use Rattle.elf_objects.specs.Header.{has_body, is_text_header}
use Rattle.elf_objects.specs.Sections.{IsPlaced, text_size}
use Rattle.elf_objects.proofs.names.count_text.Goals as goal

-- a text section has a body
text-has_body : (h : SectionHeader) → is_text_header h ≡ true → has_body h ≡ true
text-has_body h e = grind (arith, nat_tests)

-- the text of a section lies in the file
text_size-small : (n : ℕ) (h : SectionHeader) (x : Bool) → is_text_header h ≡ x → IsPlaced n h → n < 2 ^ 32 → text_size h ≤ 4294967296
text_size-small n h true e placed short = let inside = placed.inside (text-has_body h e) in rw e (omega arith)
text_size-small n h false e placed short = rw e (omega arith)

pub loop-i-preserved : goal.loop-i-preserved
loop-i-preserved c =
    let b = c.args.headers.now.bytes.now in
    let i = c.loop-i.i in
    let more = sum_by-map-range_with_len_more text_size (section_header b) 0 i i (omega arith) in
    let this : c.size_of_text-total.result ≡ text_size (section_header b i) = c.size_of_text-total.ensures ∙ ap text_size c.get.ensures in
    let small = text_size-small _ (section_header b i) _ refl (c.requires i (omega (arith, c.args.headers.now.count_is))).placed c.args.headers.now.short in
    record {
      sum = rw (more, ← c.loop-i.invariant.sum, ← this) refl;
      small = omega (arith, this, small);
    }
