use Rattle.std.proofs.Common.{◌≡◌, ◌∙◌, ◌<◌, ◌+◌, ◌++◌, ◌∷◌, [], ℕ, List, true, false, ap, subst, sym}
use Rattle.std.specs.List.{AllPairs}
use Rattle.elf_objects.specs.Extents.{AreExtents, extent_of, has_bytes}
use Rattle.elf_objects.specs.File.{section_header}
use Rattle.elf_objects.specs.declared.extents.Extent.{Extent}
use Rattle.elf_objects.specs.declared.header.SectionHeader.{SectionHeader}
use Rattle.elf_objects.proofs.Crowding.{AreExtents-more, AreExtents-skip, rising-more}
use Rattle.elf_objects.proofs.extents.add_extent.Goals as goal

pub returns-then-not-has_bytes_in : goal.returns-then-not-has_bytes_in
returns-then-not-has_bytes_in c =
    let none : has_bytes (section_header c.args.headers.now.bytes.now c.args.i) ≡ false = ap has_bytes (sym c.get-h.ensures) ∙ sym c.if-not-has_bytes_in.ensures in
    record { ok = AreExtents-skip c.args.headers.now.bytes.now c.args.i c.args.list.now.items c.requires.extents none; rising = c.requires.rising; err = tt }

pub returns : goal.returns
returns c =
    let b = c.args.headers.now.bytes.now in
    let i = c.args.i in
    let xs : List Extent = c.args.list.now.items in
    let h : SectionHeader = c.get-h.result in
    let made : ℕ → Extent = λ e. record { offset = h.offset; end = e; sec = i } in
    let some : has_bytes (section_header b i) ≡ true = ap has_bytes (sym c.get-h.ensures) ∙ sym c.if-not-has_bytes_in.ensures in
    let end : c.from.result + c.from-2.result ≡ h.offset + h.size = ap (λ (o : ℕ). o + c.from-2.result) c.from.ensures ∙ ap (λ (n : ℕ). h.offset + n) c.from-2.ensures in
    let pushed : c.push.new.self.items ≡ xs ++ extent_of (section_header b i) i ∷ [] =
    c.in_ok-push.ensures.items
    ∙ ap (λ (e : ℕ). xs ++ made e ∷ []) end
    ∙ ap (λ (g : SectionHeader). xs ++ extent_of g i ∷ []) c.get-h.ensures in
    record {
      ok = subst (AreExtents b (i + 1)) (sym pushed) (AreExtents-more b i xs c.requires.extents some);
      rising = subst (AllPairs (λ x y. x.sec < y.sec)) (sym pushed) (rising-more b i xs c.requires.extents c.requires.rising);
      err = tt;
    }
