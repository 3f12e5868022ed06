use Rattle.std.proofs.Common.{◌≡◌, ◌∙◌, Bool, true, false, not, ap, refl, sym}
use Rattle.elf_objects.specs.declared.header.SectionHeader.{SectionHeader}
use Rattle.elf_objects.proofs.bodies.has_place.Goals as goal

not-false : (x : Bool) → not x ≡ false → x ≡ true
not-false true e = refl
not-false false e = sym e

pub returns-else-h-ne-SHT_RELA-clause-no : goal.returns-else-h-ne-SHT_RELA-clause-no
returns-else-h-ne-SHT_RELA-clause-no c = λ no has.
    let shared = c.requires.shared.marked c.args.i c.requires.known (not-false _ no) in
    let kind = sym (ap (λ (h : SectionHeader). h.kind) c.get-h.ensures) ∙ c.if-h-ne-SHT_RELA.false in
    (has.alone kind).apart shared.other shared.exists shared.differs shared.shares
