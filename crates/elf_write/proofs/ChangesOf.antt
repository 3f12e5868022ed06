-- The changes for one section, by its type.
use Rattle.std.proofs.Common.{◌≡◌, ◌≢◌, ℕ, ◌+◌, ◌*◌, [], map, false, eqb, refl, ap}
use Rattle.std.proofs.lemmas.Bool.{ne_eqb}
use Rattle.elf_objects.specs.Contents.{section_at}
use Rattle.elf_objects.specs.Elf.{Elf, SectionEntry}
use Rattle.elf_objects.specs.declared.TheConstants.{SHT_SYMTAB, SHT_RELA, SHT_GROUP, SHT_SYMTAB_SHNDX}
use Rattle.elf_write.specs.declared.plan.Plan.{Plan}
use Rattle.elf_write.specs.SymbolLayout.{changes_at, changes_of, group_changes, header_changes, moved, number_changes, reloc_changes, symbol_changes}

pub of : (o : Elf) (p : Plan) (i : ℕ) (s : SectionEntry) → section_at o i ≡ s → changes_of o p i ≡ changes_at p (p.headers_at + 64 * i) s
unfolding changes_of
of o p i s e = ap (changes_at p (p.headers_at + 64 * i)) e

pub at_rela : (p : Plan) (at : ℕ) (s : SectionEntry) → s.kind ≡ SHT_RELA → changes_at p at s ≡ map (moved s.offset) (reloc_changes p s.body)
at_rela p at s e = rw e refl

pub at_header : (p : Plan) (at : ℕ) (s : SectionEntry) → s.kind ≢ SHT_RELA → changes_at p at s ≡ map (moved at) (header_changes p s)
at_header p at s n =
    let e : eqb s.kind SHT_RELA ≡ false = ne_eqb s.kind SHT_RELA n in
    rw e refl

pub header_symtab : (p : Plan) (s : SectionEntry) → s.kind ≡ SHT_SYMTAB → header_changes p s ≡ symbol_changes p s
header_symtab p s e = rw e refl

pub header_numbers : (p : Plan) (s : SectionEntry) → s.kind ≡ SHT_SYMTAB_SHNDX → header_changes p s ≡ number_changes p s
header_numbers p s e = rw e refl

pub header_group : (p : Plan) (s : SectionEntry) → s.kind ≡ SHT_GROUP → header_changes p s ≡ group_changes p s
header_group p s e = rw e refl

pub header_other : (p : Plan) (s : SectionEntry) → s.kind ≢ SHT_SYMTAB → s.kind ≢ SHT_SYMTAB_SHNDX → s.kind ≢ SHT_GROUP → header_changes p s ≡ []
header_other p s a c d =
    let e : eqb s.kind SHT_SYMTAB ≡ false = ne_eqb s.kind SHT_SYMTAB a in
    let f : eqb s.kind SHT_SYMTAB_SHNDX ≡ false = ne_eqb s.kind SHT_SYMTAB_SHNDX c in
    let g : eqb s.kind SHT_GROUP ≡ false = ne_eqb s.kind SHT_GROUP d in
    rw (e, f, g) refl
