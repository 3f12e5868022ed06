-- What is known of every object.
use Rattle.std.proofs.Common.{◌≡◌, ℕ, ◌+◌, ◌*◌, ◌<◌, ◌≤◌, Bool, true, false, cond, List, [], length, get_or, Option, Some, None, refl, sym, ap, subst, ◌∙◌, arith, length-take, length-drop}
use Rattle.std.specs.Prelude.{slice_range}
use Rattle.elf_objects.specs.Contents.{elf_of, no_section, section_at, section_entry}
use Rattle.elf_objects.specs.Elf.{Elf, SectionEntry}
use Rattle.elf_objects.specs.File.{name_table, section_count, section_header}
use Rattle.elf_objects.specs.Header.{has_body}
use Rattle.elf_objects.specs.declared.TheConstants.{SHT_NULL, SHT_STRTAB, SHT_SYMTAB, SHT_RELA}
use Rattle.elf_objects.specs.Object.{IsObject, IsWellFormed}
use Rattle.elf_objects.specs.Sections.{link_of}
use Rattle.elf_objects.specs.Table.{body_of, is_kind, symbol_table}
use Rattle.elf_objects.specs.declared.header.SectionHeader.{SectionHeader}
use Rattle.elf_objects.proofs.LeastBelow.{least_below-some}
use Rattle.elf_objects.proofs.Read.{length-symbols}
use Rattle.elf_write.proofs.Cases.{first_kind, named, table_kind}
use Rattle.elf_write.proofs.Links.{length-sections, section-at}

pub record Known (o : Elf) : Type 0 where
  pub file : 64 ≤ length o.bytes
  pub headers : o.headers_at + 64 * length o.sections ≤ length o.bytes
  pub named : 1 ≤ o.name_table
  pub in_table : o.name_table < length o.sections
  pub names : length (section_at o o.name_table).body ≤ length o.bytes
  pub first_kind : (section_at o 0).kind ≡ SHT_NULL
  pub table_kind : (section_at o o.name_table).kind ≡ SHT_STRTAB
  pub infos : (k : ℕ) (d : SectionEntry) → k < length o.sections → (get_or o.sections k d).kind ≡ SHT_RELA → (get_or o.sections k d).info < length o.sections
  pub link : link_of o.symbol_table < length o.sections
  pub few_symbols : length o.symbols ≤ 4194304

-- a body is no longer than the file
body_of-within : (b : List ℕ) (h : SectionHeader) → length (body_of b h) ≤ length b
unfolding body_of
body_of-within b h = go (has_body h)
  where
    go : (x : Bool) → length (cond x (slice_range b h.offset (h.offset + h.size)) []) ≤ length b
    go true = omega (arith, length-take {A = ℕ}, length-drop {A = ℕ})
    go false = omega arith

entry-kind : (b : List ℕ) (k : ℕ) → (section_entry b k).kind ≡ (section_header b k).kind
unfolding section_entry
entry-kind b k = refl

entry-info : (b : List ℕ) (k : ℕ) → (section_entry b k).info ≡ (section_header b k).info
unfolding section_entry
entry-info b k = refl

entry-body : (b : List ℕ) (k : ℕ) → (section_entry b k).body ≡ body_of b (section_header b k)
unfolding section_entry
entry-body b k = refl

table-below : (b : List ℕ) (t : Option ℕ) → 0 < section_count b → symbol_table b ≡ t → link_of t < section_count b
table-below b None some e = some
table-below b (Some i) some e = (least_below-some (is_kind b SHT_SYMTAB) (section_count b) i e).below

info-below : (b : List ℕ) → IsWellFormed b → (k : ℕ) (d : SectionEntry) → k < section_count b → (get_or (elf_of b).sections k d).kind ≡ SHT_RELA
    → (get_or (elf_of b).sections k d).info < section_count b
info-below b w k d h kind =
    let at = section-at b k d h in
    let rela : (section_header b k).kind ≡ SHT_RELA = sym (entry-kind b k) ∙ sym (ap (λ (s : SectionEntry). s.kind) at) ∙ kind in
    let is : (get_or (elf_of b).sections k d).info ≡ (section_header b k).info = ap (λ (s : SectionEntry). s.info) at ∙ entry-info b k in
    let below = ((w.links k h).relocs rela).exists in
    omega arith

pub known : (b : List ℕ) (o : Elf) → IsObject b o → Known o
known b o ok =
    let w = ok.well_formed in
    let l = length-sections b in
    let n = w.table.counts.names in
    let some : 0 < section_count b = omega arith in
    let names : (section_at (elf_of b) (name_table b)).body ≡ body_of b (section_header b (name_table b)) =
    ap (λ (s : SectionEntry). s.body) (section-at b (name_table b) no_section n) ∙ entry-body b (name_table b) in
    let within = body_of-within b (section_header b (name_table b)) in
    let size : length (section_at (elf_of b) (name_table b)).body ≡ length (body_of b (section_header b (name_table b))) = ap length names in
    subst Known (sym ok.says) (record {
      file = w.table.file_header;
      headers = (let h = w.table.headers in omega arith);
      named = named b w;
      in_table = omega arith;
      names = omega arith;
      first_kind = ap (λ (s : SectionEntry). s.kind) (section-at b 0 no_section some) ∙ entry-kind b 0 ∙ first_kind b w;
      table_kind = ap (λ (s : SectionEntry). s.kind) (section-at b (name_table b) no_section n) ∙ entry-kind b (name_table b) ∙ table_kind b w;
      infos = λ k d h kind. (let below = info-below b w k d (omega arith) kind in omega arith);
      link = (let below = table-below b (symbol_table b) some refl in omega arith);
      few_symbols = (let count = length-symbols b (elf_of b) refl in let few = w.few_symbols in omega arith);
    })
