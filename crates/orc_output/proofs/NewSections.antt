-- New sections that may be added to an object: sections of data, and those of the relocations of new sections.
use Rattle.std.proofs.Common.{◌≡◌, ◌≢◌, inl, inr, true, ℕ, ◌+◌, ◌-◌, ◌^◌, ◌<◌, ◌≤◌, List, map, length, refl, sym, ap, subst, ◌∙◌, arith}
use Rattle.std.specs.Prelude.{All, flat_map, slice_index, not, ◌==◌}
use Rattle.std.specs.List.{list_all}
use Rattle.std.proofs.lemmas.Bool.Decides.{nat_tests}
use Rattle.std.proofs.lemmas.List.{get_or-append_right, length-map}
use Rattle.std.proofs.lemmas.List.Elements.{All-same, All-weaker}
use Rattle.std.proofs.lemmas.List.Sums.{AllPass-from_list_all}
use Rattle.elf_objects.specs.declared.symbol.Reloc.{Reloc}
use Rattle.elf_objects.specs.Elf.{Elf, SectionEntry}
use Rattle.elf_objects.specs.declared.TheConstants.{SHF_ALLOC, SHF_INFO_LINK, SHT_PROGBITS, SHT_RELA}
use Rattle.elf_objects.specs.Sections.{link_of}
use Rattle.elf_write.specs.Added.{IsAddable, relocs_in, sizes, IsRelocOf}
use Rattle.elf_write.specs.Layout.{NewEntry}
use Rattle.orc_bytes.specs.RelocBytes.{bytes_of_reloc}
use Rattle.orc_output.proofs.Known.{Known}
use Rattle.orc_output.proofs.Slots.{IsInside, length-relocs, relocs_of}

-- a section of data that is loaded
abbrev pub data_entry : List ℕ → ℕ → ℕ → List ℕ → NewEntry
data_entry name align entsize body = record {
  name = name;
  kind = SHT_PROGBITS;
  flags = SHF_ALLOC;
  link = 0;
  info = 0;
  align = align;
  entsize = entsize;
  body = body;
}

-- the section of the relocations of the section with a number
abbrev pub relocs_entry : Elf → List ℕ → ℕ → List Reloc → NewEntry
relocs_entry o name info list = record {
  name = name;
  kind = SHT_RELA;
  flags = SHF_INFO_LINK;
  link = link_of o.symbol_table;
  info = info;
  align = 8;
  entsize = 24;
  body = flat_map bytes_of_reloc list;
}

-- a name of which each byte passes the test has no zero byte
no_zeros : (xs : List ℕ) → list_all (λ c. not (c == 0)) xs ≡ true → All (λ c. c ≢ 0) xs
no_zeros xs all = All-weaker (λ c. not (c == 0) ≡ true) (λ c. c ≢ 0) (λ c h. grind (arith, nat_tests)) xs (AllPass-from_list_all (λ c. not (c == 0)) xs all)

pub data_addable : (o : Elf) (new : List NewEntry) (name : List ℕ) (align entsize : ℕ) (body : List ℕ) → list_all (λ c. not (c == 0)) name ≡ true
    → align < 2 ^ 64 → entsize < 2 ^ 64 → IsAddable o new (data_entry name align entsize body)
data_addable o new name align entsize body named short few = record {
  name = no_zeros name named;
  fields = record { kind = omega arith; flags = omega arith; link = omega arith; info = omega arith; align = short; entsize = few };
  form = inl (record {
    no_symbols = λ e. omega arith;
    no_strings = λ e. omega arith;
    no_relas = λ e. omega arith;
    no_rels = λ e. omega arith;
    no_group = λ e. omega arith;
    no_indices = λ e. omega arith;
    no_text = λ e. refl;
    no_null = λ e. absurd (omega arith);
    no_bits = λ e. absurd (omega arith);
  });
}

-- the size of a new section
pub new_size : (o : Elf) (new : List NewEntry) (n k : ℕ) → n ≡ length o.sections + k → slice_index (sizes o new) n ≡ slice_index (map (λ (e : NewEntry). length e.body) new) k
new_size o new n k at =
    let olds : List ℕ = map (λ (s : SectionEntry). s.size) o.sections in
    let news : List ℕ = map (λ (e : NewEntry). length e.body) new in
    let l : length olds ≡ length o.sections = length-map o.sections (λ (s : SectionEntry). s.size) in
    let behind : n - length o.sections ≡ k = omega arith in
    get_or-append_right olds news (length o.sections) n 0 l (omega arith)
    ∙ ap (λ (m : ℕ). slice_index news m) behind

pub relocs_addable : (o : Elf) (new : List NewEntry) (name : List ℕ) (info end : ℕ) (list : List Reloc) → Known o → list_all (λ c. not (c == 0)) name ≡ true
    → length o.sections ≤ info → info < length o.sections + length new → length o.sections + length new ≤ 262144
    → slice_index (sizes o new) info ≡ end → All (IsInside o end) list → IsAddable o new (relocs_entry o name info list)
relocs_addable o new name info end list k named behind target few size inside =
    let link = k.link in
    let some = k.in_table in
    let whole = length-relocs list in
    record {
      name = no_zeros name named;
      fields = record { kind = omega arith; flags = omega arith; link = omega arith; info = omega arith; align = omega arith; entsize = omega arith };
      form = inr (record {
        kind = refl;
        entries = refl;
        whole = omega arith;
        flags = refl;
        link = refl;
        info = omega arith;
        target = target;
        free = λ j d h kind same. (let below = k.infos j d h kind in omega arith);
        relocs = subst (λ (n : ℕ). All (λ r. IsRelocOf r (length o.symbols) n) (relocs_in (flat_map bytes_of_reloc list))) (sym size)
            (All-same (λ r. IsRelocOf r (length o.symbols) end) (relocs_in (flat_map bytes_of_reloc list)) list (relocs_of o end list inside)
            (All-weaker (IsInside o end) (λ r. IsRelocOf r (length o.symbols) end) (λ r h. h.inside) list inside));
      });
    }
