-- The site lists of the result are the lists that were added.
use Rattle.std.proofs.Common.{◌≡◌, ◌≢◌, ℕ, ◌*◌, ◌^◌, ◌<◌, true, false, List, length, Option, Some, None, refl, ap, ◌∙◌, arith}
use Rattle.std.specs.Prelude.{All, IsSome, bytes_eq, option_map, slice_get, ◌==◌}
use Rattle.std.specs.List.{position_or_len}
use Rattle.std.proofs.lemmas.Bool.{eq-eqb, ne_eqb}
use Rattle.std.proofs.lemmas.List.Elements.{All-weaker}
use Rattle.ot_base.specs.declared.place.Place.{Place}
use Rattle.elf_objects.specs.declared.symbol.Reloc.{Reloc}
use Rattle.elf_objects.specs.Contents.{section_symbol_of}
use Rattle.elf_objects.specs.Elf.{Elf, SectionEntry}
use Rattle.elf_write.specs.Added.{relocs_in, relocs_with}
use Rattle.orc_bytes.specs.Sections.{section_named}
use Rattle.orc_output.proofs.Extended.{body_new, found_new, news, relocs_new, stays}
use Rattle.orc_output.proofs.Known.{Known}
use Rattle.site_lists.specs.Listed.{Listed}
use Rattle.site_lists.specs.Sections.{HoldsList, HoldsSites, IsSite, held as is_held, list_name, rela_section, slot_section}
use Rattle.site_lists.specs.SiteOutput.{CanHaveLists, IsOther, list_number, site_sections, with_lists_object}
use Rattle.site_lists.proofs.OutputSlots.{relocs_back}

-- the relocations of each new list are those in the section behind it
relocs-first : (o : Elf) (lists : Listed) → relocs_with o (site_sections o lists) (list_number o 0) ≡ relocs_in (rela_section (section_symbol_of o) lists.retpoline)
relocs-first o lists =
    let here : (list_number o 0 == list_number o 0) ≡ true = eq-eqb (list_number o 0) (list_number o 0) refl in
    rw here refl

relocs-second : (o : Elf) (lists : Listed) → relocs_with o (site_sections o lists) (list_number o 1) ≡ relocs_in (rela_section (section_symbol_of o) lists.returns)
relocs-second o lists =
    let zeroth : (list_number o 0 == list_number o 1) ≡ false = ne_eqb (list_number o 0) (list_number o 1) (λ e. omega arith) in
    let here : (list_number o 1 == list_number o 1) ≡ true = eq-eqb (list_number o 1) (list_number o 1) refl in
    rw (zeroth, here) refl

relocs-third : (o : Elf) (lists : Listed) → relocs_with o (site_sections o lists) (list_number o 2) ≡ relocs_in (rela_section (section_symbol_of o) lists.calls)
relocs-third o lists =
    let zeroth : (list_number o 0 == list_number o 2) ≡ false = ne_eqb (list_number o 0) (list_number o 2) (λ e. omega arith) in
    let first : (list_number o 1 == list_number o 2) ≡ false = ne_eqb (list_number o 1) (list_number o 2) (λ e. omega arith) in
    let here : (list_number o 2 == list_number o 2) ≡ true = eq-eqb (list_number o 2) (list_number o 2) refl in
    rw (zeroth, first, here) refl

none_named : (o : Elf) (lists : Listed) (which : ℕ) → CanHaveLists o lists → All (λ (s : SectionEntry). s.name ≢ list_name which) o.sections
none_named o lists which can = All-weaker IsOther (λ s. s.name ≢ list_name which) (λ s h. h.list which) o.sections can.none

there : (found : Option ℕ) (i : ℕ) → found ≡ Some i → IsSome found
there (Some j) i e = refl
there None i e = cc

-- one of the lists
held_list : (o : Elf) (lists : Listed) (which : ℕ) (places : List Place) → Known o → CanHaveLists o lists → which < 3
    → All (IsSite o) places → length places < 2 ^ 32
    → position_or_len (λ s. bytes_eq s.name (list_name which)) (news o (site_sections o lists)) ≡ 2 * which
    → option_map (λ (s : SectionEntry). s.body) (slice_get (news o (site_sections o lists)) (2 * which)) ≡ Some (slot_section places)
    → relocs_with o (site_sections o lists) (list_number o which) ≡ relocs_in (rela_section (section_symbol_of o) places)
    → HoldsList (with_lists_object o lists) (list_name which) places
held_list o lists which places known can inside each few at body relocs =
    let none = All-weaker IsOther (λ s. s.name ≢ list_name which) (λ s h. h.list which) o.sections can.none in
    let found : section_named (with_lists_object o lists) (list_name which) ≡ Some (list_number o which) = found_new o (site_sections o lists) (list_name which) (2 * which) none at (omega arith) in
    record {
      slots = body_new o (site_sections o lists) (list_name which) (2 * which) (slot_section places) found body;
      relocs = relocs_new o (site_sections o lists) (list_name which) (2 * which) found (omega arith)
          ∙ ap (λ (rs : List Reloc). Some rs) (relocs ∙ relocs_back o places few known.few_symbols each);
      each = All-weaker (IsSite o) (IsSite (with_lists_object o lists)) (λ place is. record {
        section = is.section;
        at = stays o (site_sections o lists) known place.sec is.section is.at is.text;
        text = is.text;
        symbol = is.symbol;
        inside = is.inside;
        addend = is.addend;
      }) places each;
    }

pub held : (o : Elf) (lists : Listed) → Known o → CanHaveLists o lists → HoldsSites (with_lists_object o lists) lists
held o lists known can =
    let few0 : length lists.retpoline < 2 ^ 32 = (let f = can.few_places.retpoline in omega arith) in
    let few1 : length lists.returns < 2 ^ 32 = (let f = can.few_places.returns in omega arith) in
    let few2 : length lists.calls < 2 ^ 32 = (let f = can.few_places.calls in omega arith) in
    record {
      some = record { which = 0; inside = omega arith; there = there (section_named (with_lists_object o lists) (list_name 0)) _ (found_new o (site_sections o lists) (list_name 0) 0 (none_named o lists 0 can) refl (omega arith)) };
      retpoline = is_held (held_list o lists 0 lists.retpoline known can (omega arith) can.each.retpoline few0 refl refl (relocs-first o lists));
      returns = is_held (held_list o lists 1 lists.returns known can (omega arith) can.each.returns few1 refl refl (relocs-second o lists));
      calls = is_held (held_list o lists 2 lists.calls known can (omega arith) can.each.calls few2 refl refl (relocs-third o lists));
    }
