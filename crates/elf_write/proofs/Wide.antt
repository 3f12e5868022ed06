-- The object with new sections of whatever types.
use Rattle.std.proofs.Common.{◌≡◌, inl, inr, ℕ, ◌+◌, ◌-◌, ◌^◌, ◌<◌, ◌≤◌, List, [], ◌∷◌, ◌++◌, length, get_or, map, refl, sym, ap, subst, ◌∙◌, arith, length-append}
use Rattle.std.specs.Prelude.{All}
use Rattle.std.specs.List.{enumerate_from, range_with_len}
use Rattle.std.proofs.lemmas.Bool.{cases_eq, cases_lt}
use Rattle.std.proofs.lemmas.Bool.Decides.{nat_tests}
use Rattle.std.proofs.lemmas.List.{get_or-append_right, get_or-map, get_or_append_left, length-map}
use Rattle.std.proofs.lemmas.List.FromFn.{fill_by_all, get_or-enumerate_from, length-enumerate_from}
use Rattle.elf_objects.specs.Below.{AllBelow}
use Rattle.elf_objects.specs.Contents.{elf_of, entry_of_header, section_entry}
use Rattle.elf_objects.specs.Elf.{Elf, SectionEntry}
use Rattle.elf_objects.specs.File.{name_table, section_count}
use Rattle.elf_objects.specs.Header.{has_body}
use Rattle.elf_objects.specs.declared.TheConstants.{SHT_NULL}
use Rattle.elf_objects.specs.declared.header.SectionHeader.{SectionHeader}
use Rattle.elf_objects.specs.Object.{IsObject, IsWellFormed}
use Rattle.elf_objects.specs.Sections.{HasForm, HasLinks, HasLittleText}
use Rattle.elf_objects.specs.Symbols.{HasFewSymbols, HasRelocs, IsSymbol}
use Rattle.elf_objects.specs.Table.{body_of, name_header, string_at, symbol_count}
use Rattle.elf_write.specs.Added.{CanAdd, HasFields, IsAddable, extended_as, new_section, new_sections, object_with, old_section}
use Rattle.elf_write.specs.Appended.{CanAppend, IsGiven, ReadsMore}
use Rattle.elf_write.specs.Layout.{NewEntry, Input, all_names, end_of, extended, header_for, headers_place, names_place, new_names}
use Rattle.elf_write.specs.Object.{appended_to, input_of_object}
use Rattle.elf_write.proofs.Callers.{length-object_with}
use Rattle.elf_write.proofs.Cases.{named}
use Rattle.elf_write.proofs.Facts.{Output, name_of, no_entry, output, place_of}
use Rattle.elf_write.proofs.Links.{length-sections, names-output as named-output, section-at}
use Rattle.elf_write.proofs.Output.{Base, input_at}
use Rattle.elf_write.proofs.Placement.{bodies-output}
use Rattle.elf_write.proofs.Reading.{old_entry}
use Rattle.elf_write.proofs.Result.{appended-is_object}
use Rattle.elf_write.proofs.Says.{entry_is, get_or-new_sections, input_is, length-new_sections}
use Rattle.elf_write.proofs.Special.{body_none, body_range, bool_cases, names-output}
use Rattle.elf_write.proofs.Strings.{string_at-new}
use Rattle.elf_write.proofs.WellFormed.{table-output}

-- the body of a new section
body_given : (b : List ℕ) (new : List NewEntry) (q : List ℕ) (hp np : ℕ) (nm : List ℕ) (place name : ℕ → ℕ)
    → Output b new q hp np nm place name → (k : ℕ) → k < length new → IsGiven (get_or new k no_entry)
    → body_of q (header_for (name k) (place k) (get_or new k no_entry)) ≡ (get_or new k no_entry).body
body_given b new q hp np nm place name o k h ok =
    let one : NewEntry = get_or new k no_entry in
    let g : SectionHeader = header_for (name k) (place k) one in
    elim (bool_cases (has_body g)) [
      | inl there ↦ body_range q g there ∙ o.body_part k no_entry h
      | inr absent ↦ body_none q g absent ∙ sym (elim (cases_eq one.kind SHT_NULL) [
        | inl null ↦ ok.null null
        | inr other ↦ ok.bits (grind (arith, nat_tests))
      ])
    ]

-- a new section
entry_given : (b : List ℕ) (new : List NewEntry) (q : List ℕ) (hp np : ℕ) (nm : List ℕ) (place name : ℕ → ℕ)
    → Output b new q hp np nm place name → IsWellFormed b → All IsGiven new → (k : ℕ) → k < length new
    → section_entry q (section_count b + k) ≡ new_section (place k) (get_or new k no_entry)
entry_given b new q hp np nm place name o w ok k h =
    let one : NewEntry = get_or new k no_entry in
    let mine = ok k no_entry h in
    let title : string_at (body_of q (name_header q)) (name k) ≡ one.name =
    ap (λ (xs : List ℕ). string_at xs (name k)) (names-output b new q hp np nm place name o w ∙ o.names_is)
    ∙ ap (string_at (body_of b (name_header b) ++ new_names new)) (o.name_is k)
    ∙ string_at-new (body_of b (name_header b)) new k no_entry h mine.name in
    let body = body_given b new q hp np nm place name o k h mine in
    entry_is q (section_count b + k) ∙ ap (entry_of_header q) (o.added k no_entry h) ∙ rw (title, body) refl

sections-given : (b : List ℕ) (new : List NewEntry) (q : List ℕ) (hp : ℕ)
    → Output b new q hp (names_place (input_at b)) (all_names (input_at b) new) (place_of (input_at b) new) (name_of (input_at b) new) → IsWellFormed b
    → All IsGiven new
    → map (section_entry q) (range_with_len 0 (section_count b + length new)) ≡ (extended_as (input_at b) (elf_of b) new).sections
sections-given b new q hp o w ok =
    let i : Input = input_at b in
    let n : ℕ = section_count b in
    let l : length (elf_of b).sections ≡ n = length-sections b in
    let d : SectionEntry = section_entry b 0 in
    let olds : List SectionEntry = map (old_section i (n + length new) new) (enumerate_from 0 (elf_of b).sections) in
    let news : List SectionEntry = new_sections (end_of (length b) (all_names i new ∷ [])) new in
    let lo : length olds ≡ n = length-map (enumerate_from 0 (elf_of b).sections) (old_section i (n + length new) new) ∙ length-enumerate_from 0 (elf_of b).sections ∙ l in
    let ln : length news ≡ length new = length-new_sections (end_of (length b) (all_names i new ∷ [])) new in
    let at : (k : ℕ) → k < n + length new → get_or (olds ++ news) k d ≡ section_entry q k =
    λ k h. elim (cases_lt k n) [
      | inl lower ↦
          let z : 0 + k ≡ k = omega arith in
          get_or_append_left olds news d k (omega arith)
          ∙ get_or-map (old_section i (n + length new) new) (enumerate_from 0 (elf_of b).sections) k (0, d) d (omega (arith, length-enumerate_from 0 (elf_of b).sections))
          ∙ ap (old_section i (n + length new) new) (get_or-enumerate_from 0 (elf_of b).sections k (0, d) (omega arith))
          ∙ ap (λ (s : SectionEntry). old_section i (n + length new) new (0 + k, s)) (section-at b k d lower)
          ∙ ap (λ (x : ℕ). old_section i (n + length new) new (x, section_entry b k)) z
          ∙ old_entry b new q hp (place_of i new) (name_of i new) o w k lower
      | inr upper ↦
          let m : ℕ = k - n in
          let split : n + m ≡ k = omega arith in
          get_or-append_right olds news n k d lo upper
          ∙ get_or-new_sections (end_of (length b) (all_names i new ∷ [])) new m d (omega arith)
          ∙ sym (entry_given b new q hp (names_place i) (all_names i new) (place_of i new) (name_of i new) o w ok m (omega arith))
          ∙ ap (section_entry q) split
    ] in
    sym (fill_by_all (section_entry q) (olds ++ news) (n + length new) d (length-append olds news ∙ omega arith) at)
    ∙ ap (λ (x : ℕ). map (old_section i (x + length new) new) (enumerate_from 0 (elf_of b).sections) ++ news) (sym l)

-- the same, where what the layout takes of the object is given
record ReadsMoreAs (o : Elf) (new : List NewEntry) (i : Input) (file : List ℕ) : Type 0 where
  pub well_formed : IsWellFormed file
  pub sections : (elf_of file).sections ≡ (extended_as i o new).sections
  pub table : name_table file ≡ o.name_table

-- the bytes of an object with one section or more
at_bytes : (b : List ℕ) (e : NewEntry) (new : List NewEntry) → IsWellFormed b → CanAppend (elf_of b) (e ∷ new)
    → ReadsMore (elf_of b) (e ∷ new) (appended_to (elf_of b) (e ∷ new))
at_bytes b e new w can =
    let all : List NewEntry = e ∷ new in
    let is : input_of_object (elf_of b) ≡ input_at b = input_is b w in
    let l : length (elf_of b).sections ≡ section_count b = length-sections b in
    let few : section_count b + length all ≤ 262144 = (let f = can.few in omega arith) in
    let short : length (extended (input_at b) all) < 2 ^ 32 = subst (λ (i : Input). length (extended i all) < 2 ^ 32) is can.size in
    let base : Base b all = record {
      file = w.table.file_header;
      named = named b w;
      in_table = w.table.counts.names;
      holds = w.table.headers;
      some = omega arith;
      few = few;
      short = short;
    } in
    let fields : All HasFields all = λ k d h. (can.each k d h).fields in
    let q : List ℕ = extended (input_at b) all in
    let o = output b all base fields in
    let c = o.count in
    let same : appended_to (elf_of b) all ≡ q = ap (λ (i : Input). extended i all) is in
    let well : IsWellFormed q = record {
      table = table-output b all q _ _ _ _ _ o w.table few;
      bodies = λ j h. bodies-output b all q _ _ _ _ _ o w j h;
      forms = λ j h. subst (λ (x : List ℕ). HasForm x j) same (can.forms j (omega arith));
      links = λ j h. subst (λ (x : List ℕ). HasLinks x j) same (can.links j (omega arith));
      names = λ j h. named-output b all q _ _ _ _ _ o w (omega arith) j h;
      few_symbols = subst HasFewSymbols same can.few_symbols;
      symbols = subst (λ (x : List ℕ). AllBelow (IsSymbol x) (symbol_count x)) same can.symbols;
      relocs = λ j h. subst (λ (x : List ℕ). HasRelocs x j) same (can.relocs j (omega arith));
      little_text = subst HasLittleText same can.little_text;
    } in
    let sections : (elf_of q).sections ≡ (extended_as (input_at b) (elf_of b) all).sections =
    ap (λ (n : ℕ). map (section_entry q) (range_with_len 0 n)) c
    ∙ sections-given b all q (headers_place (input_at b) all) o w can.each in
    let here : ReadsMoreAs (elf_of b) all (input_at b) q = record { well_formed = well; sections = sections; table = o.table } in
    let there : ReadsMoreAs (elf_of b) all (input_of_object (elf_of b)) (appended_to (elf_of b) all) =
    subst (λ (i : Input). ReadsMoreAs (elf_of b) all i (extended i all)) (sym is) here in
    record { well_formed = there.well_formed; sections = there.sections; table = there.table }

-- the whole
pub reads_more : (b : List ℕ) (o : Elf) (new : List NewEntry) → IsObject b o → CanAppend o new → ReadsMore o new (appended_to o new)
reads_more b o [] ok can =
    subst (λ (y : Elf). ReadsMore y [] y.bytes) (sym ok.says) (record { well_formed = ok.well_formed; sections = refl; table = refl })
reads_more b o (e ∷ new) ok can =
    subst (λ (y : Elf). CanAppend y (e ∷ new) → ReadsMore y (e ∷ new) (appended_to y (e ∷ new))) (sym ok.says)
    (λ c. at_bytes b e new ok.well_formed c) can

-- sections that may be added beside the others may be appended
given_of : (o : Elf) (new : List NewEntry) (e : NewEntry) → IsAddable o new e → IsGiven e
given_of o new e ok = record {
  name = ok.name;
  fields = ok.fields;
  null = λ k. elim ok.form [
    | inl plain ↦ plain.no_null k
    | inr relocs ↦ (let r = relocs.kind in absurd (omega arith))
  ];
  bits = λ k. elim ok.form [
    | inl plain ↦ plain.no_bits k
    | inr relocs ↦ (let r = relocs.kind in absurd (omega arith))
  ];
}

pub can_append : (b : List ℕ) (o : Elf) (new : List NewEntry) → IsObject b o → CanAdd o new → CanAppend o new
can_append b o new ok can =
    let q : List ℕ = appended_to o new in
    let done : IsObject q (object_with o new) = appended-is_object b o new ok can in
    let w = done.well_formed in
    let count : section_count q ≡ length o.sections + length new =
    sym (length-sections q) ∙ sym (ap (λ (y : Elf). length y.sections) done.says) ∙ length-object_with o new in
    record {
      each = λ k d h. given_of o new (get_or new k d) (can.each k d h);
      few = can.few;
      size = can.size;
      forms = λ k h. w.forms k (omega arith);
      links = λ k h. w.links k (omega arith);
      few_symbols = w.few_symbols;
      symbols = w.symbols;
      relocs = λ k h. w.relocs k (omega arith);
      little_text = w.little_text;
    }
