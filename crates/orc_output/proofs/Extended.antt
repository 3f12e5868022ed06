-- An object with sections behind its own: each new one is found by its name, and an old text section is as it was.
use Rattle.std.proofs.Common.{◌≡◌, ◌≢◌, inl, inr, ℕ, ◌+◌, ◌<◌, ◌≤◌, Bool, true, false, cond, List, [], ◌∷◌, map, length, get_or, Some, refl, sym, ap, ◌∙◌, arith, length-append}
use Rattle.std.specs.Prelude.{All, bytes_eq, option_and_then, option_map, slice_get, ◌==◌}
use Rattle.std.specs.List.{enumerate_from, position_or_len}
use Rattle.std.proofs.lemmas.Bool.{cases_Bool, ne_eqb}
use Rattle.std.proofs.lemmas.List.FromFn.{get_or-map-range_with_len, length-map-range_with_len}
use Rattle.std.proofs.lemmas.Option.{get_or_from_slice_get, slice_get_read, slice_get_within}
use Rattle.std.proofs.lemmas.Slice.Eq.{bytes_eq-Decides}
use Rattle.elf_objects.specs.declared.symbol.Reloc.{Reloc}
use Rattle.elf_objects.specs.Contents.{is_text, no_section}
use Rattle.elf_objects.specs.Elf.{Elf, SectionEntry}
use Rattle.elf_objects.specs.declared.TheConstants.{SHT_PROGBITS}
use Rattle.elf_write.specs.Added.{extended_object, new_sections, old_section, relocs_with}
use Rattle.elf_write.specs.Layout.{NewEntry, Input, aligned, all_names, end_of, names_place, long_count}
use Rattle.elf_write.specs.Object.{input_of_object}
use Rattle.orc_bytes.specs.Sections.{body_named, relocs_named, section_named}
use Rattle.orc_output.proofs.Behind.{All-each, length-each, position-behind, slice_get-behind, slice_get-each, slice_get-front}
use Rattle.orc_output.proofs.Insertable.{text_kind}
use Rattle.orc_output.proofs.Known.{Known}

-- the old sections in the result, and the new ones
abbrev olds : Elf → List NewEntry → List SectionEntry
olds o new = map (old_section (input_of_object o) (length o.sections + length new) new) (enumerate_from 0 o.sections)

abbrev pub news : Elf → List NewEntry → List SectionEntry
news o new = new_sections (end_of (length o.bytes) (all_names (input_of_object o) new ∷ [])) new

length-olds : (o : Elf) (new : List NewEntry) → length (olds o new) ≡ length o.sections
length-olds o new = length-each (old_section (input_of_object o) (length o.sections + length new) new) 0 o.sections

length-news : (at : ℕ) (new : List NewEntry) → length (new_sections at new) ≡ length new
length-news at [] = refl
length-news at (e ∷ new) = let rest = length-news (aligned at + length e.body) new in omega (arith, rest)

-- there are no fewer sections
pub sections_grow : (o : Elf) (new : List NewEntry) → length o.sections ≤ length (extended_object o new).sections
sections_grow o new =
    let old = length-olds o new in
    let all : length (extended_object o new).sections ≡ length (olds o new) + length (news o new) = length-append (olds o new) (news o new) in
    omega arith

-- an old section keeps its name
old-name : (i : Input) (count : ℕ) (new : List NewEntry) (k : ℕ) (s : SectionEntry) → (old_section i count new (k, s)).name ≡ s.name
old-name i count new k s = go (k == 0) (k == i.name_table)
  where
    go : (x y : Bool)
        → (cond x (record s { size = long_count count }) (cond y (record s { offset = names_place i; size = length (all_names i new); body = all_names i new }) s)).name
        ≡ s.name
    go true y = refl
    go false true = refl
    go false false = refl

differs : (xs ys : List ℕ) → xs ≢ ys → bytes_eq xs ys ≡ false
differs xs ys apart = elim (cases_Bool (bytes_eq xs ys)) [
  | inl same ↦ absurd (apart ((bytes_eq-Decides xs ys).0 same))
  | inr other ↦ other
]

-- none of them has the name
none-named : (o : Elf) (new : List NewEntry) (name : List ℕ) → All (λ s. s.name ≢ name) o.sections
    → All (λ s. bytes_eq s.name name ≡ false) (olds o new)
none-named o new name none =
    All-each (λ (s : SectionEntry). s.name ≢ name) (λ (s : SectionEntry). bytes_eq s.name name ≡ false)
    (old_section (input_of_object o) (length o.sections + length new) new) 0 o.sections
    (λ k s other. differs _ name (λ e. other (sym (old-name (input_of_object o) (length o.sections + length new) new k s) ∙ e))) none

-- the section with a name that the old ones have not is a new one
pub found_new : (o : Elf) (new : List NewEntry) (name : List ℕ) (k : ℕ) → All (λ s. s.name ≢ name) o.sections
    → position_or_len (λ s. bytes_eq s.name name) (news o new) ≡ k → k < length new
    → section_named (extended_object o new) name ≡ Some (length o.sections + k)
found_new o new name k none at inside =
    let count : length (news o new) ≡ length new = length-news (end_of (length o.bytes) (all_names (input_of_object o) new ∷ [])) new in
    position-behind (λ (s : SectionEntry). bytes_eq s.name name) (olds o new) (news o new) k (none-named o new name none) at (omega arith)
    ∙ ap (λ (n : ℕ). Some (n + k)) (length-olds o new)

-- its body, and its relocations
pub body_new : (o : Elf) (new : List NewEntry) (name : List ℕ) (k : ℕ) (body : List ℕ) → section_named (extended_object o new) name ≡ Some (length o.sections + k)
    → option_map (λ (s : SectionEntry). s.body) (slice_get (news o new) k) ≡ Some body
    → body_named (extended_object o new) name ≡ Some body
body_new o new name k body named is =
    let l = length-olds o new in
    ap (option_and_then (λ i. option_map (λ (s : SectionEntry). s.body) (slice_get (extended_object o new).sections i))) named
    ∙ ap (option_map (λ (s : SectionEntry). s.body)) (slice_get-behind (olds o new) (news o new) (length o.sections + k) k (omega arith))
    ∙ is

pub relocs_new : (o : Elf) (new : List NewEntry) (name : List ℕ) (k : ℕ) → section_named (extended_object o new) name ≡ Some (length o.sections + k) → k < length new
    → relocs_named (extended_object o new) name ≡ Some (relocs_with o new (length o.sections + k))
relocs_new o new name k named inside =
    let all : List (List Reloc) = (extended_object o new).relocs in
    ap (option_and_then (λ i. slice_get all i)) named
    ∙ slice_get_read all (length o.sections + length new) (length o.sections + k) _
    (sym (length-map-range_with_len (relocs_with o new) 0 (length o.sections + length new)))
    (omega arith)
    (sym (get_or-map-range_with_len (relocs_with o new) 0 (length o.sections + length new) (length o.sections + k) (length o.sections + k) _ (omega arith) (omega arith)))

-- an old text section is as it was
pub stays : (o : Elf) (new : List NewEntry) → Known o → (k : ℕ) (s : SectionEntry) → slice_get o.sections k ≡ Some s → is_text s ≡ true
    → slice_get (extended_object o new).sections k ≡ Some s
stays o new known k s at text =
    let kind = text_kind s text in
    let inside : k < length o.sections = slice_get_within o.sections k s at in
    let l = length-olds o new in
    let is : get_or o.sections k no_section ≡ s = get_or_from_slice_get o.sections k s no_section at in
    let kept : (get_or o.sections k no_section).kind ≡ SHT_PROGBITS = ap (λ (x : SectionEntry). x.kind) is ∙ kind in
    let first : (k == 0) ≡ false = ne_eqb k 0 (λ e. let z = ap (λ (n : ℕ). (get_or o.sections n no_section).kind) e in let null = known.first_kind in omega arith) in
    let table : (k == o.name_table) ≡ false = ne_eqb k o.name_table (λ e. let z = ap (λ (n : ℕ). (get_or o.sections n no_section).kind) e in let strings = known.table_kind in omega arith) in
    let f = old_section (input_of_object o) (length o.sections + length new) new in
    let zero : 0 + k ≡ k = omega arith in
    slice_get-front (olds o new) (news o new) k (omega arith)
    ∙ slice_get-each f 0 o.sections k
    ∙ ap (λ (n : ℕ). option_map (λ x. f (n, x)) (slice_get o.sections k)) zero
    ∙ ap (option_map (λ x. f (k, x))) at
    ∙ rw (first, table) refl
