-- The special tables of the object with the new sections are those that it had: the symbol table, the table of section
-- numbers, the string tables.
use Rattle.std.proofs.Common.{◌≡◌, ◌≢◌, ◌⊎◌, inl, inr, ℕ, zero, suc, ◌+◌, ◌-◌, ◌<◌, ◌≤◌, List, [], ◌++◌, length, take, drop, get_or, Bool, true, false, Option, Some, None, eqb, refl, sym, ap, ◌∙◌, arith, length-drop}
use Rattle.std.specs.Prelude.{All, slice_index}
use Rattle.std.proofs.lemmas.Bool.{cases_eq, ne_eqb}
use Rattle.std.proofs.lemmas.Bool.Decides.{nat_tests}
use Rattle.std.proofs.lemmas.List.{get_or-drop, get_or-take, length-take-le}
use Rattle.elf_objects.specs.Below.{first_of, least_below}
use Rattle.elf_objects.specs.File.{name_table, section_count, section_header}
use Rattle.elf_objects.specs.Header.{has_body}
use Rattle.elf_objects.specs.declared.TheConstants.{SHT_NULL, SHT_STRTAB}
use Rattle.elf_objects.specs.Object.{IsWellFormed}
use Rattle.elf_objects.specs.Table.{body_of, first_of_kind, header_of, is_kind, name_header}
use Rattle.elf_objects.specs.declared.header.SectionHeader.{SectionHeader}
use Rattle.elf_objects.proofs.LeastBelow.{least_below-cong, least_below-some, least_below-suc}
use Rattle.elf_write.specs.Layout.{NewEntry, new_names}
use Rattle.elf_write.proofs.Cases.{first_kind, keeps, table_kind}
use Rattle.elf_write.proofs.Facts.{Output, no_entry}
use Rattle.elf_write.proofs.Parts.{part}
use Rattle.elf_write.proofs.Strings.{all_names-last, name-inside}

nothing : (o : Option ℕ) → first_of o None ≡ o
nothing (Some k) = refl
nothing None = refl

pub bool_cases : (x : Bool) → (x ≡ true) ⊎ (x ≡ false)
bool_cases true = inl refl
bool_cases false = inr refl

-- what is found below a bound is found below a higher one, if nothing else passes
pub least_below-further : (p q : ℕ → Bool) (n m : ℕ) → ((k : ℕ) → k < n → q k ≡ p k) → ((k : ℕ) → k < m → q (n + k) ≡ false)
    → least_below q (n + m) ≡ least_below p n
least_below-further p q n zero same none =
    ap (least_below q) (omega arith) ∙ least_below-cong q p n same
least_below-further p q n (suc m) same none =
    let ih = least_below-further p q n m same (λ k h. none k (omega arith)) in
    let here : q (n + m) ≡ false = none m (omega arith) in
    let e : n + suc m ≡ suc (n + m) = omega arith in
    rw (e, least_below-suc q (n + m), here, ih) (nothing (least_below p n))

-- a type that no new section has
pub first_of_kind-output : (b : List ℕ) (new : List NewEntry) (q : List ℕ) (hp np : ℕ) (nm : List ℕ) (place name : ℕ → ℕ) (kind : ℕ)
    → Output b new q hp np nm place name → All (λ e. e.kind ≢ kind) new → first_of_kind q kind ≡ first_of_kind b kind
first_of_kind-output b new q hp np nm place name kind o none =
    ap (least_below (is_kind q kind)) o.count
    ∙ least_below-further (is_kind b kind) (is_kind q kind) (section_count b) (length new)
    (λ k h. ap (λ (n : ℕ). eqb n kind) (keeps b new q hp np nm place name o k h).kind)
    (λ k h. ap (λ (x : SectionHeader). eqb x.kind kind) (o.added k no_entry h) ∙ ne_eqb (get_or new k no_entry).kind kind (none k no_entry h))

-- the header of a section that is neither section 0 nor the name table
pub plain-output : (b : List ℕ) (new : List NewEntry) (q : List ℕ) (hp np : ℕ) (nm : List ℕ) (place name : ℕ → ℕ)
    → Output b new q hp np nm place name → IsWellFormed b → (k kind : ℕ) → k < section_count b → (section_header b k).kind ≡ kind
    → kind ≢ SHT_NULL → kind ≢ SHT_STRTAB → section_header q k ≡ section_header b k
plain-output b new q hp np nm place name o w k kind h e null strings =
    o.old k h
    (λ z. null (sym e ∙ ap (λ (n : ℕ). (section_header b n).kind) z ∙ first_kind b w))
    (λ z. strings (sym e ∙ ap (λ (n : ℕ). (section_header b n).kind) z ∙ table_kind b w))

header_found : (b : List ℕ) (new : List NewEntry) (q : List ℕ) (hp np : ℕ) (nm : List ℕ) (place name : ℕ → ℕ) (kind : ℕ)
    → Output b new q hp np nm place name → IsWellFormed b → kind ≢ SHT_NULL → kind ≢ SHT_STRTAB → (f : Option ℕ) → first_of_kind b kind ≡ f
    → header_of q f ≡ header_of b f
unfolding header_of
header_found b new q hp np nm place name kind o w null strings None e = refl
header_found b new q hp np nm place name kind o w null strings (Some i) e =
    let l = least_below-some (is_kind b kind) (section_count b) i e in
    let is : (section_header b i).kind ≡ kind = (let t = l.passes in grind (arith, nat_tests)) in
    plain-output b new q hp np nm place name o w i kind l.below is null strings

-- the header of the first section of such a type
pub special-output : (b : List ℕ) (new : List NewEntry) (q : List ℕ) (hp np : ℕ) (nm : List ℕ) (place name : ℕ → ℕ) (kind : ℕ)
    → Output b new q hp np nm place name → IsWellFormed b → kind ≢ SHT_NULL → kind ≢ SHT_STRTAB → All (λ e. e.kind ≢ kind) new
    → header_of q (first_of_kind q kind) ≡ header_of b (first_of_kind b kind)
special-output b new q hp np nm place name kind o w null strings none =
    ap (header_of q) (first_of_kind-output b new q hp np nm place name kind o none)
    ∙ header_found b new q hp np nm place name kind o w null strings (first_of_kind b kind) refl

-- the bytes of a body, by its header
pub body_range : (b : List ℕ) (h : SectionHeader) → has_body h ≡ true → body_of b h ≡ part h.offset h.size b
unfolding body_of
body_range b h t =
    let e : h.offset + h.size - h.offset ≡ h.size = omega arith in
    rw (t, e) refl

pub body_none : (b : List ℕ) (h : SectionHeader) → has_body h ≡ false → body_of b h ≡ []
unfolding body_of
body_none b h t = rw t refl

-- a body in the file, behind the file header, is there as it was
pub body_of-kept : (b : List ℕ) (new : List NewEntry) (q : List ℕ) (hp np : ℕ) (nm : List ℕ) (place name : ℕ → ℕ)
    → Output b new q hp np nm place name → IsWellFormed b → (k : ℕ) → k < section_count b → body_of q (section_header b k) ≡ body_of b (section_header b k)
body_of-kept b new q hp np nm place name o w k h =
    let d = section_header b k in
    let p = (w.bodies k h).placed in
    elim (bool_cases (has_body d)) [
      | inl there ↦
          let within = p.inside there in
          body_range q d there
          ∙ elim (cases_eq d.size 0) [
            | inl none ↦ rw none refl
            | inr some ↦ o.kept d.offset d.size (p.behind there (omega arith)) within
          ]
          ∙ sym (body_range b d there)
      | inr absent ↦ body_none q d absent ∙ sym (body_none b d absent)
    ]

-- the name table's body is longer
pub names-output : (b : List ℕ) (new : List NewEntry) (q : List ℕ) (hp np : ℕ) (nm : List ℕ) (place name : ℕ → ℕ)
    → Output b new q hp np nm place name → IsWellFormed b → body_of q (name_header q) ≡ nm
names-output b new q hp np nm place name o w =
    let is : name_header q ≡ record (section_header b (name_table b)) { offset = np; size = length nm } = ap (section_header q) o.table ∙ o.names in
    let kind = table_kind b w in
    let t : has_body (name_header q) ≡ true = rw is (grind (arith, nat_tests)) in
    body_range q (name_header q) t ∙ rw is o.names_part

-- the length and the end of a string table
pub strings-length : (b : List ℕ) → IsWellFormed b → (k : ℕ) → k < section_count b → (section_header b k).kind ≡ SHT_STRTAB
    → length (body_of b (section_header b k)) ≡ (section_header b k).size
strings-length b w k h kind =
    let d = section_header b k in
    let t : has_body d ≡ true = grind (arith, nat_tests) in
    let within = (w.bodies k h).placed.inside t in
    let l = length-drop d.offset b in
    ap length (body_range b d t) ∙ length-take-le d.size (drop d.offset b) (omega arith)

pub strings-last : (b : List ℕ) → IsWellFormed b → (k : ℕ) → k < section_count b → (section_header b k).kind ≡ SHT_STRTAB
    → get_or (body_of b (section_header b k)) (length (body_of b (section_header b k)) - 1) 0 ≡ 0
strings-last b w k h kind =
    let d = section_header b k in
    let t : has_body d ≡ true = grind (arith, nat_tests) in
    let form = (w.forms k h).form.strings kind in
    let some = form.some in
    let l = strings-length b w k h kind in
    let r = body_range b d t in
    let e : d.offset + (d.size - 1) ≡ d.offset + d.size - 1 = omega arith in
    ap (λ (n : ℕ). get_or (body_of b d) (n - 1) 0) l
    ∙ ap (λ (xs : List ℕ). get_or xs (d.size - 1) 0) r
    ∙ get_or-take d.size (drop d.offset b) (d.size - 1) 0 (omega arith)
    ∙ get_or-drop d.offset b (d.size - 1) 0
    ∙ ap (λ (n : ℕ). get_or b n 0) e
    ∙ form.ends

-- the longer name table
pub record Longer (b : List ℕ) (nm : List ℕ) : Type 0 where
  pub some : 0 < length nm
  pub last : get_or nm (length nm - 1) 0 ≡ 0
  pub size : (section_header b (name_table b)).size ≤ length nm

pub longer : (b : List ℕ) (new : List NewEntry) (q : List ℕ) (hp np : ℕ) (nm : List ℕ) (place name : ℕ → ℕ)
    → Output b new q hp np nm place name → IsWellFormed b → 0 < length new → Longer b nm
longer b new q hp np nm place name o w h =
    let names : List ℕ = body_of b (name_header b) in
    let i : length names + length (new_names (take 0 new)) < length (names ++ new_names new) = name-inside names new 0 no_entry h in
    let l : length nm ≡ length (names ++ new_names new) = ap length o.names_is in
    let s : length names ≡ (section_header b (name_table b)).size = strings-length b w (name_table b) w.table.counts.names (table_kind b w) in
    record { some = omega arith; last = rw o.names_is (all_names-last names new h); size = omega arith }

-- a byte of a part
pub index-in_part : (a k w : ℕ) (xs : List ℕ) → k < w → slice_index xs (a + k) ≡ get_or (part a w xs) k 0
index-in_part a k w xs h = sym (get_or-take w (drop a xs) k 0 h ∙ get_or-drop a xs k 0)
