-- The bodies of the object with the new sections lie in the file, and those of relocations share no byte with others.
use Rattle.std.proofs.Common.{◌≡◌, ◌≢◌, inl, inr, ℕ, ◌+◌, ◌<◌, ◌≤◌, List, length, get_or, true, sym, subst, ◌∙◌, arith}
use Rattle.std.proofs.lemmas.Bool.{cases_lt}
use Rattle.std.proofs.lemmas.Bool.Decides.{nat_tests}
use Rattle.elf_objects.specs.File.{name_table, section_count, section_header}
use Rattle.elf_objects.specs.Header.{has_body}
use Rattle.elf_objects.specs.declared.TheConstants.{SHT_NULL, SHT_RELA}
use Rattle.elf_objects.specs.Object.{IsWellFormed}
use Rattle.elf_objects.specs.Sections.{HasBody, IsInside, IsPlaced}
use Rattle.elf_objects.specs.declared.header.SectionHeader.{SectionHeader}
use Rattle.elf_write.specs.Layout.{NewEntry, header_for}
use Rattle.elf_write.proofs.Cases.{Case, added, case_of, first, first_kind, keeps, old, table, table_kind}
use Rattle.elf_write.proofs.Facts.{Output, no_entry}

no_body : (h : SectionHeader) (x : ℕ) → h.kind ≡ SHT_NULL → IsInside x h → ⊥
no_body h x e inside = let t : has_body h ≡ true = inside.0 in grind (arith, nat_tests)

-- a header with the fields of another has its body where that has
placed-as : (n : ℕ) (h g : SectionHeader) → g ≡ h → IsPlaced n h → IsPlaced n g
placed-as n h g e p = subst (IsPlaced n) (sym e) p

later : (n m : ℕ) (h : SectionHeader) → n ≤ m → IsPlaced n h → IsPlaced m h
later n m h le p = record { inside = λ t. (let i = p.inside t in omega arith); behind = p.behind }

placed : (b : List ℕ) (new : List NewEntry) (q : List ℕ) (hp np : ℕ) (nm : List ℕ) (place name : ℕ → ℕ)
    → Output b new q hp np nm place name → IsWellFormed b → (j : ℕ) → Case b new j → IsPlaced (length q) (section_header q j)
placed b new q hp np nm place name o w j (first e) =
    let k = keeps b new q hp np nm place name o 0 (let n = w.table.counts.names in omega arith) in
    let z : (section_header q j).kind ≡ SHT_NULL = rw e (k.kind ∙ first_kind b w) in
    record { inside = λ t. grind (arith, nat_tests); behind = λ t. grind (arith, nat_tests) }
placed b new q hp np nm place name o w j (table e) =
    let file = w.table.file_header in
    let is : section_header q j ≡ record (section_header b (name_table b)) { offset = np; size = length nm } = rw e o.names in
    placed-as (length q) (record (section_header b (name_table b)) { offset = np; size = length nm }) (section_header q j) is
    (record { inside = λ _. omega (arith, o.names_inside, o.end); behind = λ _ _. omega (arith, o.behind) })
placed b new q hp np nm place name o w j (old h x y) =
    placed-as (length q) (section_header b j) (section_header q j) (o.old j h x y)
    (later (length b) (length q) (section_header b j) (omega (arith, o.behind, o.names_inside, o.end)) (w.bodies j h).placed)
placed b new q hp np nm place name o w j (added k h e) =
    let file = w.table.file_header in
    let one : NewEntry = get_or new k no_entry in
    let is : section_header q j ≡ header_for (name k) (place k) one = rw e (o.added k no_entry h) in
    let i = o.inside k no_entry h in
    placed-as (length q) (header_for (name k) (place k) one) (section_header q j) is
    (record { inside = λ _. omega (arith, o.end); behind = λ _ _. omega (arith, o.behind, o.after k) })

-- the bytes of the body with a number are of one case or another
pub data Bytes (b : List ℕ) (new : List NewEntry) (np hp : ℕ) (nm : List ℕ) (place : ℕ → ℕ) (j x : ℕ) : Type 0 where
  in_table : j ≡ name_table b → np ≤ x → x < np + length nm → Bytes b new np hp nm place j x
  in_old : j < section_count b → IsInside x (section_header b j) → x < length b → Bytes b new np hp nm place j x
  in_new : (k : ℕ) → k < length new → j ≡ section_count b + k → place k ≤ x → x < place k + length (get_or new k no_entry).body → Bytes b new np hp nm place j x

inside_at : (x : ℕ) (g h : SectionHeader) → g ≡ h → IsInside x g → IsInside x h
inside_at x g h e inside = subst (IsInside x) e inside

bytes_of : (b : List ℕ) (new : List NewEntry) (q : List ℕ) (hp np : ℕ) (nm : List ℕ) (place name : ℕ → ℕ)
    → Output b new q hp np nm place name → IsWellFormed b → (j x : ℕ) → Case b new j → IsInside x (section_header q j)
    → Bytes b new np hp nm place j x
bytes_of b new q hp np nm place name o w j x (first e) inside =
    let k = keeps b new q hp np nm place name o 0 (let n = w.table.counts.names in omega arith) in
    let z : (section_header q j).kind ≡ SHT_NULL = rw e (k.kind ∙ first_kind b w) in
    absurd (no_body (section_header q j) x z inside)
bytes_of b new q hp np nm place name o w j x (table e) inside =
    let is : section_header q j ≡ record (section_header b (name_table b)) { offset = np; size = length nm } = rw e o.names in
    let there = inside_at x (section_header q j) (record (section_header b (name_table b)) { offset = np; size = length nm }) is inside in
    in_table e there.1 there.2
bytes_of b new q hp np nm place name o w j x (old h y z) inside =
    let there : IsInside x (section_header b j) = inside_at x (section_header q j) (section_header b j) (o.old j h y z) inside in
    let within = (w.bodies j h).placed.inside there.0 in
    in_old h there (omega (arith, there.2))
bytes_of b new q hp np nm place name o w j x (added k h e) inside =
    let one : NewEntry = get_or new k no_entry in
    let is : section_header q j ≡ header_for (name k) (place k) one = rw e (o.added k no_entry h) in
    let there = inside_at x (section_header q j) (header_for (name k) (place k) one) is inside in
    in_new k h e there.1 there.2

-- two of them share none, where the first is that of relocations
disjoint : (b : List ℕ) (new : List NewEntry) (q : List ℕ) (hp np : ℕ) (nm : List ℕ) (place name : ℕ → ℕ)
    → Output b new q hp np nm place name → IsWellFormed b → (j k x : ℕ) → (j < section_count b → (section_header b j).kind ≡ SHT_RELA) → k ≢ j
    → Bytes b new np hp nm place j x → Bytes b new np hp nm place k x → ⊥
disjoint b new q hp np nm place name o w j k x rela ne (in_table e l u) other =
    let strings = table_kind b w in
    let inside = w.table.counts.names in
    let kind : (section_header b (name_table b)).kind ≡ SHT_RELA = rw (← e) (rela (omega arith)) in
    omega arith
disjoint b new q hp np nm place name o w j k x rela ne (in_old h i s) (in_table e l u) = omega (arith, o.behind)
disjoint b new q hp np nm place name o w j k x rela ne (in_old h i s) (in_old g m t) =
    (((w.bodies j h).alone (rela h)).apart k g ne) (x, i, m)
disjoint b new q hp np nm place name o w j k x rela ne (in_old h i s) (in_new n g e l u) = omega (arith, o.behind, o.after n)
disjoint b new q hp np nm place name o w j k x rela ne (in_new n g e l u) (in_table f m v) = omega (arith, o.after n)
disjoint b new q hp np nm place name o w j k x rela ne (in_new n g e l u) (in_old f m v) = omega (arith, o.behind, o.after n)
disjoint b new q hp np nm place name o w j k x rela ne (in_new n g e l u) (in_new m f d s v) = elim (cases_lt n m) [
  | inl lower ↦ let a = o.apart n m no_entry lower f in omega arith
  | inr upper ↦
      let other : n ≢ m = λ same. ne (omega arith) in
      let a = o.apart m n no_entry (omega arith) g in
      omega arith
]

pub bodies-output : (b : List ℕ) (new : List NewEntry) (q : List ℕ) (hp np : ℕ) (nm : List ℕ) (place name : ℕ → ℕ)
    → Output b new q hp np nm place name → IsWellFormed b → (j : ℕ) → j < section_count q → HasBody q j
bodies-output b new q hp np nm place name o w j h =
    let c = o.count in
    let n = w.table.counts.names in
    let mine : Case b new j = case_of b new j (omega arith) in
    record {
      null = λ e. (let k = keeps b new q hp np nm place name o 0 (omega arith) in rw e (k.kind ∙ first_kind b w));
      placed = placed b new q hp np nm place name o w j mine;
      alone = λ kind. record {
        apart = λ k g ne shared.
            (let was : j < section_count b → (section_header b j).kind ≡ SHT_RELA = λ lt. sym (keeps b new q hp np nm place name o j lt).kind ∙ kind in
            disjoint b new q hp np nm place name o w j k shared.0 was ne
            (bytes_of b new q hp np nm place name o w j shared.0 mine shared.1)
            (bytes_of b new q hp np nm place name o w k shared.0 (case_of b new k (omega arith)) shared.2));
      };
    }
