-- The sections of the object with the new ones: section 0, the name table, the other old ones, the new ones.
use Rattle.std.proofs.Common.{◌≡◌, ◌≢◌, inl, inr, ℕ, ◌+◌, ◌-◌, ◌<◌, ◌≤◌, List, length, refl, sym, ap, ◌∙◌, arith}
use Rattle.std.proofs.lemmas.Bool.{cases_eq, cases_lt}
use Rattle.elf_objects.specs.File.{name_table, section_count, section_header}
use Rattle.elf_objects.specs.declared.TheConstants.{SHT_NULL, SHT_STRTAB}
use Rattle.elf_objects.specs.Object.{IsWellFormed}
use Rattle.elf_objects.specs.declared.header.SectionHeader.{SectionHeader}
use Rattle.elf_write.specs.Layout.{NewEntry}
use Rattle.elf_write.proofs.Facts.{Output}

-- which of the sections j is
pub data Case (b : List ℕ) (new : List NewEntry) (j : ℕ) : Type 0 where
  first : j ≡ 0 → Case b new j
  table : j ≡ name_table b → Case b new j
  old : j < section_count b → j ≢ 0 → j ≢ name_table b → Case b new j
  added : (k : ℕ) → k < length new → j ≡ section_count b + k → Case b new j

pub case_of : (b : List ℕ) (new : List NewEntry) (j : ℕ) → j < section_count b + length new → Case b new j
case_of b new j h = elim (cases_lt j (section_count b)) [
  | inl lower ↦ elim (cases_eq j 0) [
    | inl zero ↦ first zero
    | inr some ↦ elim (cases_eq j (name_table b)) [
      | inl names ↦ table names
      | inr other ↦ old lower some other
    ]
  ]
  | inr upper ↦ added (j - section_count b) (omega arith) (omega arith)
]

-- the name table is not section 0
pub named : (b : List ℕ) → IsWellFormed b → 1 ≤ name_table b
named b w = elim (cases_eq (name_table b) 0) [
  | inl zero ↦
      let inside = w.table.counts.names in
      let strings : (section_header b (name_table b)).kind ≡ SHT_STRTAB = (w.forms (name_table b) inside).names refl in
      let null : (section_header b (name_table b)).kind ≡ SHT_NULL = (w.bodies (name_table b) inside).null zero in
      absurd (omega arith)
  | inr some ↦ omega arith
]

pub table_kind : (b : List ℕ) → IsWellFormed b → (section_header b (name_table b)).kind ≡ SHT_STRTAB
table_kind b w = (w.forms (name_table b) w.table.counts.names).names refl

pub first_kind : (b : List ℕ) → IsWellFormed b → (section_header b 0).kind ≡ SHT_NULL
first_kind b w = (w.bodies 0 (let n = w.table.counts.names in omega arith)).null refl

-- what an old header keeps
pub record Keeps (h g : SectionHeader) : Type 0 where
  pub name : g.name ≡ h.name
  pub kind : g.kind ≡ h.kind
  pub flags : g.flags ≡ h.flags
  pub addr : g.addr ≡ h.addr
  pub link : g.link ≡ h.link
  pub info : g.info ≡ h.info
  pub align : g.align ≡ h.align
  pub entsize : g.entsize ≡ h.entsize

Keeps-same : (h g : SectionHeader) → g ≡ h → Keeps h g
Keeps-same h g e = record {
  name = ap (λ (x : SectionHeader). x.name) e;
  kind = ap (λ (x : SectionHeader). x.kind) e;
  flags = ap (λ (x : SectionHeader). x.flags) e;
  addr = ap (λ (x : SectionHeader). x.addr) e;
  link = ap (λ (x : SectionHeader). x.link) e;
  info = ap (λ (x : SectionHeader). x.info) e;
  align = ap (λ (x : SectionHeader). x.align) e;
  entsize = ap (λ (x : SectionHeader). x.entsize) e;
}

-- but for the place and the size
Keeps-moved : (h g : SectionHeader) (offset size : ℕ) → g ≡ record h { offset = offset; size = size } → Keeps h g
Keeps-moved h g offset size e = record {
  name = ap (λ (x : SectionHeader). x.name) e;
  kind = ap (λ (x : SectionHeader). x.kind) e;
  flags = ap (λ (x : SectionHeader). x.flags) e;
  addr = ap (λ (x : SectionHeader). x.addr) e;
  link = ap (λ (x : SectionHeader). x.link) e;
  info = ap (λ (x : SectionHeader). x.info) e;
  align = ap (λ (x : SectionHeader). x.align) e;
  entsize = ap (λ (x : SectionHeader). x.entsize) e;
}

pub keeps : (b : List ℕ) (new : List NewEntry) (q : List ℕ) (hp np : ℕ) (nm : List ℕ) (place name : ℕ → ℕ)
    → Output b new q hp np nm place name → (k : ℕ) → k < section_count b → Keeps (section_header b k) (section_header q k)
keeps b new q hp np nm place name o k h = elim (cases_eq k 0) [
  | inl zero ↦
      let e : section_header q k ≡ record (section_header b k) { size = (section_header q 0).size } =
      rw zero (o.first ∙ ap (λ (n : ℕ). record (section_header b 0) { size = n }) (sym (ap (λ (x : SectionHeader). x.size) o.first))) in
      Keeps-moved (section_header b k) (section_header q k) (section_header b k).offset (section_header q 0).size e
  | inr some ↦ elim (cases_eq k (name_table b)) [
    | inl names ↦ Keeps-moved (section_header b k) (section_header q k) np (length nm) (rw names o.names)
    | inr other ↦ Keeps-same (section_header b k) (section_header q k) (o.old k h some other)
  ]
]
