-- Sections of entries: those of a name, the entries in them, and what keeps entries from being read.
use Rattle.std.specs.Prelude.{ℕ, List, Option, Some, None, map, filter, flat_map, length, bytes_eq}
use Rattle.std.specs.List.{range_with_len}
use Rattle.elf_objects.specs.Elf.{Elf}
use Rattle.elf_objects.specs.Contents.{section_at}
use Rattle.special_sections.specs.declared.fault.Why.{Why}
use Rattle.special_sections.specs.declared.fault.SpecialFault.{SpecialFault}
use Rattle.special_sections.specs.Reasons.{fault_at}

-- A kind of entries: the name of its sections; how many entries a section of an object has; why the section as a whole
-- is refused; and for each entry of a section what it says, and why it is refused.
pub record EntryKind (A : Type 0) : Type 0 where
  pub name : List ℕ
  pub count : Elf → ℕ → ℕ
  pub section_why : Elf → ℕ → Option Why
  pub entry : Elf → ℕ → ℕ → A
  pub why : Elf → ℕ → ℕ → Option Why

-- the sections with a name among the first n, ascending, and among all of an object
abbrev pub named_below : Elf → List ℕ → ℕ → List ℕ
named_below o name n = filter (λ sec. bytes_eq (section_at o sec).name name) (range_with_len 0 n)

abbrev pub sections_named : Elf → List ℕ → List ℕ
sections_named o name = named_below o name (length o.sections)

-- the entries of a section in order, and of all sections of the kind
abbrev pub section_entries : {A : Type 0} → EntryKind A → Elf → ℕ → List A
section_entries kind o sec = map (kind.entry o sec) (range_with_len 0 (kind.count o sec))

abbrev pub entries : {A : Type 0} → EntryKind A → Elf → List A
entries kind o = flat_map (section_entries kind o) (sections_named o kind.name)

-- the faults of the entries of a section, in order
abbrev pub entry_faults : {A : Type 0} → EntryKind A → Elf → ℕ → List SpecialFault
entry_faults kind o sec = flat_map (λ e. fault_at sec e (kind.why o sec e)) (range_with_len 0 (kind.count o sec))

-- a fault of the whole section is told of its entry 0, and then its entries are not looked at
abbrev pub faults_after : ℕ → Option Why → List SpecialFault → List SpecialFault
faults_after sec None of_entries = of_entries
faults_after sec (Some why) of_entries = fault_at sec 0 (Some why)

abbrev pub section_faults : {A : Type 0} → EntryKind A → Elf → ℕ → List SpecialFault
section_faults kind o sec = faults_after sec (kind.section_why o sec) (entry_faults kind o sec)

-- the faults of all sections of the kind, in order
abbrev pub faults : {A : Type 0} → EntryKind A → Elf → List SpecialFault
faults kind o = flat_map (section_faults kind o) (sections_named o kind.name)
