-- What holds of the entries of special sections without a fault.
use Rattle.std.proofs.Common.{◌≡◌, ℕ, zero, suc, ◌+◌, ◌*◌, ◌<◌, ◌≤◌, Bool, true, false, cond, is_none, List, [], ◌∷◌, ◌++◌, length, filter, find, bytes_eq, Option, Some, None, refl, sym, ap, subst, ◌∙◌, arith, length-append}
use Rattle.std.specs.List.{range_with_len, flat_map}
use Rattle.std.proofs.lemmas.List.FromFn.{length-map-range_with_len, get_or-map-range_with_len}
use Rattle.elf_objects.specs.declared.symbol.Reloc.{Reloc}
use Rattle.elf_objects.specs.Contents.{elf_of, relocs_at, relocs_of, section_at, section_entry}
use Rattle.elf_objects.specs.Elf.{Elf}
use Rattle.elf_objects.specs.File.{section_count}
use Rattle.elf_objects.specs.Object.{IsObject, IsWellFormed}
use Rattle.special_sections.specs.declared.fault.SpecialFault.{SpecialFault}
use Rattle.special_sections.specs.declared.fault.Why.{Why}
use Rattle.special_sections.specs.Kinds.{EntryKind, entries, entry_faults, faults, faults_after, section_entries, section_faults, sections_named}
use Rattle.special_sections.specs.Reasons.{fault_at}
use Rattle.special_sections.proofs.Relas.{relocs_fit}
use Rattle.special_sections.proofs.Totals.{total, total_le, sum_of, sum_passing, sum_range}

pub left_none : {A : Type 0} (xs ys : List A) → xs ++ ys ≡ [] → xs ≡ []
left_none [] ys none = refl
left_none (x ∷ xs) ys none = cc

pub right_none : {A : Type 0} (xs ys : List A) → xs ++ ys ≡ [] → ys ≡ []
right_none [] ys none = none
right_none (x ∷ xs) ys none = cc

none_at : {A : Type 0} (f : ℕ → List A) (a n k : ℕ) → flat_map f (range_with_len a n) ≡ [] → k < n → f (a + k) ≡ []
none_at f a zero k none inside = absurd (omega arith)
none_at f a (suc n) zero none inside = ap f {x = a + zero} {y = a} (omega arith) ∙ left_none (f a) (flat_map f (range_with_len (a + 1) n)) none
none_at f a (suc n) (suc k) none inside =
    ap f {x = a + suc k} {y = a + 1 + k} (omega arith)
    ∙ none_at f (a + 1) n k (right_none (f a) (flat_map f (range_with_len (a + 1) n)) none) (omega arith)

no_reason : (sec e : ℕ) (why : Option Why) → fault_at sec e why ≡ [] → why ≡ None
no_reason sec e None none = refl
no_reason sec e (Some why) none = cc

no_why : (sec : ℕ) (w : Option Why) (of_entries : List SpecialFault) → faults_after sec w of_entries ≡ [] → of_entries ≡ []
no_why sec None of_entries none = none
no_why sec (Some why) of_entries none = cc

pub first_false : (x : Bool) (why : Why) (rest : Option Why) → cond x (Some why) rest ≡ None → x ≡ false
first_false true why rest none = cc
first_false false why rest none = refl

pub some_found : (p : Reloc → Bool) (relocs : List Reloc) → is_none (find p relocs) ≡ false → 1 ≤ length relocs
some_found p [] found = cc
some_found p (r ∷ relocs) found = omega arith

-- where a section has no fault, none of its entries is refused
pub not_refused : {A : Type 0} (kind : EntryKind A) (o : Elf) (sec e : ℕ) → section_faults kind o sec ≡ [] → e < kind.count o sec → kind.why o sec e ≡ None
not_refused kind o sec e none inside =
    let right : entry_faults kind o sec ≡ [] = no_why sec (kind.section_why o sec) (entry_faults kind o sec) none in
    no_reason sec e (kind.why o sec e) (subst (λ k. fault_at sec k (kind.why o sec k) ≡ []) {x = 0 + e} {y = e} (omega arith) (none_at (λ k. fault_at sec k (kind.why o sec k)) 0 (kind.count o sec) e right inside))

-- so many bytes for each entry
pub record IsPerEntry (bytes : ℕ → ℕ) : Type 0 where
  pub none : bytes 0 ≡ 0
  pub adds : (m n : ℕ) → bytes (m + n) ≡ bytes m + bytes n

-- a kind whose sections without a fault have so many bytes of relocations for each entry
abbrev pub HasRoom : {A : Type 0} → (ℕ → ℕ) → EntryKind A → Elf → Type 0
HasRoom bytes kind o = (sec : ℕ) → section_faults kind o sec ≡ [] → bytes (length (section_entries kind o sec)) ≤ 24 * length (relocs_at o sec)

sections_few : {A : Type 0} (bytes : ℕ → ℕ) (per : IsPerEntry bytes) (kind : EntryKind A) (o : Elf) (secs : List ℕ) → HasRoom bytes kind o → flat_map (section_faults kind o) secs ≡ [] → bytes (length (flat_map (section_entries kind o) secs)) ≤ sum_of (λ s. 24 * length (relocs_at o s)) secs
sections_few bytes per kind o [] room none = omega (arith, per.none)
sections_few bytes per kind o (s ∷ secs) room none =
    let here : bytes (length (section_entries kind o s)) ≤ 24 * length (relocs_at o s) = room s (left_none (section_faults kind o s) (flat_map (section_faults kind o) secs) none) in
    let rest : bytes (length (flat_map (section_entries kind o) secs)) ≤ sum_of (λ s. 24 * length (relocs_at o s)) secs = sections_few bytes per kind o secs room (right_none (section_faults kind o s) (flat_map (section_faults kind o) secs) none) in
    let sum : sum_of (λ s. 24 * length (relocs_at o s)) (s ∷ secs) ≡ 24 * length (relocs_at o s) + sum_of (λ s. 24 * length (relocs_at o s)) secs = refl in
    let two : bytes (length (flat_map (section_entries kind o) (s ∷ secs))) ≡ bytes (length (section_entries kind o s)) + bytes (length (flat_map (section_entries kind o) secs)) =
    ap bytes (length-append (section_entries kind o s) (flat_map (section_entries kind o) secs)) ∙ per.adds (length (section_entries kind o s)) (length (flat_map (section_entries kind o) secs)) in
    omega arith

few_of : {A : Type 0} (bytes : ℕ → ℕ) (per : IsPerEntry bytes) (kind : EntryKind A) (b : List ℕ) → IsWellFormed b → HasRoom bytes kind (elf_of b) → faults kind (elf_of b) ≡ [] → bytes (length (entries kind (elf_of b))) ≤ length b
few_of bytes per kind b well room none =
    let n : ℕ = section_count b in
    let g : ℕ → ℕ = λ s. 24 * length (relocs_at (elf_of b) s) in
    let sections : length (elf_of b).sections ≡ n = length-map-range_with_len (section_entry b) 0 n in
    let named : ℕ → Bool = λ s. bytes_eq (section_at (elf_of b) s).name kind.name in
    let few : bytes (length (entries kind (elf_of b))) ≤ sum_of g (filter named (range_with_len 0 (length (elf_of b).sections))) = sections_few bytes per kind (elf_of b) (sections_named (elf_of b) kind.name) room none in
    let fewer : sum_of g (filter named (range_with_len 0 (length (elf_of b).sections))) ≤ sum_of g (range_with_len 0 (length (elf_of b).sections)) = sum_passing g named (range_with_len 0 (length (elf_of b).sections)) in
    let all : sum_of g (range_with_len 0 (length (elf_of b).sections)) ≡ total (λ k. g (0 + k)) n = ap (λ m. sum_of g (range_with_len 0 m)) sections ∙ sum_range g 0 n in
    let at : (k : ℕ) → k < n → relocs_at (elf_of b) (0 + k) ≡ relocs_of b k = λ k l. get_or-map-range_with_len (relocs_of b) 0 n (0 + k) k [] (omega arith) (omega arith) in
    let same : total (λ k. g (0 + k)) n ≤ total (λ s. 24 * length (relocs_of b s)) n = total_le (λ k. g (0 + k)) (λ s. 24 * length (relocs_of b s)) n (λ k l. omega (arith, ap (λ (rs : List Reloc). 24 * length rs) (at k l))) in
    let fit : total (λ s. 24 * length (relocs_of b s)) n ≤ length b = relocs_fit b well in
    omega arith

-- the relocations of all sections are in the file, so its bytes are as many for each entry
pub few_entries : {A : Type 0} (bytes : ℕ → ℕ) (per : IsPerEntry bytes) (kind : EntryKind A) (b : List ℕ) (o : Elf) → IsObject b o → HasRoom bytes kind o → faults kind o ≡ [] → bytes (length (entries kind o)) ≤ length b
few_entries bytes per kind b o is room none =
    subst (λ x. bytes (length (entries kind x)) ≤ length b) (sym is.says) (few_of bytes per kind b is.well_formed (subst (HasRoom bytes kind) is.says room) (subst (λ x. faults kind x ≡ []) is.says none))
