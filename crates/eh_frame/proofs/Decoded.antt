-- What decoding a section comes to.
use Rattle.std.proofs.Common.{◌≡◌, ◌≢◌, ℕ, ◌<◌, ◌≤◌, ◌⊎◌, true, false, List, [], ◌++◌, length, take, drop, Some, refl, sym, ◌∙◌, ap, subst, inl, inr, Result, Ok, Err}
use Rattle.std.specs.Prelude.{codes, All, IsPermutation, IfErr, IfOk, IsOkUnless}
use Rattle.std.specs.List.Sorted.{IsNonDecreasingBy}
use Rattle.std.proofs.lemmas.List.{take-append-drop}
use Rattle.elf_objects.specs.declared.symbol.Reloc.{Reloc}
use Rattle.elf_objects.specs.Elf.{Elf}
use Rattle.elf_objects.specs.Contents.{relocs_at, section_at}
use Rattle.orc_bytes.specs.Sections.{section_named}
use Rattle.orc_bytes.proofs.Named.{body_at, relocs_at_named}
use Rattle.eh_frame.specs.declared.fault.EhFault.{EhFault}
use Rattle.eh_frame.specs.declared.fault.EhFault.TheVariants.{BadRecord, BadReloc, NoMemory}
use Rattle.eh_frame.specs.declared.rule.PlacedRule.{PlacedRule}
use Rattle.eh_frame.specs.Records.{cie, terminator, relocs_in, HoldsRules}
use Rattle.eh_frame.specs.Faults.{FirstFault, HasFrames, Refuses}
use Rattle.eh_frame.specs.Faults as faults
use Rattle.eh_frame.specs.Cursor.{begins_below}
use Rattle.eh_frame.specs.Found.{ReadsRecords}
use Rattle.eh_frame.proofs.Excluded.{fault_excludes}
use Rattle.eh_frame.proofs.RelocOrder.{all_above, in_front, none_below, some_below}

pub has_frames : (object : Elf) (i : ℕ) (body : List ℕ) → Some i ≡ section_named object (codes ".eh_frame") → i < length object.sections → i < length object.relocs → body ≡ (section_at object i).body → HasFrames object body (relocs_at object i)
has_frames object i body named known related e = record {
  bytes = body_at object (codes ".eh_frame") i (sym named) known ∙ ap (λ (bs : List ℕ). Some bs) (sym e);
  told = relocs_at_named object (codes ".eh_frame") i (sym named) related;
}

-- behind the CIE
pub behind_cie : (body : List ℕ) → take 24 body ≡ cie → body ≡ cie ++ drop 24 body
behind_cie body h = sym (take-append-drop 24 body) ∙ ap (λ (bs : List ℕ). bs ++ drop 24 body) h

pub has_behind : (object : Elf) (body : List ℕ) (relocs : List Reloc) → take 24 body ≡ cie → HasFrames object body relocs → HasFrames object (cie ++ drop 24 body) relocs
has_behind object body relocs h has = subst (λ (bs : List ℕ). HasFrames object bs relocs) (behind_cie body h) has

-- a relocation in the CIE
pub in_cie : (object : Elf) (body : List ℕ) (relocs sorted : List Reloc) → take 24 body ≡ cie → HasFrames object body relocs → IsPermutation relocs sorted → begins_below sorted 24 ≡ true → FirstFault object (BadReloc 0)
in_cie object body relocs sorted h has same below =
    faults.cie_reloc relocs (drop 24 body) (has_behind object body relocs h has) (λ none. some_below 24 sorted below ((in_front relocs sorted 24 same).0 none))

-- none is there
pub none_in_cie : (relocs sorted : List Reloc) → IsPermutation relocs sorted → IsNonDecreasingBy (λ r. r.offset) sorted → begins_below sorted 24 ≡ false → relocs_in relocs 0 24 ≡ []
none_in_cie relocs sorted same up below = (in_front relocs sorted 24 same).1 (all_above 24 sorted (none_below 24 sorted up below))

-- all records are read
pub reads_hold : (object : Elf) (body : List ℕ) (relocs : List Reloc) (rules : List PlacedRule) → take 24 body ≡ cie → HasFrames object body relocs → relocs_in relocs 0 24 ≡ [] → ReadsRecords object relocs (drop 24 body) rules → HoldsRules object rules
reads_hold object body relocs rules h has first read = record {
  entries = read.entries;
  holds = record {
    relocs = relocs;
    told = has.told;
    bytes = read.own;
    body = has.bytes ∙ ap (λ (bs : List ℕ). Some bs) (behind_cie body h ∙ ap (λ (bs : List ℕ). cie ++ bs) read.whole);
    first = first;
    each = read.each;
    last = read.last;
  };
  told = read.told;
}

-- sections that hold rules have no fault
pub no_fault : (object : Elf) (rules : List PlacedRule) (fault : EhFault) → FirstFault object fault → HoldsRules object rules → ⊥
no_fault object rules fault first holds = fault_excludes object holds.entries fault first holds.holds

-- they are refused for want of memory alone
pub only_memory : {T : Type 0} (object : Elf) (rules : List PlacedRule) (r : Result T EhFault) → IfErr r (Refuses object) → HoldsRules object rules → IsOkUnless r NoMemory
only_memory object rules (Ok x) refuses holds = tt
only_memory object rules (Err e) (inl memory) holds = memory
only_memory object rules (Err e) (inr first) holds = absurd (no_fault object rules e first holds)
