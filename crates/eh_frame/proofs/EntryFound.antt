-- The entry at the beginning of some bytes, and the relocation that comes next.
use Rattle.std.proofs.Common.{◌≡◌, ℕ, ◌+◌, ◌<◌, ◌≤◌, List, [], ◌∷◌, length, drop, Some, None, sym, ◌∙◌, subst, arith}
use Rattle.std.specs.Prelude.{All}
use Rattle.std.specs.List.Sorted.{IsNonDecreasingBy}
use Rattle.elf_objects.specs.declared.symbol.Reloc.{Reloc}
use Rattle.elf_objects.specs.Elf.{Elf, SectionEntry}
use Rattle.elf_objects.specs.Contents.{section_at}
use Rattle.eh_frame.specs.declared.fault.EhFault.TheVariants.{BadRecord, BadReloc}
use Rattle.eh_frame.specs.Records.{IsEntry, NamesSection, PutsAddress, relocs_in}
use Rattle.eh_frame.specs.Faults.{IsInOrder, RecordFault}
use Rattle.eh_frame.specs.Faults as faults
use Rattle.eh_frame.specs.Cursor.{only_below, relocs_below, AreFrom}
use Rattle.eh_frame.proofs.RelocOrder.{IsOnly, only_is, only_isnt}

same_reloc : {a b : Reloc} → (a ∷ []) ≡ (b ∷ []) → a ≡ b
same_reloc h = cc

module _ (object : Elf) (relocs : List Reloc) (at least : ℕ) (bytes : List ℕ) (left : List Reloc) (size : ℕ) (spelled : List ℕ) (entry : IsEntry at bytes size spelled (drop (17 + length spelled) bytes)) (up : IsNonDecreasingBy (λ r. r.offset) left) (from : AreFrom relocs at left) where
  abbrev end : ℕ
  end = at + 17 + length spelled

  -- where none is the only one of the record
  pub no_reloc : only_below left (at + 17 + length spelled) ≡ None → RecordFault object relocs at least bytes (BadReloc at)
  no_reloc none = faults.entry_reloc size spelled (drop (17 + length spelled) bytes) entry (λ sec section names. only_isnt end left names.reloc up none (from.only end names.reloc names.one))

  module _ (reloc : Reloc) (found : only_below left (at + 17 + length spelled) ≡ Some reloc) where
    is : IsOnly left end reloc
    is = only_is end left reloc up found

    one : relocs_in relocs at end ≡ reloc ∷ []
    one = from.one end reloc is.one

    -- where it doesn't put the address of a text section there
    pub no_address : ((sec : ℕ) (section : SectionEntry) → PutsAddress object reloc at sec section → ⊥) → RecordFault object relocs at least bytes (BadReloc at)
    no_address never = faults.entry_reloc size spelled (drop (17 + length spelled) bytes) entry (λ sec section names.
        never sec section (subst (λ (r : Reloc). PutsAddress object r at sec section) (same_reloc (sym names.one ∙ one)) names.address))

    module _ (sec : ℕ) (address : PutsAddress object reloc at sec (section_at object sec)) where
      pub names_section : NamesSection object relocs at (at + 17 + length spelled) sec (section_at object sec)
      names_section = record { reloc = reloc; one = one; address = address }

      -- where the section has another size or comes too early
      pub out_of_order : (IsInOrder size least sec (section_at object sec) → ⊥) → RecordFault object relocs at least bytes (BadRecord at)
      out_of_order never = faults.entry_section size spelled (drop (17 + length spelled) bytes) sec (section_at object sec) entry names_section never

    pub others : All (λ r. at + 17 + length spelled ≤ r.offset) (drop 1 left)
    others = is.others

    pub some : 1 ≤ length left
    some = is.some
