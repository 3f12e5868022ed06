-- The table of merged rows, and what look-ups and walks by it tell.
use Rattle.std.proofs.Common.{◌≡◌, ◌≢◌, ◌⊎◌, ℕ, ◌+◌, ◌*◌, ◌≤◌, List, length, sym, ap, ◌∙◌, subst, inl, inr, arith}
use Rattle.std.specs.Prelude.{Some}
use Rattle.elf_objects.specs.declared.TheConstants.{MAX_FILE_BYTES}
use Rattle.table_defs.specs.Lookup.{AddressedRow}
use Rattle.table_defs.specs.declared.frame.Stop.{Stop}
use Rattle.orc_walk.specs.Rows.{row_at}
use Rattle.orc_merge.specs.Alike.{known}
use Rattle.orc_merge.specs.MergedWalk.{StopAlike, TableWalks, ranges_of_all}
use Rattle.orc_merge.specs.MergeFaults.{merge_fault}
use Rattle.orc_merge.specs.TableFaults.{row_count}
use Rattle.orc_merge.specs.TableRows.{rows_read}
use Rattle.orc_merge.specs.declared.faults.MergeFault.{MergeFault}
use Rattle.orc_merge.specs.declared.faults.MergeFault.TheVariants as fault
use Rattle.orc_merge.specs.declared.part.Part.{Part}
use Rattle.orc_merge.proofs.AlikeLemmas.{tell_alike}
use Rattle.orc_merge.proofs.WalkLemmas.{walk_begins, walks_alike}
use Rattle.orc_merge.proofs.Written.{again, long}
use Rattle.command_base.specs.Reading.{merge_stop}
use Rattle.command_base.specs.Alike.{FindAlike, HoldsTable, WalkAlike}
use Rattle.command_base.specs.Merge.{HasNoTable, IsTableOf, no_memory, unmerged}

-- bytes are the table of one list of rows
pub one_table : (bytes : List ℕ) (one other : List AddressedRow) → HoldsTable bytes one → HoldsTable bytes other → one ≡ other
one_table bytes one other h k =
    sym (again one h.table) ∙ ap (λ (b : List ℕ). rows_read b (row_count b)) (sym h.written ∙ k.written) ∙ again other k.table

-- and short enough for `find`
pub short_table : (bytes : List ℕ) (rows : List AddressedRow) → HoldsTable bytes rows → length bytes ≤ MAX_FILE_BYTES
short_table bytes rows h =
    let e : length bytes ≡ 16 + 8 * length rows + 6 * length rows = ap length h.written ∙ long rows h.table in
    let few : length rows ≤ 4000000 = h.table.few in
    omega (arith, e, few)

pub find_alike : (parts : List Part) (table : List ℕ) → IsTableOf parts table → FindAlike table parts
find_alike parts table is part address found among inside finds =
    ap known (finds.row ∙ ap (row_at address) (one_table table finds.rows is.rows finds.holds is.holds)) ∙ tell_alike parts is.rows part is.fits is.merged among address inside

pub walk_alike : (parts : List Part) (table : List ℕ) → IsTableOf parts table → WalkAlike table parts
walk_alike parts table is = record {
  within = λ rows part memory regs frames stop holds among walk stays.
      subst (λ (rs : List AddressedRow). (end : Stop) × TableWalks rs (ranges_of_all parts) memory regs frames end × StopAlike stop end) (one_table table is.rows rows is.holds holds)
      (walks_alike parts is.rows part memory regs frames stop is.fits is.merged among walk stays);
  front = λ rows part memory regs frames all stop end holds among own merged.
      walk_begins parts is.rows part memory regs frames all stop end is.fits is.merged among own
      (subst (λ (rs : List AddressedRow). TableWalks rs (ranges_of_all parts) memory regs all end) (one_table table rows is.rows holds is.holds) merged);
}

-- why there is none
faulty : (parts : List Part) (f : MergeFault) → f ≢ fault.NoMemory → (f ≡ fault.NoMemory) ⊎ (merge_fault parts ≡ Some f) → merge_fault parts ≡ Some f
faulty parts f other (inl want) = absurd (other want)
faulty parts f other (inr is) = is

pub no_table : (parts : List Part) (f : MergeFault) → (f ≡ fault.NoMemory) ⊎ (merge_fault parts ≡ Some f) → HasNoTable parts (merge_stop f)
no_table parts (fault.Place part why) h = unmerged (faulty parts _ (λ e. cc) h)
no_table parts (fault.NotEnded part sec) h = unmerged (faulty parts _ (λ e. cc) h)
no_table parts (fault.Overlaps part sec other_part other_sec) h = unmerged (faulty parts _ (λ e. cc) h)
no_table parts (fault.TooMany count) h = unmerged (faulty parts _ (λ e. cc) h)
no_table parts fault.NoMemory h = no_memory
