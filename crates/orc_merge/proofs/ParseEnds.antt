-- How reading a table's bytes ends.
use Rattle.std.proofs.Common.{◌≡◌, ℕ, ◌^◌, ◌<◌, ◌≤◌, ◌⊎◌, List, Option, Some, None, inl, inr, refl, sym, ◌∙◌, ap, subst, length, arith}
use Rattle.std.proofs.lemmas.List.{length-map}
use Rattle.ot_base.specs.declared.row.Row.{Row}
use Rattle.table_defs.specs.Lookup.{AddressedRow}
use Rattle.orc_walk.specs.Rows.{addressed_row, rows_of}
use Rattle.orc_merge.specs.declared.faults.TableFault.{TableFault}
use Rattle.orc_merge.specs.declared.faults.TableFault.TheVariants.{Bad, NoMemory}
use Rattle.orc_merge.specs.Merged.{IsMergedTable}
use Rattle.orc_merge.specs.TableBytes.{table_bytes}
use Rattle.orc_merge.specs.TableFaults.{row_count, first_bad, head_fault, wrong_address, wrong_row, IsTableFault}
use Rattle.orc_merge.specs.TableRows.{HasHead, rows_read}
use Rattle.orc_merge.proofs.TableLemmas.{AreBytes, table_again, read_table, length_read}
use Rattle.orc_merge.proofs.TableSteps.{begins, head_is_bad, address_is_bad, row_is_bad}
use Rattle.orc_merge.proofs.Written.{accepted, again}

-- a fault that is told at an offset
abbrev pub IsToldAt : Option ℕ → TableFault → Type 0
IsToldAt told fault = (off : ℕ) × (told ≡ Some off) × (fault ≡ Bad off)

pub head_told : (bytes : List ℕ) (fault : TableFault) → IsToldAt (head_fault bytes) fault → IsTableFault bytes fault
head_told bytes fault told = subst (IsTableFault bytes) (sym told.2) (head_is_bad bytes told.0 told.1)

pub address_told : (bytes : List ℕ) (count : ℕ) (fault : TableFault) → HasHead bytes count → IsToldAt (wrong_address bytes) fault → IsTableFault bytes fault
address_told bytes count fault head told = subst (IsTableFault bytes) (sym told.2) (address_is_bad bytes told.0 head.fits told.1)

row_told : (bytes : List ℕ) (count : ℕ) (fault : TableFault) → HasHead bytes count → wrong_address bytes ≡ None → IsToldAt (wrong_row bytes) fault → IsTableFault bytes fault
row_told bytes count fault head rises told = subst (IsTableFault bytes) (sym told.2) (row_is_bad bytes told.0 head.fits rises told.1)

pub items_told : (bytes : List ℕ) (count : ℕ) (fault : TableFault) → HasHead bytes count → wrong_address bytes ≡ None → (fault ≡ NoMemory) ⊎ IsToldAt (wrong_row bytes) fault → IsTableFault bytes fault
items_told bytes count fault head rises (inl want) = subst (IsTableFault bytes) (sym want) tt
items_told bytes count fault head rises (inr told) = row_told bytes count fault head rises told

-- bytes of a table have no such fault
pub no_table : (bytes : List ℕ) (fault : TableFault) → IsTableFault bytes fault → (rows : List AddressedRow) → IsMergedTable rows → bytes ≡ table_bytes rows → fault ≡ NoMemory
no_table bytes (Bad off) told rows is same = absurd (let e : None ≡ Some off = sym (accepted rows is) ∙ ap first_bad (sym same) ∙ told in cc)
no_table bytes NoMemory told rows is same = refl

-- the rows that were read are those of the table
pub same_rows : (bytes : List ℕ) (count : ℕ) (read : List AddressedRow) → HasHead bytes count → read ≡ rows_read bytes count → (rows : List AddressedRow) → IsMergedTable rows → bytes ≡ table_bytes rows → read ≡ rows
same_rows bytes count read head read_is rows is same =
    read_is
    ∙ ap (rows_read bytes) (sym head.count_is)
    ∙ ap (λ bs. rows_read bs (row_count bs)) same
    ∙ again rows is

-- a table was read
pub whole : (bytes : List ℕ) (count : ℕ) (read : List AddressedRow) → AreBytes bytes → HasHead bytes count → wrong_row bytes ≡ None → read ≡ rows_read bytes count → table_bytes read ≡ bytes
whole bytes count read small head clean read_is = ap table_bytes read_is ∙ table_again bytes count small head clean (begins bytes count head)

pub is_table : (bytes : List ℕ) (count : ℕ) (read : List AddressedRow) → AreBytes bytes → HasHead bytes count → wrong_row bytes ≡ None → read ≡ rows_read bytes count → IsMergedTable read
is_table bytes count read small head clean read_is = subst IsMergedTable (sym read_is) (read_table bytes count small head clean)

pub few_items : (bytes : List ℕ) (count : ℕ) (items : List (ℕ × Row)) → HasHead bytes count → rows_of items ≡ rows_read bytes count → length items < 2 ^ 32
few_items bytes count items head is =
    let few : count ≤ 4000000 = head.few in
    omega (arith, length-map items addressed_row, ap length is, length_read bytes count)
