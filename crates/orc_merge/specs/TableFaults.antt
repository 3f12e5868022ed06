-- Where bytes are no table.
use Rattle.std.specs.Prelude.{◌≡◌, ℕ, zero, suc, ◌+◌, ◌*◌, ◌^◌, Bool, not, ◌&&◌, ◌||◌, nat_le, nat_lt, ◌==◌, List, length, drop, slice_index, min, Option, Some, None, option_map, if◌then◌else◌}
use Rattle.std.specs.Option.{option_or}
use Rattle.ot_base.specs.Rows.{zero_row}
use Rattle.ot_base.specs.declared.row.Row.{Row}
use Rattle.ot_base.specs.declared.codes.TheConstants.{REG_SP_INDIRECT, KIND_REGS_PARTIAL}
use Rattle.elf_objects.specs.Number.{half, xword}
use Rattle.table_defs.specs.Lookup.{AddressedRow, comes_before}
use Rattle.orc_bytes.specs.Faults.{row_in}
use Rattle.orc_merge.specs.declared.merged.TheConstants.{MOST_ROWS}
use Rattle.orc_merge.specs.declared.faults.TableFault.{TableFault}
use Rattle.orc_merge.specs.declared.faults.TableFault.TheVariants.{Bad, NoMemory}
use Rattle.orc_merge.specs.TableBytes.{magic}

-- the least number below a bound that passes a test
abbrev pub first_below : (ℕ → Bool) → ℕ → Option ℕ
first_below test zero = None
first_below test (suc n) = option_or (first_below test n) (if test n then Some n else None)

-- the number of rows that the bytes tell
abbrev pub row_count : List ℕ → ℕ
row_count bytes = xword bytes 8

-- where an address and a row stand, by their number, in a table of so many rows
abbrev pub address_at : ℕ → ℕ
address_at i = 16 + 8 * i

abbrev pub row_offset : ℕ → ℕ → ℕ
row_offset count i = 16 + 8 * count + 6 * i

-- an address, and a row with its address, by their number
abbrev pub address_of : List ℕ → ℕ → ℕ
address_of bytes i = xword bytes (address_at i)

abbrev pub table_row : List ℕ → ℕ → AddressedRow
table_row bytes i = record { address = address_of bytes i; row = row_in (drop (row_offset (row_count bytes) i) bytes) }

-- the row before this one; before the first, the row of zeros at address 0, which comes behind none
abbrev pub row_before : List ℕ → ℕ → AddressedRow
row_before bytes zero = record { address = 0; row = zero_row }
row_before bytes (suc i) = table_row bytes i

-- the address before this one, and 0 before the first
abbrev pub address_before : List ℕ → ℕ → ℕ
address_before bytes zero = 0
address_before bytes (suc i) = address_of bytes i

-- the first wrong byte of the first eight, as far as they are there
abbrev pub wrong_magic : List ℕ → Option ℕ
wrong_magic bytes = first_below (λ i. not (slice_index bytes i == slice_index magic i)) (min 8 (length bytes))

-- the end of bytes that are too few for the number of rows
abbrev pub too_short : List ℕ → Option ℕ
too_short bytes = if nat_lt (length bytes) 16 then Some (length bytes) else None

-- the number of rows, where it is too large or doesn't give the length
abbrev pub wrong_count : List ℕ → Option ℕ
wrong_count bytes = if nat_le (row_count bytes) MOST_ROWS && length bytes == row_offset (row_count bytes) (row_count bytes) then None else Some 8

-- the first address that is below the one before it
abbrev pub wrong_address : List ℕ → Option ℕ
wrong_address bytes = option_map address_at (first_below (λ i. nat_lt (address_of bytes i) (address_before bytes i)) (row_count bytes))

-- a row's registers and kind are known, and bits 12 to 15 of its fields are zero
abbrev pub has_known_fields : Row → Bool
has_known_fields row = nat_le row.sp_reg REG_SP_INDIRECT && (nat_le row.bp_reg REG_SP_INDIRECT && nat_le row.kind KIND_REGS_PARTIAL)

abbrev pub holds_row : List ℕ → Bool
holds_row bytes = has_known_fields (row_in bytes) && nat_lt (half bytes 4) (2 ^ 12)

-- A row isn't one, or comes in the order of look-up before the one ahead of it. Where addresses ascend, that is a row of the
-- undefined kind behind another kind at the same address.
abbrev pub is_wrong_row : List ℕ → ℕ → Bool
is_wrong_row bytes i = not (holds_row (drop (row_offset (row_count bytes) i) bytes)) || comes_before (table_row bytes i) (row_before bytes i)

abbrev pub wrong_row : List ℕ → Option ℕ
wrong_row bytes = option_map (row_offset (row_count bytes)) (first_below (is_wrong_row bytes) (row_count bytes))

-- what is wrong in front of the addresses
abbrev pub head_fault : List ℕ → Option ℕ
head_fault bytes = option_or (wrong_magic bytes) (option_or (too_short bytes) (wrong_count bytes))

-- where bytes are no table: the first of these that is there
unfoldable pub first_bad : List ℕ → Option ℕ
first_bad bytes = option_or (head_fault bytes) (option_or (wrong_address bytes) (wrong_row bytes))

-- the fault is where bytes are no table; want of memory says nothing of them
abbrev pub IsTableFault : List ℕ → TableFault → Type 0
IsTableFault bytes (Bad off) = first_bad bytes ≡ Some off
IsTableFault bytes NoMemory = Unit {0}
