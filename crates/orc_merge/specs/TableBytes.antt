-- The bytes of a table of merged rows.
use Rattle.std.specs.Prelude.{ℕ, List, [], ◌∷◌, ◌++◌, flat_map, length}
use Rattle.byteorder.specs.Endian.{little_bytes}
use Rattle.table_defs.specs.Lookup.{AddressedRow}
use Rattle.orc_bytes.specs.RowBytes.{bytes_of_row}

-- `ORCM`, and the version's number 1 in four bytes
abbrev pub magic : List ℕ
magic = 0x4F ∷ 0x52 ∷ 0x43 ∷ 0x4D ∷ 1 ∷ 0 ∷ 0 ∷ 0 ∷ []

-- the addresses of rows, eight bytes each, low byte first
abbrev pub address_bytes : List AddressedRow → List ℕ
address_bytes rows = flat_map (λ row. little_bytes 8 row.address) rows

-- the rows themselves, six bytes each
abbrev pub row_section : List AddressedRow → List ℕ
row_section rows = flat_map (λ row. bytes_of_row row.row) rows

-- a table: eight bytes by which it is known, the number of its rows in eight bytes, low byte first, their addresses, and the rows
unfoldable pub table_bytes : List AddressedRow → List ℕ
table_bytes rows = magic ++ (little_bytes 8 (length rows) ++ (address_bytes rows ++ row_section rows))
