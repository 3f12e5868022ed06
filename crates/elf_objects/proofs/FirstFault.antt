-- Bytes with a first fault are no well-formed object.
use Rattle.std.proofs.Common.{ℕ, List, Result, Ok, Err, IfErr, IsOkUnless, inl, inr, rules, arith}
use Rattle.elf_objects.specs.declared.fault.ElfFault.{ElfFault}
use Rattle.elf_objects.specs.File.{HasTable, TableFault}
use Rattle.elf_objects.specs.File.TableFault.{no_file_header, other_target, no_first_header, first_header_outside, bad_counts, many_sections, headers_outside}
use Rattle.elf_objects.specs.Object.{FirstFault, IsWellFormed, Refuses}
use Rattle.elf_objects.specs.declared.fault.ElfFault.TheVariants.{NoMemory}
use Rattle.elf_objects.specs.Object.FirstFault.{table, bodies, forms, links, names, many_symbols, symbols, relocs, much_text}
use Rattle.elf_objects.specs.Sections.{BodyFault, HasBody}
use Rattle.elf_objects.specs.Sections.BodyFault.{first_not_null, bad_range}
use Rattle.elf_objects.specs.Symbols.{IsSymbol, SymbolFault}
use Rattle.elf_objects.specs.Symbols.SymbolFault.{bad_name, bad_symbol}

pub TableFault-not : (b : List ℕ) (e : ElfFault) → TableFault b e → ¬ HasTable b
TableFault-not b e (no_file_header short is) h = let f = h.file_header in omega arith
TableFault-not b e (other_target f field some is) h = let t = h.target in cc
TableFault-not b e (no_first_header f t extended zero is) h = h.first_header.named extended zero
TableFault-not b e (first_header_outside f t extended at outside is) h = let i = h.first_header.inside extended in omega arith
TableFault-not b e (bad_counts f t first fails is) h = fails h.counts
TableFault-not b e (many_sections f t first counts fails is) h = fails h.few
TableFault-not b e (headers_outside f t first counts few fails is) h = fails h.headers

body-not : (b : List ℕ) (i : ℕ) (e : ElfFault) → BodyFault b i e → ¬ (HasBody b i)
body-not b i e (first_not_null zero ne is) h = ne (h.null zero)
body-not b i e (bad_range null fails is) h = fails h

symbol-not : (b : List ℕ) (k : ℕ) (e : ElfFault) → SymbolFault b k e → ¬ (IsSymbol b k)
symbol-not b k e (bad_name fails is) h = fails h.name
symbol-not b k e (bad_symbol name fails is) h = fails h

pub FirstFault-not : (b : List ℕ) (e : ElfFault) → FirstFault b e → ¬ IsWellFormed b
FirstFault-not b e (table f) h = TableFault-not b e f h.table
FirstFault-not b e (bodies t f) h = body-not b f.index e f.fault (h.bodies f.index f.inside)
FirstFault-not b e (forms t all f) h = f.fault.fails (h.forms f.index f.inside)
FirstFault-not b e (links t all all1 f) h = f.fault.fails (h.links f.index f.inside)
FirstFault-not b e (names t all all1 all2 f) h = f.fault.fails (h.names f.index f.inside)
FirstFault-not b e (many_symbols s f) h = f.fails h.few_symbols
FirstFault-not b e (symbols s few f) h = symbol-not b f.index e f.fault (h.symbols f.index f.inside)
FirstFault-not b e (relocs s f) h =
    let first = f.fault.first in
    first.fault.fails (h.relocs f.index f.inside f.fault.kind first.index first.inside)
FirstFault-not b e (much_text s all f) h = f.fails h.little_text

-- a call that refuses for a fault alone refuses no well-formed object
pub only-well_formed : {X : Type 0} (b : List ℕ) (r : Result X ElfFault) → IfErr r (Refuses (FirstFault b)) → IsWellFormed b → IsOkUnless r NoMemory
only-well_formed b (Ok x) f h = search rules
only-well_formed b (Err e) (inl is) h = is
only-well_formed b (Err e) (inr fault) h = absurd (FirstFault-not b e fault h)
