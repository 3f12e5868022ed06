-- What is dumped of bytes that unwind an object.
use Rattle.std.proofs.Common.{◌≡◌, ℕ, List, refl, sym, ap, ◌∙◌, subst, inl, inr}
use Rattle.ot_base.specs.declared.row.PlacedRow.{PlacedRow}
use Rattle.elf_objects.specs.Elf.{Elf}
use Rattle.elf_objects.specs.Object.{IsObject}
use Rattle.elf_objects.proofs.FirstFault.{FirstFault-not}
use Rattle.orc_bytes.specs.Sections.{HoldsOrc}
use Rattle.orc_bytes.proofs.Excluded.{fault_excludes}
use Rattle.orc_output.specs.Tables.{with_tables_object}
use Rattle.flow_defs.specs.Coded.{Coded}
use Rattle.ot_base.specs.NameLists.{NameLists}
use Rattle.command_base.specs.declared.status.Status.TheVariants as status
use Rattle.command_base.specs.declared.stop.CommandStop.{CommandStop}
use Rattle.command_base.specs.declared.stop.CommandStop.TheVariants as stop
use Rattle.command_base.specs.Printing.{Concludes, Prints}
use Rattle.objtool_cli.specs.Unwinding.{UnwindsBy}
use Rattle.command_base.specs.Dump.{HoldsNoRows, HoldsRows, malformed, no_memory, no_rows, printed, rows_text, stopped}
use Rattle.composition_law.specs.Laws.{DumpTellsTheRows}

-- bytes are one object
pub one_object : (bytes : List ℕ) (o p : Elf) → IsObject bytes o → IsObject bytes p → o ≡ p
one_object bytes o p h k = h.says ∙ sym k.says

-- what the bytes hold are the rows by which they unwind
pub rows_are : (o : Coded) (lists : NameLists) (written : List ℕ) (unwinds : UnwindsBy o lists written) (p : Elf) (rows : List PlacedRow) → HoldsRows written p rows → (p ≡ with_tables_object o.elf unwinds.rows) × (rows ≡ unwinds.rows)
rows_are o lists written unwinds p rows held =
    let same : p ≡ with_tables_object o.elf unwinds.rows = one_object written p (with_tables_object o.elf unwinds.rows) held.object unwinds.reads_back in
    (same, unwinds.only rows (subst (λ (x : Elf). HoldsOrc x rows) same held.held))

pub text_is : (o p : Elf) (rows others : List PlacedRow) → o ≡ p → rows ≡ others → rows_text o rows ≡ rows_text p others
text_is o p rows others e f = ap (λ (x : Elf). rows_text x rows) e ∙ ap (rows_text p) f

nothing_else : (o : Coded) (lists : NameLists) (written : List ℕ) (unwinds : UnwindsBy o lists written) (why : CommandStop) → HoldsNoRows written why → why ≡ stop.NoMemory
nothing_else o lists written unwinds why (malformed fault) = absurd (FirstFault-not written _ fault unwinds.reads_back.well_formed)
nothing_else o lists written unwinds why (no_rows p is fault) =
    absurd (fault_excludes p unwinds.rows _ fault (subst (λ (x : Elf). HoldsOrc x unwinds.rows) (one_object written (with_tables_object o.elf unwinds.rows) p unwinds.reads_back is) unwinds.holds))
nothing_else o lists written unwinds why no_memory = refl

pub dump_law : DumpTellsTheRows
dump_law o lists written unwinds out out' answer (printed p rows held prints) =
    let are = rows_are o lists written unwinds p rows held in
    inl (subst (λ (text : List ℕ). Prints status.Done text out out' answer) (text_is p (with_tables_object o.elf unwinds.rows) rows unwinds.rows are.0 are.1) prints)
dump_law o lists written unwinds out out' answer (stopped why none concludes) =
    inr (subst (λ (w : CommandStop). Concludes w out out' answer) (nothing_else o lists written unwinds why none) concludes)
