use Rattle.std.proofs.Common.{◌≡◌, ◌⊎◌, inl, inr, ℕ, ◌^◌, ◌<◌, List, Option, Some, length, sym, ap, ◌∙◌, Result, Ok, Err, arith}
use Rattle.std.specs.Prelude.{IfErr, IfOk, IsOkUnless}
use Rattle.std.proofs.lemmas.Result.{IfOk-weaker}
use Rattle.ot_base.specs.declared.row.PlacedRow.{PlacedRow}
use Rattle.elf_objects.specs.Elf.{Elf}
use Rattle.orc_bytes.specs.declared.fault.OrcFault.{OrcFault}
use Rattle.orc_bytes.specs.declared.fault.OrcFault.TheVariants.{NoMemory}
use Rattle.orc_bytes.specs.Faults.{HasParts, OrcParts, Refuses}
use Rattle.orc_bytes.specs.Sections.{HoldsOrc, row_section}
use Rattle.orc_bytes.proofs.Excluded.{fault_excludes, rows_long}
use Rattle.orc_bytes.proofs.reading.decode.Goals as goal

-- sections that hold rows are refused for want of memory alone
only_memory : {T : Type 0} (object : Elf) (rows : List PlacedRow) (r : Result T OrcFault) → IfErr r (Refuses object) → HoldsOrc object rows → IsOkUnless r NoMemory
only_memory object rows (Ok x) refuses holds = tt
only_memory object rows (Err e) (inl memory) holds = memory
only_memory object rows (Err e) (inr first) holds = absurd (fault_excludes object rows e first holds)

pub returns-in_err-parts-clause-only : goal.returns-in_err-parts-clause-only
returns-in_err-parts-clause-only c = λ rows holds. absurd (fault_excludes c.args.object.now rows _ c.in_err-parts.ensures.err holds)

pub returns-clause-only : goal.returns-clause-only
returns-clause-only c = λ rows holds. only_memory c.args.object.now rows c.read_rows.result c.read_rows.ensures.err holds

pub overflow_cast-count : goal.overflow_cast-count
overflow_cast-count c = record { fits = let short = c.in_ok-parts.ensures.short in omega arith }

same_table : (one other : List ℕ) → ◌≡◌ {A = Option (List ℕ)} (Some one) (Some other) → one ≡ other
same_table one other e = cc

-- no more rows than the body's bytes
few_rows : (object : Elf) (parts : OrcParts) (rows : List PlacedRow) → HasParts object parts → length parts.table < 2 ^ 32 → HoldsOrc object rows → length rows < 2 ^ 32
few_rows object parts rows has short holds =
    let same : parts.table ≡ row_section rows = same_table parts.table (row_section rows) (sym has.table ∙ holds.table) in
    omega (arith, short, ap length same, rows_long rows)

pub returns-clause-few : goal.returns-clause-few
returns-clause-few c = IfOk-weaker c.read_rows.result _ _ (λ rows holds. few_rows c.args.object.now _ rows.items c.in_ok-parts.ensures.ok.0 c.in_ok-parts.ensures.short holds) c.read_rows.ensures.ok
