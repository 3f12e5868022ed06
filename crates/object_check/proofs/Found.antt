-- What the check of an object's program says of the object.
use Rattle.std.proofs.Common.{◌≡◌, ◌≤◌, List, Option, Bor, length, option_copied, sym, ap, subst, arith}
use Rattle.std.specs.Prelude.{All, AllPairs}
use Rattle.std.proofs.lemmas.List.Elements.{All-contains}
use Rattle.ot_base.specs.declared.options.Options.{Options}
use Rattle.ot_base.specs.declared.row.PlacedRow.{PlacedRow}
use Rattle.ot_base.specs.NameLists.{NameLists}
use Rattle.flow_defs.specs.Coded.{Coded}
use Rattle.elf_objects.specs.declared.TheConstants.{MAX_FILE_BYTES}
use Rattle.machine_defs.specs.Rows.{rows_of}
use Rattle.table_defs.specs.Order.{ComesBefore}
use Rattle.table_defs.specs.Walks.{WalksToFrames}
use Rattle.program_graph.specs.declared.parts.GraphParts.{GraphParts}
use Rattle.unwinding_law.proofs.Lists.{all_of}
use Rattle.program_check.specs.declared.allowance_table.AllowanceTable.{AllowanceTable}
use Rattle.flow_defs.specs.Program.{program_of}
use Rattle.object_law.specs.EntryLaws.{ProgramHasFunctions}
use Rattle.option_law.specs.Access.{AccessLaw}
use Rattle.option_law.specs.Branches.{BranchLaw}
use Rattle.option_law.specs.Frames.{FrameLaw}
use Rattle.object_check.specs.Allowances.{allowances_of}
use Rattle.object_law.specs.Flows.{ObjectIsInOrder, ProgramIsLaidOut, ProgramIsOne}
use Rattle.object_law.specs.ObjectLaws.{ObjectUnwinds, PointsAscend}
use Rattle.object_law.specs.Rows.{IsPlacedRow, RowsAreFew, RowsArePlaced}
use Rattle.object_law.specs.SymbolLaws.{RowsAreNamed}
use Rattle.object_law.specs.Named.{IsNamed}
use Rattle.orc_output.specs.Tables.{CanHaveTables, IsRowIn}
use Rattle.eh_frame.specs.RowFrames.{IsFrameRow}
use Rattle.object_check.specs.Code.{CanHaveRows, IsFound}
use Rattle.object_check.specs.Counts.{IsCounted}
use Rattle.object_check.specs.Order.{IsCheckable, IsInOrder}
use Rattle.object_check.specs.Outcome.{IsOutcome, OnAccepted}
use Rattle.object_check.specs.Promises.{KeepsPromises}
use Rattle.object_check.specs.RowLaws.{RowsAscend, RowsTellFrames}
use Rattle.object_check.specs.Ready.{IsGraphOf, IsOutcomeOf, IsReady, IsTableOf}
use Rattle.object_check.specs.Unwinding.{RowsUnwind}
use Rattle.object_check.specs.declared.counts.CodeCounts.{CodeCounts}
use Rattle.object_check.specs.declared.outcome.ObjectVerdict.{ObjectVerdict}
use Rattle.object_check.specs.declared.outcome.ObjectVerdict.TheVariants.{Accepted, Broken}
use Rattle.object_check.proofs.OrcSections.{all_other}

pub ready : (o : Coded) (lists : NameLists) (parts : GraphParts) → ProgramIsOne → ProgramIsLaidOut → PointsAscend → ProgramHasFunctions → IsGraphOf o lists parts → IsReady (program_of o lists) parts
ready o lists parts one laid ascend functions is = record {
  tells = is.tells;
  is_program = one o lists is.object;
  laid = laid o lists is.object;
  ascending = ascend o lists;
  functions = functions o lists;
}

-- a table that is lent is the table
pub lent_table : (o : Coded) (lists : NameLists) (options : Options) (table : Option AllowanceTable) (lent : Option (Bor AllowanceTable)) → option_copied lent ≡ table → IsTableOf (program_of o lists) (allowances_of o lists options) table → IsTableOf (program_of o lists) (allowances_of o lists options) (option_copied lent)
lent_table o lists options table lent same is = subst (IsTableOf (program_of o lists) (allowances_of o lists options)) (sym same) is

-- what was found of the program of an object in order
pub is_found : (o : Coded) (lists : NameLists) (options : Options) (counts : CodeCounts) (outcome : ObjectVerdict)
    → IsInOrder o lists → IsCounted o counts → IsOutcomeOf (program_of o lists) (allowances_of o lists options) options counts outcome → IsFound o lists options outcome
is_found o lists options counts (Accepted rows told) order counted found = (order, found.0, found.1, subst (IsCounted o) (sym found.2) counted)
is_found o lists options counts (Broken warnings) order counted found = (order, found)

-- is the outcome of its check, where it has room for the tables
pub is_outcome : (o : Coded) (lists : NameLists) (options : Options) (outcome : ObjectVerdict) → IsCheckable o lists → IsFound o lists options outcome → IsOutcome o lists options outcome
is_outcome o lists options (Accepted rows told) can found = (can, found.1, found.2, found.3)
is_outcome o lists options (Broken warnings) can found = (can, found.1)

-- a row that lies in a text section that a symbol names
row_in : (o : Coded) (x : PlacedRow) → IsPlacedRow o x → IsNamed o x.place.sec → IsRowIn o.elf x
row_in o x is named = record {
  section = is.section;
  at = is.at;
  text = is.text;
  inside = is.inside;
  named = record { symbol = named.symbol; known = named.known; here = named.here };
  row = is.row;
}

pub can_have_rows : (o : Coded) (lists : NameLists) (options : Options) (counts : CodeCounts) (outcome : ObjectVerdict)
    → RowsArePlaced → RowsAreFew → RowsAreNamed → RowsAscend → RowsTellFrames → ObjectIsInOrder o → IsOutcomeOf (program_of o lists) (allowances_of o lists options) options counts outcome
    → OnAccepted outcome (CanHaveRows o.elf)
can_have_rows o lists options counts (Accepted rows told) are_placed are_few are_named ascend tell order found =
    let has = found.1 in
    let all : List PlacedRow = rows_of (program_of o lists) has.states in
    let placed = are_placed o lists has.states order.object found.0.accepted has.kept in
    let named = are_named o lists has.states order has.kept in
    let each : All (IsRowIn o.elf) all =
    all_of (IsRowIn o.elf) all (λ x c. row_in o x (All-contains (IsPlacedRow o) all x placed c) (All-contains (λ (y : PlacedRow). IsNamed o y.place.sec) all x named c)) in
    record {
      each = subst (All (IsRowIn o.elf)) (sym has.is) each;
      frames = subst (All (λ (x : PlacedRow). IsFrameRow x.row)) (sym has.is) (tell o lists has.states order found.0.accepted has.kept);
      ascend = subst (AllPairs (λ (x y : PlacedRow). ComesBefore x.place y.place)) (sym has.is) (ascend o lists has.states);
      few = omega (arith, are_few o lists has.states order.object, ap length has.is);
    }
can_have_rows o lists options counts (Broken warnings) are_placed are_few are_named ascend tell order found = tt

-- rows that the object can have become its tables, where it has room for them
pub can_have_tables : (o : Coded) (lists : NameLists) (outcome : ObjectVerdict) → length o.elf.bytes ≤ MAX_FILE_BYTES → IsCheckable o lists → OnAccepted outcome (CanHaveRows o.elf) → OnAccepted outcome (CanHaveTables o.elf)
can_have_tables o lists (Accepted rows told) short can have = record {
  each = have.each;
  none = all_other o.elf can.new;
  few = omega (arith, can.few);
  short = short;
  few_rows = have.few;
}
can_have_tables o lists (Broken warnings) short can have = tt

pub rows_unwind : (o : Coded) (lists : NameLists) (options : Options) (counts : CodeCounts) (outcome : ObjectVerdict)
    → ObjectUnwinds → ObjectIsInOrder o → IsInOrder o lists → IsOutcomeOf (program_of o lists) (allowances_of o lists options) options counts outcome
    → OnAccepted outcome (RowsUnwind o lists)
rows_unwind o lists options counts (Accepted rows told) unwinds order right found = λ bases ranges placed m run.
    let has = found.1 in
    subst (λ (all : List PlacedRow). WalksToFrames (program_of o lists) all bases ranges m) (sym has.is)
    (unwinds o lists has.states bases ranges order right.flow found.0.accepted has.kept placed m run)
rows_unwind o lists options counts (Broken warnings) unwinds order right found = tt

-- what the options promise of its runs
pub keeps_promises : (o : Coded) (lists : NameLists) (options : Options) (counts : CodeCounts) (outcome : ObjectVerdict)
    → FrameLaw → BranchLaw → AccessLaw → ProgramIsOne → ProgramHasFunctions → ObjectIsInOrder o
    → IsOutcomeOf (program_of o lists) (allowances_of o lists options) options counts outcome
    → OnAccepted outcome (λ rows. KeepsPromises o lists options)
keeps_promises o lists options counts (Accepted rows told) frames branches access one functions order found =
    let is = one o lists order in
    record {
      frames = λ asked bases placed m run. frames (program_of o lists) (allowances_of o lists options) options bases is placed asked found.0.clean m run;
      branches = λ bases placed m run. branches (program_of o lists) (allowances_of o lists options) options bases is placed found.0.clean m run;
      access = λ asked bases placed m homes run. access (program_of o lists) (allowances_of o lists options) options bases is (functions o lists) placed asked found.0.clean m homes run;
    }
keeps_promises o lists options counts (Broken warnings) frames branches access one functions order found = tt
