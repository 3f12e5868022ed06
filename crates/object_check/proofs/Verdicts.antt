-- What the verdict of a program's check says of its warnings and rows.
use Rattle.std.proofs.Common.{◌≡◌, List, length, sym, ap, ◌∙◌, subst, arith}
use Rattle.std.specs.Prelude.{Option}
use Rattle.ot_base.specs.declared.options.Options.{Options}
use Rattle.ot_base.specs.declared.row.PlacedRow.{PlacedRow}
use Rattle.ot_base.specs.declared.warning.Warning.{Warning}
use Rattle.state_defs.specs.declared.state.State.{State}
use Rattle.machine_defs.specs.Program.{Program}
use Rattle.machine_defs.specs.Broken.{IsAccepted}
use Rattle.machine_defs.specs.Allowances.{Allowances}
use Rattle.machine_defs.specs.Kept.{AreKeptStates}
use Rattle.machine_defs.specs.Rows.{rows_of}
use Rattle.program_graph.specs.declared.parts.GraphParts.{GraphParts}
use Rattle.kept_states.specs.LevelStates.{at}
use Rattle.program_check.specs.Checkable.{IsPrepared}
use Rattle.program_check.specs.declared.allowance_table.AllowanceTable.{AllowanceTable}
use Rattle.program_check.specs.OptionVerdict.{IsAskable, IsFoundBroken, IsFoundClean}
use Rattle.object_check.specs.Outcome.{AreWarnings, HasRows, IsUnbroken}
use Rattle.object_check.specs.Ready.{IsReady, IsTableOf}

pub can_check : (p : Program) (parts : GraphParts) (states : List (Option State)) → IsReady p parts → AreKeptStates p (at states) → length states ≡ length parts.points.items → IsPrepared p parts states
can_check p parts states ready kept points = record {
  tells = ready.tells;
  is_program = ready.is_program;
  laid = ready.laid;
  ascending = ready.ascending;
  kept = kept;
  points = points ∙ sym ready.tells.count;
}

pub can_ask : (p : Program) (allowed : Allowances) (parts : GraphParts) (states : List (Option State)) (table : Option AllowanceTable) → IsReady p parts → IsTableOf p allowed table → IsPrepared p parts states → IsAskable p allowed parts states table
can_ask p allowed parts states table ready tells can = record { checkable = can; functions = ready.functions; allows = tells }

-- the rows of what was accepted are those of the program
pub accepted : (p : Program) (allowed : Allowances) (options : Options) (parts its : GraphParts) (states kept : List (Option State)) (rows : List PlacedRow)
    → IsPrepared p parts states → IsFoundClean p allowed options parts its states kept
    → ((q : Program) → IsPrepared q its kept → IsAccepted q → rows ≡ rows_of q (at kept))
    → IsUnbroken p allowed options × HasRows p rows
accepted p allowed options parts its states kept rows can is are =
    let own : IsPrepared p its kept = subst (λ (g : GraphParts). IsPrepared p g kept) (sym is.graph) (subst (λ (s : List (Option State)). IsPrepared p parts s) (sym is.kept) can) in
    (record { accepted = is.accepted; clean = is.clean }, record { states = at kept; kept = own.kept; is = are p own is.accepted })

-- the warnings of what was refused are those of the program
pub refused : (p : Program) (allowed : Allowances) (options : Options) (warnings : List Warning) → IsFoundBroken p allowed options warnings → AreWarnings p allowed options warnings
refused p allowed options warnings is = record {
  some = λ none. absurd (omega (arith, is.some, ap length none));
  ascend = is.ascending;
  all = is.all;
}
