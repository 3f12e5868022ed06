-- What backtraces need of the warnings of an object.
use Rattle.std.proofs.Common.{◌≡◌, ℕ, List, Option, arith, refl, sym, subst}
use Rattle.std.specs.Prelude.{true, ℤ}
use Rattle.ot_base.specs.NameLists.{NameLists}
use Rattle.ot_base.specs.declared.options.Options.{Options}
use Rattle.ot_base.specs.declared.place.Place.{Place}
use Rattle.ot_base.specs.declared.rules.TheConstants.{STATE_MISMATCH}
use Rattle.ot_base.specs.declared.warning.Warning.{Warning}
use Rattle.cli_words.specs.declared.options.CheckOptions.{CheckOptions}
use Rattle.elf_objects.specs.Elf.{Elf}
use Rattle.state_defs.specs.declared.state.State.{State}
use Rattle.machine_defs.specs.Program.{Program}
use Rattle.machine_defs.specs.Kept.{AreKeptStates}
use Rattle.machine_defs.specs.Allowances.{Allowances}
use Rattle.machine_defs.specs.AccessRules.{AccessWarns, call_with_access, off_twice, on_twice, popf, return_with_access, return_without_access, safe_turns_off}
use Rattle.machine_defs.specs.Asked.{IsWarned, indirect_branch, naked_return, of_access, of_stack}
use Rattle.machine_defs.specs.Broken.{IsBroken, Warns, always, unreachable, without_frame}
use Rattle.program_graph.specs.declared.parts.GraphParts.{GraphParts}
use Rattle.program_graph.specs.Tells.{Tells}
use Rattle.kept_states.specs.LevelStates.{at}
use Rattle.flow_defs.specs.Coded.{Coded}
use Rattle.flow_defs.specs.Program.{program_of}
use Rattle.object_law.specs.Flows.{ProgramIsLaidOut, ProgramIsOne}
use Rattle.object_check.specs.Code.{IsCodeFault, IsCodeOf, no_memory, unflowed, unlinked}
use Rattle.object_check.specs.Order.{IsCheckFault}
use Rattle.object_check.specs.Order as order
use Rattle.object_check.specs.Outcome.{AreWarnings}
use Rattle.object_check.specs.Told.{check_fault}
use Rattle.object_check.specs.declared.code.ReadCode.{ReadCode}
use Rattle.object_check.specs.declared.fault.CodeFault.{CodeFault}
use Rattle.command_base.specs.declared.status.Status.{Status}
use Rattle.command_base.specs.declared.stop.CommandStop.TheVariants as stop
use Rattle.command_base.specs.Outside.{Output}
use Rattle.command_base.specs.Printing as printing
use Rattle.command_base.specs.BacktraceCases.{IsWarnedOf}
use Rattle.command_base.specs.BacktracePrinting.{PrintsBacktraces, silent, tells}
use Rattle.objtool_cli.specs.Checked.{program_under}
use Rattle.objtool_cli.specs.Telling.{TellsWarnings, backtraces, printed, unread}

-- why the code isn't read is why the object isn't checked
pub code_unread : (o : Coded) (lists : NameLists) (fault : CodeFault) → IsCodeFault o lists fault → IsCheckFault o lists (check_fault fault)
code_unread o lists fault (unlinked why known is) = order.unlinked why known is
code_unread o lists fault (unflowed why known linked is) = order.unflowed why known linked is
code_unread o lists fault no_memory = order.no_memory

-- ---- what is warned of by rule 4 is a mismatch of states
module _ (p : Program) (allowed : Allowances) (options : Options) where
  of_broken : (place : Place) (rule : ℕ) (a b : ℤ) → IsBroken p options place rule a b → rule ≡ STATE_MISMATCH → Warns p place rule a b
  of_broken place rule a b (always at number x y w) e = w
  of_broken place rule a b (unreachable q asked accepted first) e = absurd (omega (arith, e))
  of_broken place rule a b (without_frame q s asked kept call fentry broken) e = absurd (omega (arith, e))

  of_access_rule : (place : Place) (rule : ℕ) (a b : ℤ) → AccessWarns p allowed place rule a b → rule ≡ STATE_MISMATCH → ⊥
  of_access_rule place rule a b (call_with_access q home callee reached calls) e = omega (arith, e)
  of_access_rule place rule a b (return_with_access q reached leaves) e = omega (arith, e)
  of_access_rule place rule a b (return_without_access q reached leaves) e = omega (arith, e)
  of_access_rule place rule a b (on_twice q home reached is) e = omega (arith, e)
  of_access_rule place rule a b (off_twice q owner reached of is) e = omega (arith, e)
  of_access_rule place rule a b (safe_turns_off q access reached is) e = omega (arith, e)
  of_access_rule place rule a b (popf q home reached is) e = omega (arith, e)

  is_mismatch : (place : Place) (rule : ℕ) (a b : ℤ) → IsWarned p allowed options place rule a b → rule ≡ STATE_MISMATCH → Warns p place rule a b
  is_mismatch place rule a b (of_stack at number x y broken) e = of_broken place rule a b broken e
  is_mismatch place rule a b (indirect_branch q asked point is listed later) e = absurd (omega (arith, e))
  is_mismatch place rule a b (naked_return q asked point is listed later) e = absurd (omega (arith, e))
  is_mismatch place rule a b (of_access at number x y asked warns) e = absurd (of_access_rule place rule a b warns e)

-- ---- what is printed of an object whose code is read again
pub warned_of : ProgramIsOne → ProgramIsLaidOut → (o : Coded) (lists : NameLists) (options : Options) (allowed : Allowances) (code : ReadCode) (parts : GraphParts) (kept : List (Option State)) (warnings : List Warning) → parts ≡ code.graph.parts → IsCodeOf o lists options code → AreKeptStates (program_of o lists) (at kept) → AreWarnings (program_of o lists) allowed options warnings
    → IsWarnedOf (program_of o lists) parts (at kept) warnings
warned_of one laid o lists options allowed code parts kept warnings same is are warned = record {
  tells = subst (λ (ps : GraphParts). Tells (program_of o lists) ps) (sym same) is.graph.tells;
  is_program = one o lists is.graph.object;
  hints = (laid o lists is.graph.object).hint_points;
  kept = are;
  mismatches = λ w known rule. is_mismatch (program_of o lists) allowed options w.place w.rule w.a w.b ((warned.all w).0 known) rule;
}

pub backtraced : (input : List ℕ) (options : CheckOptions) (lists : NameLists) (o : Elf) (warnings : List Warning) (kept : List (Option State)) (before after : Output) (s : Status) → options.backtrace ≡ true → AreKeptStates (program_under options lists o) (at kept) → PrintsBacktraces o input (program_under options lists o) (at kept) warnings before after s → TellsWarnings input options lists o warnings before after s
backtraced input options lists o warnings kept before after s asked are (tells text is prints) = printed text (backtraces (at kept) asked are is) prints
backtraced input options lists o warnings kept before after s asked are (silent same) = unread stop.NoMemory tt (printing.silent refl same)
