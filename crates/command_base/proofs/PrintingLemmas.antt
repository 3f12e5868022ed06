-- What printing needs and says of what is found.
use Rattle.std.proofs.Common.{◌≡◌, ℕ, ◌<◌, List, length, map, sym, ◌∙◌, subst}
use Rattle.std.specs.Prelude.{All, Option}
use Rattle.std.proofs.lemmas.List.Elements.{All-weaker}
use Rattle.ot_base.specs.declared.warning.Warning.{Warning}
use Rattle.elf_objects.specs.Elf.{Elf}
use Rattle.state_defs.specs.declared.state.State.{State}
use Rattle.machine_defs.specs.Program.{Program}
use Rattle.machine_defs.specs.IsProgram.{IsProgram}
use Rattle.machine_defs.specs.Kept.{AreKeptStates}
use Rattle.program_graph.specs.declared.parts.GraphParts.{GraphParts}
use Rattle.program_graph.specs.Tells.{Tells}
use Rattle.kept_states.specs.LevelStates.{at}
use Rattle.state_ways.specs.declared.steps.WayStep.{WayStep}
use Rattle.state_ways.specs.Ways.{AreWays}
use Rattle.command_base.specs.declared.status.Status.{Status}
use Rattle.command_base.specs.declared.status.Status.TheVariants as status
use Rattle.command_base.specs.Outside.{Output}
use Rattle.command_base.specs.Printing.{Prints}
use Rattle.command_base.specs.declared.backtrace_cases.Case.{Case}
use Rattle.command_base.specs.BacktraceCases.{IsCase, IsWarnedOf, cases_text}
use Rattle.command_base.specs.BacktracePrinting.{PrintsBacktraces, tells}
use Rattle.command_base.specs.BacktraceText.{AreBacktraced}
use Rattle.command_base.specs.BacktraceWithin.{AreStepsWithin, IsCaseWithin}
use Rattle.command_base.proofs.CaseLemmas.{are_told, case_within, steps_within}

module _ (p : Program) (parts : GraphParts) (kept : List (Option State)) (ways : List (List WayStep)) (warnings : List Warning) (same : length kept ≡ length parts.points.items) (paths : length ways ≡ length parts.points.items) (warned : IsWarnedOf p parts (at kept) warnings) where
  count : length parts.points.items ≡ p.count
  count = sym warned.tells.count

  pub ready_steps : AreWays p ways → AreStepsWithin (length parts.points.items) ways
  ready_steps are = subst (λ (n : ℕ). AreStepsWithin n ways) warned.tells.count (steps_within p kept ways (same ∙ count) (paths ∙ count) warned.kept are)

  pub ready_cases : (cases : List Case) → AreWays p ways → All (IsCase p (at kept)) cases → All (IsCaseWithin (length parts.points.items)) cases
  ready_cases cases are all =
      All-weaker (IsCase p (at kept)) (IsCaseWithin (length parts.points.items))
      (λ c is. subst (λ (n : ℕ). IsCaseWithin n c) warned.tells.count (case_within p kept ways (same ∙ count) (paths ∙ count) warned.kept are c is)) cases all

  pub cases_told : (o : Elf) (input : List ℕ) (cases : List Case) (before after : Output) (s : Status) → AreWays p ways → map (λ (c : Case). c.warning) cases ≡ warnings → All (IsCase p (at kept)) cases → Prints status.Warnings (cases_text o input p (at kept) ways cases) before after s → PrintsBacktraces o input p (at kept) warnings before after s
  cases_told o input cases before after s are lines all printed =
      tells (cases_text o input p (at kept) ways cases)
      (subst (λ (ws : List Warning). AreBacktraced o input p (at kept) ws (cases_text o input p (at kept) ways cases)) lines (are_told p kept ways (same ∙ count) (paths ∙ count) warned.kept are o input cases all)) printed
