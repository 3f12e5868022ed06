-- What is shown of an object's code.
use Rattle.std.proofs.Common.{◌≡◌, ℕ, length, subst, inl, inr}
use Rattle.ot_base.specs.NameLists.{NameLists}
use Rattle.flow_defs.specs.Coded.{Coded}
use Rattle.flow_defs.specs.Program.{program_of}
use Rattle.machine_defs.specs.Program.{Program, IsPoint}
use Rattle.machine_defs.specs.IsProgram.{HintsStandAtPoints, IsCallee, IsProgram}
use Rattle.machine_defs.specs.Allowances.{EntersFunctions}
use Rattle.machine_defs.specs.Kept.{AreKeptStates}
use Rattle.program_graph.specs.Tells.{Tells}
use Rattle.kept_states.specs.LevelStates.{at}
use Rattle.object_law.specs.EntryLaws.{ProgramHasFunctions}
use Rattle.object_law.specs.Flows.{ObjectIsInOrder, ProgramIsLaidOut, ProgramIsOne}
use Rattle.code_listing.specs.Points.{NamesPoints}
use Rattle.code_commands.specs.Show.{IsShownCode}
use Rattle.code_commands.specs.declared.show_code.ShownCode.{ShownCode}

callee_point : (p : Program) (q entry : ℕ) → EntersFunctions p → IsCallee p q entry → IsPoint p entry
callee_point p q entry enters (inl listed) = enters.points entry listed
callee_point p q entry enters (inr may) = may.point

names_points : (p : Program) → IsProgram p → EntersFunctions p → NamesPoints p
names_points p is enters = record {
  entries = λ q entry here role. callee_point p q entry enters (is.calls_entry q entry here role);
  weak_entries = λ q entry sym here role. callee_point p q entry enters (is.calls_weak_entry q entry sym here role);
  saves = is.saves;
}

pub shown_code : ProgramIsOne → ProgramIsLaidOut → ProgramHasFunctions → (linked o : Coded) (lists : NameLists) (shown : ShownCode) → linked ≡ o → ObjectIsInOrder linked → Tells (program_of linked lists) shown.graph.parts → length shown.kept ≡ length shown.graph.parts.points.items → ((p : Program) → Tells p shown.graph.parts → IsProgram p → HintsStandAtPoints p → AreKeptStates p (at shown.kept)) → IsShownCode (program_of o lists) shown
shown_code one laid functions linked o lists shown same order tells points kept =
    let is = one linked lists order in
    subst (λ (x : Coded). IsShownCode (program_of x lists) shown) same (record {
      tells = tells;
      named = names_points (program_of linked lists) is (functions linked lists);
      points = points;
      states = kept (program_of linked lists) tells is (laid linked lists order).hint_points;
    })
