-- An object that is checked has nothing that keeps it from being checked, nor have its bytes; its program has one list of rows, and
-- warnings where its list of them isn't empty.
use Rattle.std.proofs.Common.{◌≡◌, ℕ, ◌≤◌, List, [], ◌∷◌, length, refl, sym, ap, ◌∙◌, arith, subst}
use Rattle.std.specs.Prelude.{◌≢◌, Contains, Some, None, Option}
use Rattle.std.proofs.Math.Path.{fun_ext}
use Rattle.ot_base.specs.NameLists.{NameLists}
use Rattle.ot_base.specs.declared.row.PlacedRow.{PlacedRow}
use Rattle.ot_base.specs.declared.warning.Warning.{Warning}
use Rattle.state_defs.specs.declared.state.State.{State}
use Rattle.machine_defs.specs.Program.{Program}
use Rattle.machine_defs.specs.Kept.{AreKeptStates}
use Rattle.machine_defs.specs.Rows.{rows_of}
use Rattle.elf_objects.specs.Elf.{Elf}
use Rattle.elf_objects.specs.Object.{IsObject}
use Rattle.elf_objects.specs.declared.fault.Counted.TheVariants as counted
use Rattle.elf_objects.proofs.FirstFault.{FirstFault-not}
use Rattle.x86_map.specs.declared.map.Map.{Map}
use Rattle.flow_defs.specs.Coded.{Coded, coded_by}
use Rattle.x86_decode.specs.Decoding.{OneOutcome}
use Rattle.object_check.specs.Order.{IsCheckable, IsCheckFault, crowded, has_orc, most_sections, no_memory, orc_section, unflowed, unlinked}
use Rattle.object_check.specs.Outcome.{HasRows}
use Rattle.object_check.specs.declared.fault.CheckFault.{CheckFault}
use Rattle.object_check.specs.declared.fault.CheckFault.TheVariants as fault
use Rattle.command_base.proofs.DumpLaws.{one_object}
use Rattle.command_base.specs.declared.refusal.Refusal.{Refusal}
use Rattle.command_base.specs.declared.refusal.Refusal.TheVariants as refusal
use Rattle.objtool_cli.specs.Checked.{IsUncheckable, TellsCheckFault, malformed, unchecked}
use Rattle.code_commands.proofs.NoFault.{none_and_some, not_unflowed, not_unlinked}

not_faulty : OneOutcome → (o : Coded) (lists : NameLists) (why : CheckFault) → why ≢ fault.NoMemory → IsCheckable o lists → IsCheckFault o lists why → ⊥
not_faulty one o lists why some can (unlinked told other h) = not_unlinked one o lists told other can.in_order.linked h
not_faulty one o lists why some can (unflowed told other linked h) = not_unflowed o told other can.in_order.flow h
not_faulty one o lists why some can (has_orc sec order at) = none_and_some (orc_section o.elf) sec can.new at
not_faulty one o lists why some can (crowded order new many) =
    let few : length o.elf.sections ≤ most_sections = can.few in
    absurd (omega (arith, few, many))
not_faulty one o lists why some can no_memory = some refl

-- no refusal tells why it isn't checked
pub not_told : OneOutcome → (o : Coded) (lists : NameLists) (told : Refusal) → IsCheckable o lists → TellsCheckFault o lists told → ⊥
not_told one o lists (refusal.Unlinked told) can h = not_faulty one o lists _ (λ e. cc) can h.0
not_told one o lists (refusal.Unflowed told) can h = not_faulty one o lists _ (λ e. cc) can h
not_told one o lists (refusal.HasOrc sec) can h = not_faulty one o lists _ (λ e. cc) can h
not_told one o lists (refusal.HasSites sec) can h = h
not_told one o lists (refusal.Sites why) can h = h
not_told one o lists (refusal.HasFrames sec) can h = h
not_told one o lists (refusal.Frames why) can h = h
not_told one o lists (refusal.Layout why) can h = h
not_told one o lists (refusal.TooManyFiles count) can h = h
not_told one o lists (refusal.Merge why) can h = h
not_told one o lists (refusal.Table why) can h = h
not_told one o lists (refusal.NoFunction function) can h = h
not_told one o lists (refusal.TooMany counted.Sections count) can h = not_faulty one o lists _ (λ e. cc) can h
not_told one o lists (refusal.TooMany counted.Symbols count) can h = h
not_told one o lists (refusal.TooMany counted.TextBytes count) can h = h
not_told one o lists (refusal.Malformed why) can h = h
not_told one o lists (refusal.Orc why) can h = h
not_told one o lists (refusal.Lists why) can h = h
not_told one o lists (refusal.Image why) can h = h
not_told one o lists (refusal.NoText sec) can h = h
not_told one o lists (refusal.Unplaced why) can h = h

-- ---- its bytes

-- and nothing keeps them from being checked
pub checkable_unrefused : OneOutcome → (map : Map) (bytes : List ℕ) (lists : NameLists) (o : Elf) (told : Refusal) → IsObject bytes o → IsCheckable (coded_by map o) lists → IsUncheckable map bytes lists told → ⊥
checkable_unrefused one map bytes lists o told is can (malformed fault) = FirstFault-not bytes _ fault is.well_formed
checkable_unrefused one map bytes lists o told is can (unchecked p other tells) = not_told one (coded_by map o) lists told can (subst (λ (x : Elf). TellsCheckFault (coded_by map x) lists told) (one_object bytes p o other is) tells)

-- ---- the rows of a program

same_state : (a b : Option State) → ((s : State) → a ≡ Some s → b ≡ Some s) → ((s : State) → b ≡ Some s → a ≡ Some s) → a ≡ b
same_state None None there back = refl
same_state None (Some s) there back = back s refl
same_state (Some s) b there back = sym (there s refl)

same_states : (p : Program) (one other : ℕ → Option State) → AreKeptStates p one → AreKeptStates p other → one ≡ other
same_states p one other h k = fun_ext (λ q. same_state (one q) (other q) (λ s e. (k q s).1 ((h q s).0 e)) (λ s e. (h q s).1 ((k q s).0 e)))

pub one_rows : (p : Program) (rows others : List PlacedRow) → HasRows p rows → HasRows p others → rows ≡ others
one_rows p rows others h k = h.is ∙ ap (rows_of p) (same_states p h.states k.states h.kept k.kept) ∙ sym k.is

-- ---- its warnings

-- where there are some, there is one
pub some_contained : (warnings : List Warning) → warnings ≢ [] → (w : Warning) × Contains warnings w
some_contained [] some = absurd (some refl)
some_contained (w ∷ warnings) some = (w, (0, omega arith, refl))
