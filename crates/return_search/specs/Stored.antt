-- What numbers are stored for entries and exits.
use Rattle.std.specs.Prelude.{ℕ, Option, Some, None, [], ◌∷◌, ◌==◌, find, unwrap_or, if◌then◌else◌}
use Rattle.return_search.specs.declared.stored.TheConstants.{NO_ENTRY, CALLS_NEVER, CALLS_OUT, LEAVES, PASSES}
use Rattle.return_search.specs.declared.searched_flow.Exit.{Exit}
use Rattle.return_search.specs.declared.searched_flow.Exit.TheVariants.{Leaves, Calls, CallsOut, CallsNever, Passes}

-- the number that is stored for an entry, if there is one
abbrev pub number_of : Option ℕ → ℕ
number_of entry = unwrap_or entry NO_ENTRY

-- the entry, if there is one, for which a number is stored
abbrev pub entry_stored_as : ℕ → Option ℕ
entry_stored_as number = if number == NO_ENTRY then None else Some number

-- the number that is stored for an exit
abbrev pub code_of : Exit → ℕ
code_of Leaves = LEAVES
code_of (Calls entry) = entry
code_of CallsOut = CALLS_OUT
code_of CallsNever = CALLS_NEVER
code_of Passes = PASSES

-- the exit for which a number is stored: one that names no entry, or else the call of the entry with the number
abbrev pub exit_stored_as : ℕ → Exit
exit_stored_as code = unwrap_or (find (λ exit. code_of exit == code) (Leaves ∷ CallsOut ∷ CallsNever ∷ Passes ∷ [])) (Calls code)
