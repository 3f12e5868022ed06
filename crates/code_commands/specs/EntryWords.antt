-- The entry rules that words ask for.
use Rattle.std.specs.Prelude.{Bool, true, ◌||◌, if◌then◌else◌}
use Rattle.cli_words.specs.declared.options.EntryRules.{EntryRules}
pub use Rattle.entry_rules.specs.declared.options.EntryOptions.{EntryOptions}

-- an option of the words names an entry rule
abbrev pub names_a_rule : EntryRules → Bool
names_a_rule rules = rules.noinstr || (rules.sls || rules.ibt)

-- those of the checker that the words ask for: those that their options name, or all where they name none
abbrev pub entry_options : EntryRules → EntryOptions
entry_options rules =
    if names_a_rule rules then record { noinstr = rules.noinstr; sls = rules.sls; ibt = rules.ibt }
    else record { noinstr = true; sls = true; ibt = true }
