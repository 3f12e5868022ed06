-- The entries on all topics.
use Rattle.std.specs.Prelude.{ℕ, List, [], ◌++◌, map}
use Rattle.explanations.specs.Entry.{Entry}
use Rattle.explanations.specs.declared.rules_1_to_9.TheConstants as rules_1_to_9_constants
use Rattle.explanations.specs.declared.rules_10_to_19.TheConstants as rules_10_to_19_constants
use Rattle.explanations.specs.declared.rules_21_to_44.TheConstants as rules_21_to_44_constants
use Rattle.explanations.specs.declared.rules_45_to_54.TheConstants as rules_45_to_54_constants
use Rattle.explanations.specs.declared.refusals_of_entries.TheConstants as refusals_of_entries_constants
use Rattle.explanations.specs.declared.refusals_bad.TheConstants as refusals_bad_constants
use Rattle.explanations.specs.declared.files_that_fail.TheConstants as files_that_fail_constants
use Rattle.explanations.specs.declared.refusals_f_to_m.TheConstants as refusals_f_to_m_constants
use Rattle.explanations.specs.declared.refusals_n.TheConstants as refusals_n_constants
use Rattle.explanations.specs.declared.refusals_o_to_z.TheConstants as refusals_o_to_z_constants

-- what a row of the constants says: its topic, its title and its text
abbrev pub stated : record { now : List ℕ } × record { now : List ℕ } × record { now : List ℕ } → Entry
stated row = record { topic = row.0.now; title = row.1.now; text = row.2.now }

-- the rules 1 to 9
unfoldable pub rules_1_to_9 : List Entry
rules_1_to_9 = map stated rules_1_to_9_constants.ROWS

-- the rules 10 to 19
unfoldable pub rules_10_to_19 : List Entry
rules_10_to_19 = map stated rules_10_to_19_constants.ROWS

-- the rules 21 to 44
unfoldable pub rules_21_to_44 : List Entry
rules_21_to_44 = map stated rules_21_to_44_constants.ROWS

-- the rules 45 to 54
unfoldable pub rules_45_to_54 : List Entry
rules_45_to_54 = map stated rules_45_to_54_constants.ROWS

-- the refusals of entries from `Compressed` to `Size`
unfoldable pub refusals_of_entries : List Entry
refusals_of_entries = map stated refusals_of_entries_constants.ROWS

-- the refusals from `bad-bits` to `bad-table`
unfoldable pub refusals_bad : List Entry
refusals_bad = map stated refusals_bad_constants.ROWS

-- the reasons for which files fail, from `file-folder` to `file-too-large`
unfoldable pub files_that_fail : List Entry
files_that_fail = map stated files_that_fail_constants.ROWS

-- the refusals from `frame-relocation` to `missing`
unfoldable pub refusals_f_to_m : List Entry
refusals_f_to_m = map stated refusals_f_to_m_constants.ROWS

-- the refusals from `names-file` to `not-placed`
unfoldable pub refusals_n : List Entry
refusals_n = map stated refusals_n_constants.ROWS

-- the refusals from `opcode` to `wraps`
unfoldable pub refusals_o_to_z : List Entry
refusals_o_to_z = map stated refusals_o_to_z_constants.ROWS

-- those on all topics: the rules by their numbers, then the kinds of refusals, and the reasons for which files fail, by their names
unfoldable pub entries : List Entry
entries = rules_1_to_9 ++ (rules_10_to_19 ++ (rules_21_to_44 ++ (rules_45_to_54 ++ (refusals_of_entries ++ (refusals_bad ++ (files_that_fail ++ (refusals_f_to_m ++ (refusals_n ++ (refusals_o_to_z ++ [])))))))))
