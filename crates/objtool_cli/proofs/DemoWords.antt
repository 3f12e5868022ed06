-- The number of `demo N` is at most 100,000.
use Rattle.std.proofs.Common.{◌≡◌, ℕ, ◌≤◌, Bool, true, false, List, [], ◌∷◌, Option, Some, None, Ok, refl, arith}
use Rattle.std.specs.Prelude.{◌&&◌, ◌||◌, bytes_eq, codes, if◌then◌else◌, nat_le, option_map}
use Rattle.std.specs.Str.Parse.{digits_value}
use Rattle.std.proofs.lemmas.Bool.Decides.{nat_tests}
use Rattle.cli_words.specs.Grammar.{Command, asked, command_meaning, demo, find, first_meaning, help, line_meaning, lone_meaning, meaning, or_missing, unless, version}
use Rattle.cli_words.specs.Numbers.{address_of, is_numeral, number_of}
use Rattle.cli_words.specs.Words.{Word, command_named}
use Rattle.cli_words.specs.declared.fault.UsageKind.{UsageKind}
use Rattle.cli_words.specs.declared.word.CommandWord.{CommandWord}
use Rattle.cli_words.specs.declared.word.CommandWord.TheVariants as the
use Rattle.objtool_cli.specs.Words.{Meaning}

-- ---- of its word

right_of : (a b : Bool) → (a && b) ≡ true → b ≡ true
right_of true b h = h
right_of false b h = cc

is_small : (n : ℕ) → nat_le n 100000 ≡ true → n ≤ 100000
is_small n h = grind (arith, nat_tests)

number_small : (word : Word) (n : ℕ) → number_of word ≡ Some n → n ≤ 100000
unfolding number_of
number_small word n h = by (is_numeral word && nat_le (digits_value 10 word) 100000) refl h
  where
    by : (b : Bool) → (is_numeral word && nat_le (digits_value 10 word) 100000) ≡ b → ◌≡◌ {A = Option ℕ} (if b then Some (digits_value 10 word) else None) (Some n) → n ≤ 100000
    by true both is =
        let small = is_small (digits_value 10 word) (right_of (is_numeral word) _ both) in
        let same : digits_value 10 word ≡ n = cc in
        omega (arith, small, same)
    by false both is = let none : ◌≡◌ {A = Option ℕ} None (Some n) = is in cc

-- ---- of the words behind the command

number_asked : (found : Option ℕ) (n : ℕ) → option_map demo found ≡ Some (demo n) → found ≡ Some n
number_asked None n h = let none : ◌≡◌ {A = Option Command} None (Some (demo n)) = h in cc
number_asked (Some m) n h = let same : ◌≡◌ {A = Option Command} (Some (demo m)) (Some (demo n)) = h in cc

no_find : (table : Word) (found : Option ℕ) (n : ℕ) → option_map (find table) found ≡ Some (demo n) → ⊥
no_find table None n h = let none : ◌≡◌ {A = Option Command} None (Some (demo n)) = h in cc
no_find table (Some address) n h = let same : ◌≡◌ {A = Option Command} (Some (find table address)) (Some (demo n)) = h in cc

asked_small : (command : CommandWord) (names words : List Word) (n : ℕ) → asked command names words ≡ Some (demo n) → n ≤ 100000
unfolding asked
asked_small the.Demo (word ∷ []) words n h = number_small word n (number_asked (number_of word) n h)
asked_small the.Demo [] words n h = cc
asked_small the.Demo (a ∷ b ∷ rest) words n h = cc
asked_small the.Check [] words n h = cc
asked_small the.Check (a ∷ []) words n h = cc
asked_small the.Check (a ∷ b ∷ []) words n h = cc
asked_small the.Check (a ∷ b ∷ c ∷ rest) words n h = cc
asked_small the.Dump [] words n h = cc
asked_small the.Dump (a ∷ []) words n h = cc
asked_small the.Dump (a ∷ b ∷ rest) words n h = cc
asked_small the.Unwind [] words n h = cc
asked_small the.Unwind (a ∷ []) words n h = cc
asked_small the.Unwind (a ∷ b ∷ []) words n h = cc
asked_small the.Unwind (a ∷ b ∷ c ∷ rest) words n h = cc
asked_small the.Sites [] words n h = cc
asked_small the.Sites (a ∷ []) words n h = cc
asked_small the.Sites (a ∷ b ∷ []) words n h = cc
asked_small the.Sites (a ∷ b ∷ c ∷ rest) words n h = cc
asked_small the.List [] words n h = cc
asked_small the.List (a ∷ []) words n h = cc
asked_small the.List (a ∷ b ∷ rest) words n h = cc
asked_small the.Entry [] words n h = cc
asked_small the.Entry (a ∷ []) words n h = cc
asked_small the.Entry (a ∷ b ∷ rest) words n h = cc
asked_small the.Cfi [] words n h = cc
asked_small the.Cfi (a ∷ []) words n h = cc
asked_small the.Cfi (a ∷ b ∷ []) words n h = cc
asked_small the.Cfi (a ∷ b ∷ c ∷ rest) words n h = cc
asked_small the.Cfa [] words n h = cc
asked_small the.Cfa (a ∷ []) words n h = cc
asked_small the.Cfa (a ∷ b ∷ rest) words n h = cc
asked_small the.Merge [] words n h = cc
asked_small the.Merge (a ∷ []) words n h = cc
asked_small the.Merge (a ∷ b ∷ []) words n h = cc
asked_small the.Merge (a ∷ b ∷ c ∷ rest) words n h = cc
asked_small the.Show [] words n h = cc
asked_small the.Show (a ∷ []) words n h = cc
asked_small the.Show (a ∷ b ∷ rest) words n h = cc
asked_small the.Explain [] words n h = cc
asked_small the.Explain (a ∷ []) words n h = cc
asked_small the.Explain (a ∷ b ∷ rest) words n h = cc
asked_small the.Find [] words n h = cc
asked_small the.Find (a ∷ []) words n h = cc
asked_small the.Find (a ∷ b ∷ []) words n h = absurd (no_find a (address_of b) n h)
asked_small the.Find (a ∷ b ∷ c ∷ rest) words n h = cc

not_missing : (found : Option Command) (at : ℕ) (c : Command) → or_missing found at ≡ Ok c → found ≡ Some c
not_missing None at c h = cc
not_missing (Some d) at c h = cc

not_faulty : (fault : Option (ℕ × UsageKind)) (meaning : Meaning) (c : Command) → unless fault meaning ≡ Ok c → meaning ≡ Ok c
not_faulty None meaning c h = h
not_faulty (Some fault) meaning c h = cc

line_small : (command : CommandWord) (words : List Word) (n : ℕ) → line_meaning command words ≡ Ok (demo n) → n ≤ 100000
unfolding line_meaning
line_small command words n h = asked_small command _ words n (not_missing _ _ _ (not_faulty _ _ _ h))

-- ---- of all words

lone_not_demo : (word : Word) (words : List Word) (n : ℕ) → lone_meaning word words ≡ Some (demo n) → ⊥
lone_not_demo word [] n h = by (bytes_eq word (codes "--help") || bytes_eq word (codes "-h")) (bytes_eq word (codes "--version") || bytes_eq word (codes "-V")) h
  where
    by : (a b : Bool) → ◌≡◌ {A = Option Command} (if a then Some help else if b then Some version else None) (Some (demo n)) → ⊥
    by true b is = let other : ◌≡◌ {A = Option Command} (Some help) (Some (demo n)) = is in cc
    by false true is = let other : ◌≡◌ {A = Option Command} (Some version) (Some (demo n)) = is in cc
    by false false is = let other : ◌≡◌ {A = Option Command} None (Some (demo n)) = is in cc
lone_not_demo word (next ∷ rest) n h = cc

command_small : (command : Option CommandWord) (words : List Word) (n : ℕ) → command_meaning command words ≡ Ok (demo n) → n ≤ 100000
command_small (Some command) words n h = line_small command words n h
command_small None words n h = cc

first_small : (lone : Option Command) (word : Word) (words : List Word) (n : ℕ) → (lone ≡ Some (demo n) → ⊥) → first_meaning lone word words ≡ Ok (demo n) → n ≤ 100000
first_small (Some c) word words n other h = absurd (other cc)
first_small None word words n other h = command_small (command_named word) words n h

pub demo_small : (words : List Word) (n : ℕ) → meaning words ≡ Ok (demo n) → n ≤ 100000
unfolding meaning
demo_small [] n h = cc
demo_small (word ∷ words) n h = first_small (lone_meaning word words) word words n (lone_not_demo word words n) h
