-- The rows of the matches: one more, and the defaults at the end.
use Rattle.std.proofs.Common.{◌≡◌, Bool, true, false, cond, ◌||◌, List, [], ◌∷◌, ◌++◌, Option, Some, None, is_some, find, fold, bytes_eq, refl, sym, ap, subst, ◌∙◌, append-nil, true≢false}
use Rattle.std.specs.Option.{option_or}
use Rattle.std.proofs.lemmas.List.Folds.{find-append}
use Rattle.std.proofs.lemmas.Slice.Eq.{bytes_eq-Decides}
use Rattle.clap.specs.Walk.{Row, Rule, Text, at_row, default_rows, has_row, more_values, reading_by, with_default, with_values, without}
use Rattle.clap.specs.declared.parser.ValueSource.TheVariants.{CommandLine, DefaultValue}

-- the row of an id
abbrev pub look : Text → List Row → Option Row
look id rows = find (λ r. bytes_eq r.id id) rows

pub has_row_look : (id : Text) (rows : List Row) → has_row id rows ≡ is_some (look id rows)
has_row_look id [] = refl
has_row_look id (r ∷ rows) = go (bytes_eq r.id id) (has_row_look id rows)
  where
    go : (b : Bool) → has_row id rows ≡ is_some (look id rows) → (b || has_row id rows) ≡ is_some (cond b (Some r) (look id rows))
    go true e = refl
    go false e = e

pub neither : (a b : Bool) → (a || b) ≡ false → (a ≡ false) × (b ≡ false)
neither true b e = absurd (true≢false e)
neither false b e = (refl, e)

at_absent : (id : Text) (change : Row → List Row) (missing rows : List Row) → has_row id rows ≡ false → at_row id change missing rows ≡ rows ++ missing
at_absent id change missing [] e = refl
at_absent id change missing (r ∷ rows) e =
    let both = neither (bytes_eq r.id id) (has_row id rows) e in
    rw both.0 (ap (λ rs. r ∷ rs) (at_absent id change missing rows both.1))

-- the row of a use that is the first of its argument
abbrev pub set_row : Rule → List Text → Row
set_row a values = record { id = a.id; values = values; count = None; source = Some CommandLine; reading = reading_by a }

pub set_appends : (a : Rule) (values : List Text) (rows : List Row) → has_row a.id rows ≡ false
    → with_values a.id (reading_by a) CommandLine values (without a.id rows) ≡ rows ++ set_row a values ∷ []
set_appends a values rows e =
    ap (λ rs. with_values a.id (reading_by a) CommandLine values rs) (at_absent a.id (λ _. []) [] rows e ∙ append-nil rows)
    ∙ at_absent a.id (more_values CommandLine values) (set_row a values ∷ []) rows e

or_none : {X : Type 0} (o : Option X) → o ≡ option_or o None
or_none None = refl
or_none (Some x) = refl

-- the default row of an argument, where it has one
abbrev pub default_row : Rule → List Row
default_row a = default_rows a.id (reading_by a) a.defaults []

no_default : (id : Text) (a : Rule) (values : List Text) → bytes_eq a.id id ≡ false → look id (default_rows a.id (reading_by a) values []) ≡ None
no_default id a [] e = refl
no_default id a (v ∷ vs) e = rw e refl

some_or : {X : Type 0} (o p : Option X) → is_some o ≡ true → o ≡ option_or o p
some_or None p e = absurd (true≢false (sym e))
some_or (Some x) p e = refl

kept : (id : Text) (a : Rule) (rows : List Row) → has_row a.id rows ≡ true → (b : Bool) → bytes_eq a.id id ≡ b → look id rows ≡ option_or (look id rows) (look id (default_row a))
kept id a rows e true same =
    let is : has_row id rows ≡ true = subst (λ i. has_row i rows ≡ true) ((bytes_eq-Decides a.id id).0 same) e in
    some_or (look id rows) _ (sym (has_row_look id rows) ∙ is)
kept id a rows e false other = or_none (look id rows) ∙ ap (option_or (look id rows)) (sym (no_default id a a.defaults other))

added : (id : Text) (a : Rule) (values : List Text) (rows : List Row) → has_row a.id rows ≡ false
    → look id (default_rows a.id (reading_by a) values rows) ≡ option_or (look id rows) (look id (default_rows a.id (reading_by a) values []))
added id a [] rows e = or_none (look id rows)
added id a (v ∷ vs) rows e =
    ap (look id) (at_absent a.id (more_values DefaultValue (v ∷ vs)) _ rows e) ∙ find-append (λ r. bytes_eq r.id id) rows _

look_default : (id : Text) (a : Rule) (rows : List Row) → look id (with_default rows a) ≡ option_or (look id rows) (look id (default_row a))
look_default id a rows = go (has_row a.id rows) refl
  where
    go : (b : Bool) → has_row a.id rows ≡ b → look id (cond b rows (default_rows a.id (reading_by a) a.defaults rows)) ≡ option_or (look id rows) (look id (default_row a))
    go true e = kept id a rows e (bytes_eq a.id id) refl
    go false e = added id a a.defaults rows e

-- the row of an id with the defaults of these arguments
abbrev pub with_defaults : Text → List Rule → Option Row → Option Row
with_defaults id rules found = fold (λ o a. option_or o (look id (default_row a))) found rules

pub look_finished : (id : Text) (rules : List Rule) (rows : List Row) → look id (fold with_default rows rules) ≡ with_defaults id rules (look id rows)
look_finished id [] rows = refl
look_finished id (a ∷ rules) rows = look_finished id rules (with_default rows a) ∙ ap (with_defaults id rules) (look_default id a rows)
