-- The frame rule of the last row of a section at or below an offset.
use Rattle.std.proofs.Common.{◌≡◌, ◌≢◌, ℕ, ◌<◌, ◌≤◌, ◌⊎◌, Bool, true, false, cond, List, [], ◌∷◌, ◌++◌, Contains, filter, flat_map, refl, sym, ap, ◌∙◌, subst, inl, inr, arith, append-nil}
use Rattle.std.specs.Prelude.{◌==◌, nat_lt}
use Rattle.std.proofs.lemmas.Bool.{lt-ltb, eq-eqb}
use Rattle.std.proofs.lemmas.Bool.Decides.{nat_tests}
use Rattle.std.proofs.lemmas.List.Elements.{filter-append}
use Rattle.ot_base.specs.Section.{TextSection}
use Rattle.ot_base.specs.declared.row.PlacedRow.{PlacedRow}
use Rattle.ot_base.specs.declared.row.Row.{Row}
use Rattle.state_defs.specs.Row.{zero_row}
use Rattle.machine_defs.specs.Rows.{with_end}
use Rattle.alternatives.proofs.Ascending.{Rising, every-in, in_contains}
use Rattle.unwinding_law.proofs.Lists.{cases, here, nowhere, there}
use Rattle.table_law.proofs.Compress.{AllAbove, IsLastUpTo, Rises, StaysLast}
use Rattle.table_law.proofs.Sections.{end_row}
use Rattle.eh_frame.specs.RowFrames.{rows_in, rule_of_last, rule_of_row}
use Rattle.eh_frame.specs.declared.rule.CfaRule.{CfaRule}
use Rattle.eh_frame.specs.declared.rule.CfaRule.TheVariants.{Undefined}

not_above : (a b : ℕ) → b ≤ a → nat_lt a b ≡ false
not_above a b h = grind (arith, nat_tests)

-- rows above an offset say nothing of it
above_rule : (off : ℕ) (rule : CfaRule) (xs : List PlacedRow) → AllAbove off xs → rule_of_last rule xs off ≡ rule
above_rule off rule [] above = refl
above_rule off rule (z ∷ xs) above =
    let one : nat_lt off z.place.off ≡ true = lt-ltb off z.place.off (above z (here z xs)) in
    ap (λ (b : Bool). cond b rule (rule_of_last (rule_of_row z.row) xs off)) one

-- the last at or below it says its rule
last_rule : (off : ℕ) (rule : CfaRule) (xs : List PlacedRow) (x : PlacedRow) → Rises xs → IsLastUpTo off xs x → rule_of_last rule xs off ≡ rule_of_row x.row
last_rule off rule [] x rises last = nowhere x last.listed
last_rule off rule (z ∷ xs) x rises last =
    let one : nat_lt off z.place.off ≡ false = not_above off z.place.off (first (cases z xs x last.listed)) in
    ap (λ (b : Bool). cond b rule (rule_of_last (rule_of_row z.row) xs off)) one ∙ rest (λ c. last_rule off (rule_of_row z.row) xs x rises.1 (inner c)) (cases z xs x last.listed)
  where
    first : (z ≡ x) ⊎ Contains xs x → z.place.off ≤ off
    first (inl e) = subst (λ (w : PlacedRow). w.place.off ≤ off) (sym e) last.low
    first (inr c) = let rise : z.place.off < x.place.off = rises.0 x c in omega (arith, rise, last.low)

    behind : z ≡ x → AllAbove off xs
    behind e y c = go (let t : (off < y.place.off) ⊎ (y.place.off ≤ off) = grind arith in t)
      where
        rise : z.place.off < y.place.off
        rise = rises.0 y c

        go : (off < y.place.off) ⊎ (y.place.off ≤ off) → off < y.place.off
        go (inl above) = above
        go (inr low) = elim (last.last y (there z xs y c) low) [
          | inl m ↦ let k : z.place.off ≡ x.place.off = ap (λ (w : PlacedRow). w.place.off) e in absurd (omega (arith, rise, m, k))
          | inr same ↦ let k : y.place.off ≡ x.place.off = ap (λ (w : PlacedRow). w.place.off) same in let j : z.place.off ≡ x.place.off = ap (λ (w : PlacedRow). w.place.off) e in absurd (omega (arith, rise, j, k))
        ]

    inner : Contains xs x → IsLastUpTo off xs x
    inner c = record { listed = c; low = last.low; last = λ y d low. last.last y (there z xs y d) low }

    rest : (Contains xs x → rule_of_last (rule_of_row z.row) xs off ≡ rule_of_row x.row) → (z ≡ x) ⊎ Contains xs x → rule_of_last (rule_of_row z.row) xs off ≡ rule_of_row x.row
    rest further (inl e) = above_rule off (rule_of_row z.row) xs (behind e) ∙ ap (λ (w : PlacedRow). rule_of_row w.row) e
    rest further (inr c) = further c

-- a row above the offset at the end says nothing of it
without_last : (off : ℕ) (rule : CfaRule) (xs : List PlacedRow) (e : PlacedRow) → off < e.place.off → rule_of_last rule (xs ++ e ∷ []) off ≡ rule_of_last rule xs off
without_last off rule [] e above = ap (λ (b : Bool). cond b rule (rule_of_row e.row)) (lt-ltb off e.place.off above)
without_last off rule (z ∷ xs) e above = ap (λ (r : CfaRule). cond (nat_lt off z.place.off) rule r) (without_last off (rule_of_row z.row) xs e above)

ended_rule : (text : TextSection) (off : ℕ) (rule : CfaRule) (xs : List PlacedRow) → off < text.size → rule_of_last rule (with_end text xs) off ≡ rule_of_last rule xs off
ended_rule text off rule [] inside = refl
ended_rule text off rule (x ∷ xs) inside = without_last off rule (x ∷ xs) (end_row text) inside

-- so where the row in force stays the last of a section, its rule is that of the section
pub stays_rule : (text : TextSection) (off : ℕ) (xs : List PlacedRow) (r : Row) → off < text.size → Rises xs → StaysLast off zero_row r xs → rule_of_last Undefined (with_end text xs) off ≡ rule_of_row r
stays_rule text off xs r inside rises (inl k) = ended_rule text off Undefined xs inside ∙ last_rule off Undefined xs k.0 rises k.1 ∙ ap rule_of_row k.2
stays_rule text off xs r inside rises (inr k) = ended_rule text off Undefined xs inside ∙ above_rule off Undefined xs k.1 ∙ ap rule_of_row (sym k.0)

-- ---- the rows of one of several sections

abbrev is_of : ℕ → PlacedRow → Bool
is_of sec placed = placed.place.sec == sec

differs : (a b : ℕ) → a ≢ b → (a == b) ≡ false
differs a b h = grind (arith, nat_tests)

all_kept : (sec : ℕ) (xs : List PlacedRow) → ((x : PlacedRow) → Contains xs x → x.place.sec ≡ sec) → filter (is_of sec) xs ≡ xs
all_kept sec [] own = refl
all_kept sec (x ∷ xs) own =
    let one : is_of sec x ≡ true = eq-eqb x.place.sec sec (own x (here x xs)) in
    ap (λ (b : Bool). cond b (x ∷ filter (is_of sec) xs) (filter (is_of sec) xs)) one ∙ ap (λ (rest : List PlacedRow). x ∷ rest) (all_kept sec xs (λ y c. own y (there x xs y c)))

none_kept : (sec : ℕ) (xs : List PlacedRow) → ((x : PlacedRow) → Contains xs x → x.place.sec ≢ sec) → filter (is_of sec) xs ≡ []
none_kept sec [] other = refl
none_kept sec (x ∷ xs) other =
    let one : is_of sec x ≡ false = differs x.place.sec sec (other x (here x xs)) in
    ap (λ (b : Bool). cond b (x ∷ filter (is_of sec) xs) (filter (is_of sec) xs)) one ∙ none_kept sec xs (λ y c. other y (there x xs y c))

module _ (rows : TextSection → List PlacedRow) (own : (text : TextSection) (x : PlacedRow) → Contains (rows text) x → x.place.sec ≡ text.sec) where
  others_dropped : (sec : ℕ) (texts : List TextSection) → ((text : TextSection) → Contains texts text → text.sec ≢ sec) → rows_in (flat_map rows texts) sec ≡ []
  others_dropped sec [] other = refl
  others_dropped sec (text ∷ texts) other =
      filter-append (is_of sec) (rows text) (flat_map rows texts)
      ∙ ap (λ (xs : List PlacedRow). xs ++ filter (is_of sec) (flat_map rows texts)) (none_kept sec (rows text) (λ x c e. other text (here text texts) (sym (own text x c) ∙ e)))
      ∙ others_dropped sec texts (λ t c. other t (there text texts t c))

  -- those of a section are its rows
  pub rows_of_section : (texts : List TextSection) (text : TextSection) → Rising (λ (t u : TextSection). t.sec < u.sec) texts → Contains texts text → rows_in (flat_map rows texts) text.sec ≡ rows text
  rows_of_section [] text rising c = nowhere text c
  rows_of_section (t ∷ texts) text rising c = filter-append (is_of text.sec) (rows t) (flat_map rows texts) ∙ go (λ d. rows_of_section texts text rising.1 d) (cases t texts text c)
    where
      later : (u : TextSection) → Contains texts u → t.sec < u.sec
      later u d = every-in (λ (v : TextSection). t.sec < v.sec) texts u rising.0 (in_contains texts u d)

      go : (Contains texts text → rows_in (flat_map rows texts) text.sec ≡ rows text) → (t ≡ text) ⊎ Contains texts text → filter (is_of text.sec) (rows t) ++ filter (is_of text.sec) (flat_map rows texts) ≡ rows text
      go further (inl e) =
          ap (λ (xs : List PlacedRow). xs ++ filter (is_of text.sec) (flat_map rows texts)) (all_kept text.sec (rows t) (λ x d. own t x d ∙ ap (λ (u : TextSection). u.sec) e))
          ∙ ap (λ (xs : List PlacedRow). rows t ++ xs) (others_dropped text.sec texts (λ u d same. let l : t.sec < u.sec = later u d in let k : t.sec ≡ text.sec = ap (λ (v : TextSection). v.sec) e in absurd (omega (arith, l, k, same))))
          ∙ append-nil (rows t)
          ∙ ap rows e
      go further (inr d) =
          ap (λ (xs : List PlacedRow). xs ++ filter (is_of text.sec) (flat_map rows texts)) (none_kept text.sec (rows t) (λ x k same. let l : t.sec < text.sec = later text d in let j : x.place.sec ≡ t.sec = own t x k in absurd (omega (arith, l, j, same))))
          ∙ further d
