-- The rules that the instructions for rows give are those of the rows.
use Rattle.std.proofs.Common.{◌≡◌, ◌≢◌, ℕ, ℤ, pos, negsuc, zero, suc, ◌+◌, ◌-◌, ◌*◌, ◌<◌, ◌≤◌, ◌⊎◌, Bool, true, false, cond, List, [], ◌∷◌, ◌++◌, map, length, replicate, Option, Some, None, refl, sym, ◌∙◌, ap, subst, inl, inr, arith, append_assoc, append-nil}
use Rattle.std.specs.Prelude.{◌==◌, filter, All}
use Rattle.std.proofs.lemmas.Bool.{lt-ltb, le-ltb, ltb-true, ltb-false, ne_eqb, eqb-true, eq-eqb, cases_lt, cases_eq}
use Rattle.std.proofs.lemmas.List.Elements.{All-head, All-tail}
use Rattle.std.proofs.Math.Dec.{ltb}
use Rattle.ot_base.specs.declared.row.PlacedRow.{PlacedRow}
use Rattle.eh_frame.specs.declared.rule.CfaReg.{CfaReg}
use Rattle.eh_frame.specs.declared.rule.CfaRule.{CfaRule}
use Rattle.eh_frame.specs.declared.rule.CfaRule.TheVariants.{Undefined, Cfa}
use Rattle.eh_frame.specs.declared.instruction.Instruction.{Instruction}
use Rattle.eh_frame.specs.declared.instruction.Instruction.TheVariants.{Nop, AdvanceLoc, DefCfa, SavedReturn, UndefinedReturn, SavedRbp, SameRbp}
use Rattle.eh_frame.specs.declared.state.FrameState.{FrameState}
use Rattle.eh_frame.specs.Rules.{first_state, after, moves, moves_all, followed, rule_of, rule_at}
use Rattle.eh_frame.specs.RowFrames.{rule_of_row, rule_of_last}

-- The instructions for rows.

unfoldable pub move_to : ℕ → List Instruction
move_to zero = []
move_to (suc delta) = AdvanceLoc (suc delta) ∷ []

unfoldable pub save : Option ℤ → Instruction
save None = SameRbp
save (Some off) = SavedRbp off

unfoldable pub set_rule : CfaRule → List Instruction
set_rule Undefined = UndefinedReturn ∷ []
set_rule (Cfa reg off bp) = DefCfa reg off ∷ SavedReturn ∷ save bp ∷ []

unfoldable pub set_rows : ℕ → List PlacedRow → List Instruction
set_rows location [] = []
set_rows location (placed ∷ rows) = move_to (placed.place.off - location) ++ (set_rule (rule_of_row placed.row) ++ set_rows placed.place.off rows)

unfoldable pub set_start : List PlacedRow → List Instruction
set_start [] = []
set_start (placed ∷ rows) = cond (placed.place.off == 0) [] (UndefinedReturn ∷ [])

-- Rows ascend from an offset on.
unfoldable pub Ascend : ℕ → List PlacedRow → Type 0
Ascend least [] = Unit {0}
Ascend least (placed ∷ rows) = (least ≤ placed.place.off) × Ascend (placed.place.off + 1) rows

-- An instruction that doesn't move on is followed at its location.
stay : (i : Instruction) (is : List Instruction) (location : ℕ) (s : FrameState) (off : ℕ) → moves i ≡ 0 → location ≤ off → followed (i ∷ is) location s off ≡ followed is location (after i s) off
stay i is location s off h k =
    let there : location + moves i ≡ location = omega arith in
    let no : ltb off location ≡ false = le-ltb off location k in
    ap (λ (n : ℕ). cond (ltb off n) s (followed is n (after i s) off)) there ∙ ap (λ (b : Bool). cond b s (followed is location (after i s) off)) no

-- the rules behind those that set a rule
set_state : CfaRule → FrameState → FrameState
set_state Undefined s = after UndefinedReturn s
set_state (Cfa reg off bp) s = after (save bp) (after SavedReturn (after (DefCfa reg off) s))

save_stays : (bp : Option ℤ) → moves (save bp) ≡ 0
unfolding save
save_stays None = refl
save_stays (Some off) = refl

set_followed : (rule : CfaRule) (is : List Instruction) (location : ℕ) (s : FrameState) (off : ℕ) → location ≤ off → followed (set_rule rule ++ is) location s off ≡ followed is location (set_state rule s) off
unfolding set_rule set_state
set_followed Undefined is location s off h = stay UndefinedReturn is location s off refl h
set_followed (Cfa reg n bp) is location s off h =
    stay (DefCfa reg n) (SavedReturn ∷ save bp ∷ is) location s off refl h
    ∙ stay SavedReturn (save bp ∷ is) location (after (DefCfa reg n) s) off refl h
    ∙ stay (save bp) is location (after SavedReturn (after (DefCfa reg n) s)) off (save_stays bp) h

set_rule_is : (rule : CfaRule) (s : FrameState) → rule_of (set_state rule s) ≡ rule
unfolding set_state save
set_rule_is Undefined s = refl
set_rule_is (Cfa reg off None) s = refl
set_rule_is (Cfa reg off (Some n)) s = refl

-- a move is followed, or stops before an offset
move_followed : (delta : ℕ) (is : List Instruction) (location : ℕ) (s : FrameState) (off : ℕ) → location ≤ off → followed (move_to delta ++ is) location s off ≡ cond (ltb off (location + delta)) s (followed is (location + delta) s off)
unfolding move_to
move_followed zero is location s off h =
    let there : location + 0 ≡ location = omega arith in
    let no : ltb off location ≡ false = le-ltb off location h in
    sym (ap (λ (n : ℕ). cond (ltb off n) s (followed is n s off)) there ∙ ap (λ (b : Bool). cond b s (followed is location s off)) no)
move_followed (suc delta) is location s off h = refl

pub Ascend-looser : (a b : ℕ) (rows : List PlacedRow) → a ≤ b → Ascend b rows → Ascend a rows
unfolding Ascend
Ascend-looser a b [] h up = tt
Ascend-looser a b (r ∷ rs) h up = (let k = up.0 in omega arith, up.1)

rows_followed : (rows : List PlacedRow) (location : ℕ) (s : FrameState) (off : ℕ) → location ≤ off → Ascend location rows → rule_of (followed (set_rows location rows) location s off) ≡ rule_of_last (rule_of s) rows off
unfolding set_rows Ascend
rows_followed [] location s off h up = refl
rows_followed (placed ∷ rows) location s off h up =
    let least = up.0 in
    let there : location + (placed.place.off - location) ≡ placed.place.off = omega arith in
    ap rule_of (move_followed (placed.place.off - location) (set_rule (rule_of_row placed.row) ++ set_rows placed.place.off rows) location s off h
    ∙ ap (λ (n : ℕ). cond (ltb off n) s (followed (set_rule (rule_of_row placed.row) ++ set_rows placed.place.off rows) n s off)) there)
    ∙ go (λ low. rows_followed rows placed.place.off (set_state (rule_of_row placed.row) s) off low (Ascend-looser placed.place.off (placed.place.off + 1) rows (omega arith) up.1)) (ltb off placed.place.off) refl
  where
    go : (placed.place.off ≤ off → rule_of (followed (set_rows placed.place.off rows) placed.place.off (set_state (rule_of_row placed.row) s) off) ≡ rule_of_last (rule_of (set_state (rule_of_row placed.row) s)) rows off) → (b : Bool) → ltb off placed.place.off ≡ b → rule_of (cond b s (followed (set_rule (rule_of_row placed.row) ++ set_rows placed.place.off rows) placed.place.off s off)) ≡ cond b (rule_of s) (rule_of_last (rule_of_row placed.row) rows off)
    go again true e = refl
    go again false e =
        let low = ltb-false off placed.place.off e in
        ap rule_of (set_followed (rule_of_row placed.row) (set_rows placed.place.off rows) placed.place.off s off low)
        ∙ again low
        ∙ ap (λ (r : CfaRule). rule_of_last r rows off) (set_rule_is (rule_of_row placed.row) s)

-- instructions that do nothing at the end
same_both : {A : Type 0} (b : Bool) (x y : A) → y ≡ x → cond b x y ≡ x
same_both true x y e = refl
same_both false x y e = e

nops_followed : (n : ℕ) (location : ℕ) (s : FrameState) (off : ℕ) → followed (replicate n Nop) location s off ≡ s
nops_followed zero location s off = refl
nops_followed (suc n) location s off = same_both (ltb off (location + 0)) s (followed (replicate n Nop) (location + 0) s off) (nops_followed n (location + 0) s off)

padding_followed : (is : List Instruction) (n location : ℕ) (s : FrameState) (off : ℕ) → followed (is ++ replicate n Nop) location s off ≡ followed is location s off
padding_followed [] n location s off = nops_followed n location s off
padding_followed (i ∷ is) n location s off = ap (λ (t : FrameState). cond (ltb off (location + moves i)) s t) (padding_followed is n (location + moves i) (after i s) off)

-- from the beginning of a section on
unfoldable pub set_section : List PlacedRow → List PlacedRow → ℕ → List Instruction
set_section rows below n = (set_start rows ++ set_rows 0 below) ++ replicate n Nop

-- the rule before the first row counts for nothing where this is at or below an offset
first_counts : (placed : PlacedRow) (rows : List PlacedRow) (one other : CfaRule) (off : ℕ) → placed.place.off ≤ off → rule_of_last one (placed ∷ rows) off ≡ rule_of_last other (placed ∷ rows) off
first_counts placed rows one other off h = let no : ltb off placed.place.off ≡ false = le-ltb off placed.place.off h in rw no refl

-- those of rows below an offset
unfoldable pub rows_below : ℕ → List PlacedRow → List PlacedRow
rows_below size rows = filter (λ placed. ltb placed.place.off size) rows

none_below : (size least : ℕ) (rows : List PlacedRow) → size ≤ least → Ascend least rows → rows_below size rows ≡ []
unfolding Ascend rows_below
none_below size least [] k up = refl
none_below size least (r ∷ rs) k up =
    let low = up.0 in
    let no : ltb r.place.off size ≡ false = le-ltb r.place.off size (omega arith) in
    rw no (none_below size (r.place.off + 1) rs (omega arith) up.1)

-- rows from a section's size on don't count below it
below_counts : (rows : List PlacedRow) (size least : ℕ) (rule : CfaRule) (off : ℕ) → Ascend least rows → off < size → rule_of_last rule (rows_below size rows) off ≡ rule_of_last rule rows off
unfolding Ascend rows_below
below_counts [] size least rule off up h = refl
below_counts (placed ∷ rows) size least rule off up h =
    go (below_counts rows size (placed.place.off + 1) (rule_of_row placed.row) off up.1 h) (λ far. none_below size (placed.place.off + 1) rows (omega arith) up.1) (ltb placed.place.off size) refl
  where
    go : rule_of_last (rule_of_row placed.row) (rows_below size rows) off ≡ rule_of_last (rule_of_row placed.row) rows off → (size ≤ placed.place.off → rows_below size rows ≡ []) → (b : Bool) → ltb placed.place.off size ≡ b → rule_of_last rule (cond b (placed ∷ rows_below size rows) (rows_below size rows)) off ≡ rule_of_last rule (placed ∷ rows) off
    go again none true e = ap (λ (r : CfaRule). cond (ltb off placed.place.off) rule r) again
    go again none false e =
        let far = ltb-false placed.place.off size e in
        let yes : ltb off placed.place.off ≡ true = lt-ltb off placed.place.off (omega arith) in
        ap (λ (rs : List PlacedRow). rule_of_last rule rs off) (none far)
        ∙ ap (λ (b : Bool). cond b rule (rule_of_last (rule_of_row placed.row) rows off)) (sym yes)

pub below_ascends : (size least : ℕ) (rows : List PlacedRow) → Ascend least rows → Ascend least (rows_below size rows)
unfolding Ascend rows_below
below_ascends size least [] up = tt
below_ascends size least (r ∷ rs) up = pick (below_ascends size (r.place.off + 1) rs up.1) (ltb r.place.off size)
  where
    pick : Ascend (r.place.off + 1) (rows_below size rs) → (b : Bool) → Ascend least (cond b (r ∷ rows_below size rs) (rows_below size rs))
    pick further true = (up.0, further)
    pick further false = let h = up.0 in Ascend-looser least (r.place.off + 1) (rows_below size rs) (omega arith) further

-- The instructions for a section's rows give the rule of the last row at or below each offset.
pub section_followed : (rows : List PlacedRow) (size n off : ℕ) → rows ≢ [] → Ascend 0 rows → off < size → rule_at (set_section rows (rows_below size rows) n) off ≡ rule_of_last Undefined rows off
unfolding rule_at set_section set_start
section_followed [] size n off some up h = absurd (some refl)
section_followed (placed ∷ rows) size n off some up h =
    ap rule_of (padding_followed (set_start (placed ∷ rows) ++ set_rows 0 (rows_below size (placed ∷ rows))) n 0 first_state off)
    ∙ go (placed.place.off == 0) refl
  where
    go : (b : Bool) → (placed.place.off == 0) ≡ b → rule_of (followed (cond b [] (UndefinedReturn ∷ []) ++ set_rows 0 (rows_below size (placed ∷ rows))) 0 first_state off) ≡ rule_of_last Undefined (placed ∷ rows) off
    go true e =
        let zero_is = eqb-true placed.place.off 0 e in
        rows_followed (rows_below size (placed ∷ rows)) 0 first_state off (omega arith) (below_ascends size 0 (placed ∷ rows) up)
        ∙ below_counts (placed ∷ rows) size 0 (rule_of first_state) off up h
        ∙ first_counts placed rows (rule_of first_state) Undefined off (omega arith)
    go false e =
        ap rule_of (stay UndefinedReturn (set_rows 0 (rows_below size (placed ∷ rows))) 0 first_state off refl (omega arith))
        ∙ rows_followed (rows_below size (placed ∷ rows)) 0 (after UndefinedReturn first_state) off (omega arith) (below_ascends size 0 (placed ∷ rows) up)
        ∙ below_counts (placed ∷ rows) size 0 Undefined off up h
