-- The bytes for rows spell the instructions for them.
use Rattle.std.proofs.Common.{◌≡◌, ◌≢◌, ℕ, ℤ, pos, negsuc, zero, suc, ◌+◌, ◌-◌, ◌*◌, ◌/◌, ◌%◌, ◌<◌, ◌≤◌, ◌^◌, ◌⊎◌, Bool, true, false, cond, List, [], ◌∷◌, ◌++◌, length, replicate, Option, Some, None, refl, sym, ◌∙◌, ap, subst, inl, inr, arith, append_assoc, append-nil, length-append}
use Rattle.std.specs.Prelude.{◌==◌, ◌≤ℤ◌, neg_ℤ, unsigned_abs, filter, All}
use Rattle.std.proofs.lemmas.Bool.{ltb-true, ltb-false, ne_eqb, cases_Bool, false≢true}
use Rattle.std.proofs.lemmas.List.Elements.{All-head, All-tail}
use Rattle.std.proofs.lemmas.List.{length-replicate}
use Rattle.std.proofs.lemmas.List.Sums.{length-filter, count_by-le-length}
use Rattle.std.proofs.lemmas.Int.{ints}
use Rattle.std.proofs.Math.Dec.{ltb}
use Rattle.byteorder.specs.Endian.{little_bytes}
use Rattle.ot_base.specs.declared.row.PlacedRow.{PlacedRow}
use Rattle.eh_frame.specs.declared.rule.CfaReg.{CfaReg}
use Rattle.eh_frame.specs.declared.rule.CfaRule.{CfaRule}
use Rattle.eh_frame.specs.declared.rule.CfaRule.TheVariants.{Undefined, Cfa}
use Rattle.eh_frame.specs.declared.instruction.Instruction.{Instruction}
use Rattle.eh_frame.specs.declared.instruction.Instruction.TheVariants.{Nop, AdvanceLoc, DefCfa, SavedReturn, UndefinedReturn, SavedRbp, SameRbp}
use Rattle.eh_frame.specs.Groups.{Groups, last, more, in_groups}
use Rattle.eh_frame.specs.Spelling.{Spells, SpellsAll, none, next, nop, advance_loc, advance_loc1, advance_loc2, advance_loc4, def_cfa, def_cfa_sf, offset_return, undefined_return, offset_rbp, same_value_rbp, number_of, offset}
use Rattle.eh_frame.specs.RowFrames.{rule_of_row, move_bytes, cfa_bytes, saved_bytes, rule_bytes, rows_bytes, start_bytes, padded, spelled_rows}
use Rattle.eh_frame.specs.ShortRules.{IsShort, IsShortOffset}
use Rattle.eh_frame.proofs.RowRules.{move_to, save, set_rule, set_rows, set_start, set_section, rows_below}

-- Groups of at most three bytes.

groups_spelled : (limit n : ℕ) → 0 < limit → limit ≤ 128 → n < limit * 16384 → Groups limit false n (in_groups limit n)
unfolding in_groups
groups_spelled limit n h k l = go (ltb n limit) (ltb n (limit * 128)) refl refl
  where
    two : limit ≤ n → n < limit * 128 → Groups limit false n ((128 + n % 128) ∷ n / 128 ∷ [])
    two low high =
        let whole : n % 128 + 128 * (n / 128) ≡ n = omega arith in
        subst (λ (m : ℕ). Groups limit false m ((128 + n % 128) ∷ n / 128 ∷ [])) whole
        (more (n % 128) (n / 128) (n / 128 ∷ []) (omega arith) (omega arith) (last (n / 128) (omega arith)))

    three : limit * 128 ≤ n → Groups limit false n ((128 + n % 128) ∷ (128 + n / 128 % 128) ∷ n / 16384 ∷ [])
    three low =
        let whole : n % 128 + 128 * (n / 128 % 128 + 128 * (n / 16384)) ≡ n = omega arith in
        subst (λ (m : ℕ). Groups limit false m ((128 + n % 128) ∷ (128 + n / 128 % 128) ∷ n / 16384 ∷ [])) whole
        (more (n % 128) (n / 128 % 128 + 128 * (n / 16384)) ((128 + n / 128 % 128) ∷ n / 16384 ∷ []) (omega arith) (omega arith)
        (more (n / 128 % 128) (n / 16384) (n / 16384 ∷ []) (omega arith) (omega arith) (last (n / 16384) (omega arith))))

    go : (b c : Bool) → ltb n limit ≡ b → ltb n (limit * 128) ≡ c → Groups limit false n (cond b (n ∷ []) (cond c ((128 + n % 128) ∷ n / 128 ∷ []) ((128 + n % 128) ∷ (128 + n / 128 % 128) ∷ n / 16384 ∷ [])))
    go true c e f = last n (ltb-true n limit e)
    go false true e f = two (ltb-false n limit e) (ltb-true n (limit * 128) f)
    go false false e f = three (ltb-false n (limit * 128) f)

groups_short : (limit n : ℕ) → length (in_groups limit n) ≤ 3
unfolding in_groups
groups_short limit n = go (ltb n limit) (ltb n (limit * 128))
  where
    go : (b c : Bool) → length (cond b (n ∷ []) (cond c ((128 + n % 128) ∷ n / 128 ∷ []) ((128 + n % 128) ∷ (128 + n / 128 % 128) ∷ n / 16384 ∷ []))) ≤ 3
    go true c = omega arith
    go false true = omega arith
    go false false = omega arith

-- Instructions, one behind the other.

one : {i : Instruction} {s : List ℕ} → Spells i s → SpellsAll (i ∷ []) s
one {i} {s} h = subst (λ (bs : List ℕ). SpellsAll (i ∷ []) bs) (append-nil s) (next i [] s [] h none)

pub both : {is js : List Instruction} {a b : List ℕ} → SpellsAll is a → SpellsAll js b → SpellsAll (is ++ js) (a ++ b)
both none t = t
both {js = js} {b = b} (next i is own bytes s further) t =
    subst (λ (bs : List ℕ). SpellsAll (i ∷ (is ++ js)) bs) (sym (append_assoc own bytes b)) (next i (is ++ js) own (bytes ++ b) s (both further t))

move_spelled : (delta : ℕ) → delta < 2 ^ 32 → SpellsAll (move_to delta) (move_bytes delta)
unfolding move_to
move_spelled zero h = none
move_spelled (suc n) h =
    let some : (suc n == 0) ≡ false = ne_eqb (suc n) 0 (λ e. omega arith) in
    subst (λ (b : Bool). SpellsAll (AdvanceLoc (suc n) ∷ []) (cond b [] (cond (ltb (suc n) 64) ((64 + suc n) ∷ []) (cond (ltb (suc n) 256) (0x02 ∷ little_bytes 1 (suc n)) (cond (ltb (suc n) 65536) (0x03 ∷ little_bytes 2 (suc n)) (0x04 ∷ little_bytes 4 (suc n))))))) (sym some)
    (go (ltb (suc n) 64) (ltb (suc n) 256) (ltb (suc n) 65536) refl refl refl)
  where
    go : (b c d : Bool) → ltb (suc n) 64 ≡ b → ltb (suc n) 256 ≡ c → ltb (suc n) 65536 ≡ d → SpellsAll (AdvanceLoc (suc n) ∷ []) (cond b ((64 + suc n) ∷ []) (cond c (0x02 ∷ little_bytes 1 (suc n)) (cond d (0x03 ∷ little_bytes 2 (suc n)) (0x04 ∷ little_bytes 4 (suc n)))))
    go true c d e f g = one (advance_loc (suc n) (omega arith) (ltb-true _ _ e))
    go false true d e f g = let k = ltb-true _ _ f in one (advance_loc1 (suc n) (omega arith))
    go false false true e f g = let k = ltb-true _ _ g in one (advance_loc2 (suc n) (omega arith))
    go false false false e f g = one (advance_loc4 (suc n) h)

move_short : (delta : ℕ) → length (move_bytes delta) ≤ 5
move_short delta = go (delta == 0) (ltb delta 64) (ltb delta 256) (ltb delta 65536)
  where
    go : (a b c d : Bool) → length (cond a [] (cond b ((64 + delta) ∷ []) (cond c (0x02 ∷ little_bytes 1 delta) (cond d (0x03 ∷ little_bytes 2 delta) (0x04 ∷ little_bytes 4 delta))))) ≤ 5
    go true b c d = omega arith
    go false true c d = omega arith
    go false false true d = omega arith
    go false false false true = omega arith
    go false false false false = omega arith

-- a rule with offsets of 16 bits whose saved rbp is at the frame's top or below it
pub record IsTold (rule : CfaRule) : Type 0 where
  pub short : IsShort rule
  pub below : (reg : CfaReg) (off saved : ℤ) → rule ≡ Cfa reg off (Some saved) → saved ≤ℤ pos 0

cfa_spelled : (reg : CfaReg) (off : ℤ) → IsShortOffset off → Spells (DefCfa reg off) (cfa_bytes reg off)
cfa_spelled reg (pos n) h = def_cfa reg n (in_groups 128 n) (omega arith) (groups_spelled 128 n (omega arith) (omega arith) (omega arith))
cfa_spelled reg (negsuc n) h =
    let is : offset true (n + 1) ≡ negsuc n = ap (λ (m : ℕ). neg_ℤ (pos m)) (let e : n + 1 ≡ suc n = omega arith in e) in
    subst (λ (z : ℤ). Spells (DefCfa reg z) (cfa_bytes reg (negsuc n))) is (def_cfa_sf reg (n + 1) (in_groups 64 (n + 1)) (omega arith) (groups_spelled 64 (n + 1) (omega arith) (omega arith) (omega arith)))

saved_spelled : (off : ℤ) → IsShortOffset off → off ≤ℤ pos 0 → Spells (SavedRbp off) (saved_bytes (Some off))
saved_spelled (pos zero) h k = offset_rbp 0 (in_groups 128 0) (omega arith) (groups_spelled 128 0 (omega arith) (omega arith) (omega arith))
saved_spelled (pos (suc n)) h k = absurd (omega (arith, ints))
saved_spelled (negsuc n) h k = offset_rbp (suc n) (in_groups 128 (suc n)) (omega arith) (groups_spelled 128 (suc n) (omega arith) (omega arith) (omega arith))

pub rule_spelled : (rule : CfaRule) → IsTold rule → SpellsAll (set_rule rule) (rule_bytes rule)
unfolding set_rule save
rule_spelled Undefined told = one undefined_return
rule_spelled (Cfa reg off None) told = both (one (cfa_spelled reg off told.short.0)) (both (one offset_return) (one same_value_rbp))
rule_spelled (Cfa reg off (Some saved)) told = both (one (cfa_spelled reg off told.short.0)) (both (one offset_return) (one (saved_spelled saved told.short.1 (told.below reg off saved refl))))

saved_short : (bp : Option ℤ) → length (saved_bytes bp) ≤ 4
saved_short None = omega arith
saved_short (Some off) = let l = groups_short 128 (unsigned_abs off) in omega arith

cfa_short : (reg : CfaReg) (off : ℤ) → length (cfa_bytes reg off) ≤ 5
cfa_short reg (pos n) = let l = groups_short 128 n in omega arith
cfa_short reg (negsuc n) = let l = groups_short 64 (n + 1) in omega arith

rule_short : (rule : CfaRule) → length (rule_bytes rule) ≤ 11
rule_short Undefined = omega arith
rule_short (Cfa reg off bp) = let l = cfa_short reg off in let k = saved_short bp in let e = length-append (cfa_bytes reg off) (0x90 ∷ 0x08 ∷ saved_bytes bp) in omega arith

-- Rows.

abbrev pub AreTold : List PlacedRow → Type 0
AreTold rows = All (λ placed. IsTold (rule_of_row placed.row) × (placed.place.off < 2 ^ 32)) rows

rows_spelled : (rows : List PlacedRow) (location : ℕ) → AreTold rows → SpellsAll (set_rows location rows) (rows_bytes location rows)
unfolding set_rows
rows_spelled [] location told = none
rows_spelled (placed ∷ rows) location told =
    let here : IsTold (rule_of_row placed.row) × (placed.place.off < 2 ^ 32) = All-head (λ (placed : PlacedRow). IsTold (rule_of_row placed.row) × (placed.place.off < 2 ^ 32)) placed rows told in
    let off = here.1 in
    both (move_spelled (placed.place.off - location) (omega arith))
    (both (rule_spelled (rule_of_row placed.row) here.0)
    (rows_spelled rows placed.place.off (All-tail (λ (placed : PlacedRow). IsTold (rule_of_row placed.row) × (placed.place.off < 2 ^ 32)) placed rows told)))

pub rows_short : (rows : List PlacedRow) (location : ℕ) → length (rows_bytes location rows) ≤ 16 * length rows
rows_short [] location = omega arith
rows_short (placed ∷ rows) location =
    let a = move_short (placed.place.off - location) in
    let b = rule_short (rule_of_row placed.row) in
    let c = rows_short rows placed.place.off in
    let d = length-append (move_bytes (placed.place.off - location)) (rule_bytes (rule_of_row placed.row) ++ rows_bytes placed.place.off rows) in
    let e = length-append (rule_bytes (rule_of_row placed.row)) (rows_bytes placed.place.off rows) in
    omega arith

nops_spelled : (n : ℕ) → SpellsAll (replicate n Nop) (replicate n 0)
nops_spelled zero = none
nops_spelled (suc n) = next Nop (replicate n Nop) (0 ∷ []) (replicate n 0) nop (nops_spelled n)

start_spelled : (rows : List PlacedRow) → SpellsAll (set_start rows) (start_bytes rows)
unfolding set_start
start_spelled [] = none
start_spelled (placed ∷ rows) = go (placed.place.off == 0)
  where
    go : (b : Bool) → SpellsAll (cond b [] (UndefinedReturn ∷ [])) (cond b [] (0x07 ∷ 0x10 ∷ []))
    go true = none
    go false = one undefined_return

-- how many bytes the padding has
abbrev pub padding : ℕ → List PlacedRow → ℕ
padding size rows = 7 - length (start_bytes rows ++ rows_bytes 0 (rows_below size rows)) % 8

pub section_spelled : (size : ℕ) (rows : List PlacedRow) → AreTold (rows_below size rows) → SpellsAll (set_section rows (rows_below size rows) (padding size rows)) (spelled_rows size rows)
unfolding spelled_rows set_section rows_below
section_spelled size rows told = both (both (start_spelled rows) (rows_spelled (rows_below size rows) 0 told)) (nops_spelled (padding size rows))

pub section_aligned : (size : ℕ) (rows : List PlacedRow) → (17 + length (spelled_rows size rows)) % 8 ≡ 0
unfolding spelled_rows rows_below
section_aligned size rows =
    let n : ℕ = length (start_bytes rows ++ rows_bytes 0 (rows_below size rows)) in
    let e : length (spelled_rows size rows) ≡ n + (7 - n % 8) = length-append (start_bytes rows ++ rows_bytes 0 (rows_below size rows)) (replicate (7 - n % 8) 0) ∙ ap (λ (k : ℕ). n + k) (length-replicate (7 - n % 8) 0) in
    omega arith

start_short : (rows : List PlacedRow) → length (start_bytes rows) ≤ 2
start_short [] = omega arith
start_short (placed ∷ rows) = go (placed.place.off == 0)
  where
    go : (b : Bool) → length {A = ℕ} (cond b [] (0x07 ∷ 0x10 ∷ [])) ≤ 2
    go true = omega arith
    go false = omega arith

-- how many bytes the rows of a section take at most
pub spelled_bound : (size : ℕ) (rows : List PlacedRow) → length (spelled_rows size rows) ≤ 9 + 16 * length rows
unfolding spelled_rows rows_below
spelled_bound size rows =
    let kept : length (filter (λ placed. ltb placed.place.off size) rows) ≤ length rows =
    (let e = length-filter (λ (placed : PlacedRow). ltb placed.place.off size) rows in let f = count_by-le-length (λ (placed : PlacedRow). ltb placed.place.off size) rows in omega arith) in
    let n : ℕ = length (start_bytes rows ++ rows_bytes 0 (rows_below size rows)) in
    let a = rows_short (rows_below size rows) 0 in
    let b : length (start_bytes rows ++ rows_bytes 0 (rows_below size rows)) ≡ length (start_bytes rows) + length (rows_bytes 0 (rows_below size rows)) = length-append (start_bytes rows) (rows_bytes 0 (rows_below size rows)) in
    let c = start_short rows in
    let d : length (spelled_rows size rows) ≡ n + (7 - n % 8) = length-append (start_bytes rows ++ rows_bytes 0 (rows_below size rows)) (replicate (7 - n % 8) 0) ∙ ap (λ (k : ℕ). n + k) (length-replicate (7 - n % 8) 0) in
    omega arith
