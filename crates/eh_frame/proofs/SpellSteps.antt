-- Row by row, the code spells the instructions for the rows of a section.
use Rattle.std.proofs.Common.{◌≡◌, ℕ, ◌+◌, ◌-◌, ◌<◌, ◌≤◌, Bool, true, false, cond, List, [], ◌∷◌, ◌++◌, length, drop, get_or, refl, sym, ◌∙◌, ap, subst, arith, append_assoc, append-nil}
use Rattle.std.specs.Prelude.{AllPairs}
use Rattle.std.proofs.lemmas.Bool.{lt-ltb, le-ltb}
use Rattle.std.proofs.lemmas.List.{drop_all, drop_more, get_or_default}
use Rattle.std.proofs.Math.Dec.{ltb}
use Rattle.ot_base.specs.declared.row.PlacedRow.{PlacedRow}
use Rattle.eh_frame.specs.declared.rule.CfaRule.{CfaRule}
use Rattle.eh_frame.specs.RowFrames.{move_bytes, padded, rows_bytes, rule_bytes, rule_of_row, spelled_rows, start_bytes}
use Rattle.eh_frame.proofs.RowRules.{rows_below}

-- So many rows are spelled, up to a location that none of the others is below.
pub record Spelled (size : ℕ) (rows : List PlacedRow) (index location : ℕ) (spelled : List ℕ) : Type 0 where
  pub written : spelled ++ rows_bytes location (rows_below size (drop index rows)) ≡ start_bytes rows ++ rows_bytes 0 (rows_below size rows)
  pub above : (k : ℕ) (d : PlacedRow) → index ≤ k → k < length rows → location ≤ (get_or rows k d).place.off

pub none_spelled : (size : ℕ) (rows : List PlacedRow) (spelled : List ℕ) → spelled ≡ start_bytes rows → Spelled size rows 0 0 spelled
none_spelled size rows spelled e = record {
  written = ap (λ (bs : List ℕ). bs ++ rows_bytes 0 (rows_below size rows)) e;
  above = λ k d h inside. omega arith;
}

module _ (size : ℕ) (rows : List PlacedRow) (index location : ℕ) (spelled : List ℕ) (placed : PlacedRow) (inside : index < length rows) (is : get_or rows index placed ≡ placed) (done : Spelled size rows index location spelled) where
  next : drop index rows ≡ placed ∷ drop (index + 1) rows
  next = drop_more rows index placed inside ∙ ap (λ (p : PlacedRow). p ∷ drop (index + 1) rows) is

  -- a row below the section's size
  pub one_spelled : (new : List ℕ) → AllPairs (λ one other. one.place.off < other.place.off) rows → placed.place.off < size
      → new ≡ (spelled ++ move_bytes (placed.place.off - location)) ++ rule_bytes (rule_of_row placed.row) → Spelled size rows (index + 1) placed.place.off new
  unfolding rows_below
  one_spelled new up below e =
      let yes : ltb placed.place.off size ≡ true = lt-ltb placed.place.off size below in
      let rest : rows_below size (drop index rows) ≡ placed ∷ rows_below size (drop (index + 1) rows) =
      ap (rows_below size) next ∙ ap (λ (b : Bool). cond b (placed ∷ rows_below size (drop (index + 1) rows)) (rows_below size (drop (index + 1) rows))) yes in
      record {
        written =
            ap (λ (bs : List ℕ). bs ++ rows_bytes placed.place.off (rows_below size (drop (index + 1) rows))) e
            ∙ append_assoc (spelled ++ move_bytes (placed.place.off - location)) (rule_bytes (rule_of_row placed.row)) (rows_bytes placed.place.off (rows_below size (drop (index + 1) rows)))
            ∙ append_assoc spelled (move_bytes (placed.place.off - location)) (rule_bytes (rule_of_row placed.row) ++ rows_bytes placed.place.off (rows_below size (drop (index + 1) rows)))
            ∙ ap (λ (ps : List PlacedRow). spelled ++ rows_bytes location ps) (sym rest)
            ∙ done.written;
        above = λ k d h within. (let low = subst (λ (p : PlacedRow). p.place.off < (get_or rows k placed).place.off) is (up index k placed (omega arith) within) in
            let same : get_or rows k placed ≡ get_or rows k d = get_or_default rows k placed d within in
            subst (λ (p : PlacedRow). placed.place.off ≤ p.place.off) same (omega arith));
      }

  -- a row at the section's size
  pub one_passed : size ≤ placed.place.off → Spelled size rows (index + 1) location spelled
  unfolding rows_below
  one_passed above =
      let beyond : ltb placed.place.off size ≡ false = le-ltb placed.place.off size above in
      let rest : rows_below size (drop index rows) ≡ rows_below size (drop (index + 1) rows) =
      ap (rows_below size) next ∙ ap (λ (b : Bool). cond b (placed ∷ rows_below size (drop (index + 1) rows)) (rows_below size (drop (index + 1) rows))) beyond in
      record {
        written = ap (λ (ps : List PlacedRow). spelled ++ rows_bytes location ps) (sym rest) ∙ done.written;
        above = λ k d h within. done.above k d (omega arith) within;
      }

-- the same for a row as the code reads it
pub row_spelled : (size limit : ℕ) (rows : List PlacedRow) (index location : ℕ) (spelled new : List ℕ) (d : PlacedRow) → index < length rows → Spelled size rows index location spelled → AllPairs (λ one other. one.place.off < other.place.off) rows → limit ≡ size → (get_or rows index d).place.off < limit
    → new ≡ (spelled ++ move_bytes ((get_or rows index d).place.off - location)) ++ rule_bytes (rule_of_row (get_or rows index d).row) → Spelled size rows (index + 1) (get_or rows index d).place.off new
row_spelled size limit rows index location spelled new d inside done up e below is =
    one_spelled size rows index location spelled (get_or rows index d) inside (get_or_default rows index (get_or rows index d) d inside) done new up (subst (λ (n : ℕ). (get_or rows index d).place.off < n) e below) is

pub row_passed : (size limit : ℕ) (rows : List PlacedRow) (index location : ℕ) (spelled : List ℕ) (d : PlacedRow) → index < length rows → Spelled size rows index location spelled → limit ≡ size → limit ≤ (get_or rows index d).place.off → Spelled size rows (index + 1) location spelled
row_passed size limit rows index location spelled d inside done e above =
    one_passed size rows index location spelled (get_or rows index d) inside (get_or_default rows index (get_or rows index d) d inside) done (subst (λ (n : ℕ). n ≤ (get_or rows index d).place.off) e above)

-- what two calls append
pub both_appended : (a b c m : List ℕ) (r s : CfaRule) → b ≡ a ++ m → c ≡ b ++ rule_bytes r → r ≡ s → c ≡ (a ++ m) ++ rule_bytes s
both_appended a b c m r s e f g = f ∙ ap (λ (bs : List ℕ). bs ++ rule_bytes r) e ∙ ap (λ (x : CfaRule). (a ++ m) ++ rule_bytes x) g

-- at the end
pub all_spelled : (size : ℕ) (rows : List PlacedRow) (index location : ℕ) (spelled new : List ℕ) → length rows ≤ index → Spelled size rows index location spelled → new ≡ padded spelled → new ≡ spelled_rows size rows
unfolding rows_below spelled_rows
all_spelled size rows index location spelled new end done e =
    let none : drop index rows ≡ [] = drop_all index rows end in
    let whole : spelled ≡ start_bytes rows ++ rows_bytes 0 (rows_below size rows) =
    sym (append-nil spelled) ∙ ap (λ (ps : List PlacedRow). spelled ++ rows_bytes location (rows_below size ps)) (sym none) ∙ done.written in
    e ∙ ap padded whole
