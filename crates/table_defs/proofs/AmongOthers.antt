-- A row to which all others give way is found.
use Rattle.std.proofs.Common.{◌≡◌, ℕ, ◌<◌, ◌⊎◌, Bool, true, false, cond, List, [], ◌∷◌, ◌++◌, Option, Some, None, refl, sym, ◌∙◌, ap, inl, inr, leb}
use Rattle.std.specs.Prelude.{All, IfSome, filter, option_map}
use Rattle.std.specs.List.{cons_option}
use Rattle.std.proofs.lemmas.Bool.{le-leb, lt-leb, true≢false}
use Rattle.std.proofs.lemmas.List.Elements.{All-nil, All-cons, All-head, All-tail, filter-append, filter_map-append}
use Rattle.ot_base.specs.declared.row.PlacedRow.{PlacedRow}
use Rattle.table_defs.specs.declared.range.Range.{Range}
use Rattle.table_defs.specs.Lookup.{AddressedRow, addressed_row, addressed, at_or_below, comes_before}
use Rattle.table_defs.specs.WalkLaws.{RowAmongOthers}
use Rattle.table_defs.proofs.LastRow.{found_is_last}

-- what holds of an addressed row, where it isn't above the address
abbrev IfLeft : (AddressedRow → Type 0) → ℕ → Option AddressedRow → Type 0
IfLeft P address o = IfSome o (λ x. (address < x.address) ⊎ P x)

left_here : (P : AddressedRow → Type 0) (address : ℕ) (x : AddressedRow) (rest : List AddressedRow) (b : Bool) → leb x.address address ≡ b → (address < x.address) ⊎ P x → All P rest → All P (cond b (x ∷ rest) rest)
left_here P address x rest false is h all = all
left_here P address x rest true is (inl above) all = absurd (true≢false (sym is ∙ lt-leb x.address address above))
left_here P address x rest true is (inr here) all = All-cons P x rest here all

left_front : (P : AddressedRow → Type 0) (address : ℕ) (o : Option AddressedRow) (rows : List AddressedRow) → IfLeft P address o → All P (at_or_below address rows) → All P (at_or_below address (cons_option o rows))
left_front P address None rows h all = all
left_front P address (Some x) rows h all = left_here P address x (at_or_below address rows) (leb x.address address) refl h all

-- what holds of each row, where it is placed and not above the address, holds of those at or below it
left : (P : AddressedRow → Type 0) (ranges : List Range) (address : ℕ) (rows : List PlacedRow)
    → All (λ row. IfLeft P address (addressed_row ranges row)) rows
    → All P (at_or_below address (addressed ranges rows))
left P ranges address [] all = All-nil P
left P ranges address (row ∷ rows) all =
    left_front P address (addressed_row ranges row) (addressed ranges rows)
    (All-head (λ r. IfLeft P address (addressed_row ranges r)) row rows all)
    (left P ranges address rows (All-tail (λ r. IfLeft P address (addressed_row ranges r)) row rows all))

pub row_among_others : RowAmongOthers
row_among_others ranges address from front back placed at low ahead behind =
    let x : AddressedRow = record { address = from; row = placed.row } in
    let is_low : AddressedRow → Bool = λ y. leb y.address address in
    let here : at_or_below address (addressed ranges (placed ∷ back)) ≡ x ∷ at_or_below address (addressed ranges back) =
    ap (λ o. at_or_below address (cons_option (option_map (λ base. record { address = base; row = placed.row }) o) (addressed ranges back))) at
    ∙ ap (λ b. cond b (x ∷ at_or_below address (addressed ranges back)) (at_or_below address (addressed ranges back))) (le-leb from address low) in
    let all : at_or_below address (addressed ranges (front ++ placed ∷ back)) ≡ at_or_below address (addressed ranges front) ++ x ∷ at_or_below address (addressed ranges back) =
    ap (filter is_low) (filter_map-append (addressed_row ranges) front (placed ∷ back))
    ∙ filter-append is_low (addressed ranges front) (addressed ranges (placed ∷ back))
    ∙ ap (λ rest. at_or_below address (addressed ranges front) ++ rest) here in
    (found_is_last (front ++ placed ∷ back) ranges address placed.row).1 (record {
      from = from;
      last = record {
        ahead = at_or_below address (addressed ranges front);
        behind = at_or_below address (addressed ranges back);
        all = all;
        before_none = left (λ y. comes_before x y ≡ false) ranges address front ahead;
        after_each = left (λ y. comes_before y x ≡ true) ranges address back behind;
      };
    })
