-- Behind a row that is added the same row holds.
use Rattle.std.proofs.Common.{◌≡◌, ◌∷◌, [], ◌++◌, ◌&&◌, Bool, true, false, cond, ℤ, List, refl, ap, ◌∙◌}
use Rattle.std.proofs.lemmas.Bool.{eq-eqb}
use Rattle.std.proofs.lemmas.Bool.Decides.{Decides-int_eq}
use Rattle.std.specs.Ordering.{int_eq}
use Rattle.std.specs.Bool.{beq}
use Rattle.ot_base.specs.declared.row.Row.{Row}
use Rattle.ot_base.specs.declared.row.PlacedRow.{PlacedRow}
use Rattle.ot_base.specs.Rows.{same_row}
use Rattle.program_check.specs.Changes.{after_row, is_held, row_before}
use Rattle.program_check.proofs.Compressed.{before_same, last_push}

all_true : (a b c d e f : Bool) → a ≡ true → b ≡ true → c ≡ true → d ≡ true → e ≡ true → f ≡ true → (a && (b && (c && (d && (e && f))))) ≡ true
all_true a b c d e f p q r s t u = rw (p, q, r, s, t, u) refl

bool_itself : (b : Bool) → beq b b ≡ true
bool_itself true = refl
bool_itself false = refl

int_itself : (x : ℤ) → int_eq x x ≡ true
int_itself x = (Decides-int_eq x x).1 refl

row_itself : (r : Row) → same_row r r ≡ true
row_itself r = all_true _ _ _ _ _ _ (int_itself r.sp_offset) (int_itself r.bp_offset) (eq-eqb r.sp_reg r.sp_reg refl) (eq-eqb r.bp_reg r.bp_reg refl) (eq-eqb r.kind r.kind refl) (bool_itself r.signal)

-- a row that holds already isn't added
pub held_stays : (rows : List PlacedRow) (x : PlacedRow) → is_held rows x.place.sec x.row ≡ true → after_row rows x ≡ rows
held_stays rows x held = ap (λ (b : Bool). cond b rows (rows ++ x ∷ [])) held

-- behind a row that is added it holds
pub held_after : (rows : List PlacedRow) (x : PlacedRow) → is_held (after_row rows x) x.place.sec x.row ≡ true
held_after rows x = go (is_held rows x.place.sec x.row) refl
  where
    go : (b : Bool) → is_held rows x.place.sec x.row ≡ b → is_held (cond b rows (rows ++ x ∷ [])) x.place.sec x.row ≡ true
    go true e = e
    go false e = ap (λ (r : Row). same_row r x.row) (ap (row_before x.place.sec) (last_push rows x) ∙ before_same x.place.sec x refl) ∙ row_itself x.row
