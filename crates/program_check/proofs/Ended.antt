-- The rows that end sections.
use Rattle.std.proofs.Common.{◌≡◌, ◌≢◌, ℕ, zero, suc, ◌<◌, ◌≤◌, Bool, true, false, cond, eqb, List, [], ◌∷◌, ◌++◌, Contains, length, get_or, take, drop, flat_map, arith, refl, ap, sym, ◌∙◌, subst, append_assoc}
use Rattle.std.specs.List.{AllPairs}
use Rattle.std.proofs.lemmas.Bool.{eq-eqb, ne_eqb}
use Rattle.std.proofs.lemmas.List.{drop_at}
use Rattle.ot_base.specs.declared.row.PlacedRow.{PlacedRow}
use Rattle.machine_defs.specs.Program.{TextSection}
use Rattle.ot_base.specs.Rows.{zero_row}
use Rattle.machine_defs.specs.Rows.{placed, place_in, with_end}
use Rattle.unwinding_law.proofs.Lists.{here, there, from_flat_map}
use Rattle.program_check.specs.Ends.{in_front, with_ends}

-- rows of a section in front of rows of others
front_is : (sec : ℕ) (xs ys : List PlacedRow) → ((x : PlacedRow) → Contains xs x → x.place.sec ≡ sec) → ((y : PlacedRow) → Contains ys y → y.place.sec ≢ sec) → in_front sec (xs ++ ys) ≡ xs
front_is sec [] [] inside outside = refl
front_is sec [] (y ∷ ys) inside outside = ap (λ (b : Bool). cond b (y ∷ in_front sec ys) []) (ne_eqb y.place.sec sec (outside y (here y ys)))
front_is sec (x ∷ xs) ys inside outside =
    ap (λ (b : Bool). cond b (x ∷ in_front sec (xs ++ ys)) []) (eq-eqb x.place.sec sec (inside x (here x xs)))
    ∙ ap (λ (zs : List PlacedRow). x ∷ zs) (front_is sec xs ys (λ z c. inside z (there x xs z c)) outside)

-- the first that isn't in the section ends the front
pub front_length : (sec i : ℕ) (d : PlacedRow) (xs : List PlacedRow) → i ≤ length xs → ((k : ℕ) → k < i → (get_or xs k d).place.sec ≡ sec) → (i < length xs → (get_or xs i d).place.sec ≢ sec) → length (in_front sec xs) ≡ i
front_length sec zero d [] l inside outside = refl
front_length sec (suc i) d [] l inside outside = absurd (omega arith)
front_length sec zero d (x ∷ xs) l inside outside = ap (λ (b : Bool). length (cond b (x ∷ in_front sec xs) [])) (ne_eqb x.place.sec sec (outside (omega arith)))
front_length sec (suc i) d (x ∷ xs) l inside outside =
    let rest : length (in_front sec xs) ≡ i = front_length sec i d xs (omega arith) (λ k h. inside (suc k) (omega arith)) (λ h. outside (omega arith)) in
    ap (λ (b : Bool). length (cond b (x ∷ in_front sec xs) [])) (eq-eqb x.place.sec sec (inside 0 (omega arith))) ∙ ap suc rest

-- the front is a front
pub take_front : (sec : ℕ) (xs : List PlacedRow) → take (length (in_front sec xs)) xs ≡ in_front sec xs
take_front sec [] = refl
take_front sec (x ∷ xs) = go (eqb x.place.sec sec) refl (take_front sec xs)
  where
    go : (b : Bool) → eqb x.place.sec sec ≡ b → take (length (in_front sec xs)) xs ≡ in_front sec xs → take (length (cond b (x ∷ in_front sec xs) [])) (x ∷ xs) ≡ cond b (x ∷ in_front sec xs) []
    go true e rest = ap (λ (zs : List PlacedRow). x ∷ zs) rest
    go false e rest = refl

module _ (rows_in : TextSection → List PlacedRow) (inside : (text : TextSection) (x : PlacedRow) → Contains (rows_in text) x → x.place.sec ≡ text.sec) where
  -- rows of several sections, each with a row at its end
  pub ended : (texts : List TextSection) → AllPairs (λ one other. one.sec < other.sec) texts → with_ends texts (flat_map rows_in texts) ≡ flat_map (λ text. with_end text (rows_in text)) texts
  ended [] up = refl
  ended (text ∷ texts) up =
      let rest : List PlacedRow = flat_map rows_in texts in
      let front : in_front text.sec (rows_in text ++ rest) ≡ rows_in text = front_is text.sec (rows_in text) rest (inside text) (λ y c. let r = from_flat_map rows_in texts y c in other text texts up r.0 r.1 y.place.sec (inside r.0 y r.2)) in
      let behind : drop (length (rows_in text)) (rows_in text ++ rest) ≡ rest = drop_at (rows_in text) rest (length (rows_in text)) refl in
      ap (λ (zs : List PlacedRow). with_end text zs ++ with_ends texts (drop (length zs) (rows_in text ++ rest))) front
      ∙ ap (λ (zs : List PlacedRow). with_end text (rows_in text) ++ with_ends texts zs) behind
      ∙ ap (λ (zs : List PlacedRow). with_end text (rows_in text) ++ zs) (ended texts (λ i j d l k. up (suc i) (suc j) d (omega arith) (omega arith)))
    where
      other : (text : TextSection) (texts : List TextSection) → AllPairs (λ one other. one.sec < other.sec) (text ∷ texts) → (t : TextSection) → Contains texts t → (n : ℕ) → n ≡ t.sec → n ≢ text.sec
      other text texts up t (k, l, e) n is same =
          let h : text.sec < t.sec = subst (λ (z : TextSection). text.sec < z.sec) e (up 0 (suc k) t (omega arith) (omega arith)) in
          omega (arith, h, is, same)

-- a section's rows in front, with the row at its end, and the rest
pub end_added : (text : TextSection) (texts : List TextSection) (rows rest front behind : List PlacedRow) → front ≡ in_front text.sec rest → behind ≡ drop (length (in_front text.sec rest)) rest → length front ≢ 0
    → ((rows ++ front) ++ placed (place_in text text.size) zero_row ∷ []) ++ with_ends texts behind ≡ rows ++ with_ends (text ∷ texts) rest
end_added text texts rows rest front behind e f some =
    let whole : with_end text front ≡ front ++ placed (place_in text text.size) zero_row ∷ [] = some_end front some in
    ap (λ (zs : List PlacedRow). zs ++ with_ends texts behind) (append_assoc rows front (placed (place_in text text.size) zero_row ∷ []) ∙ ap (λ (zs : List PlacedRow). rows ++ zs) (sym whole))
    ∙ append_assoc rows (with_end text front) (with_ends texts behind)
    ∙ ap (λ (zs : List PlacedRow). rows ++ (with_end text zs ++ with_ends texts behind)) e
    ∙ ap (λ (zs : List PlacedRow). rows ++ (with_end text (in_front text.sec rest) ++ with_ends texts zs)) f
  where
    some_end : (xs : List PlacedRow) → length xs ≢ 0 → with_end text xs ≡ xs ++ placed (place_in text text.size) zero_row ∷ []
    some_end [] h = absurd (h refl)
    some_end (x ∷ xs) h = refl

pub no_end : (text : TextSection) (texts : List TextSection) (rows rest front behind : List PlacedRow) → front ≡ in_front text.sec rest → behind ≡ drop (length (in_front text.sec rest)) rest → length front ≡ 0
    → (rows ++ front) ++ with_ends texts behind ≡ rows ++ with_ends (text ∷ texts) rest
no_end text texts rows rest front behind e f none =
    let whole : with_end text front ≡ front = none_end front none in
    append_assoc rows front (with_ends texts behind)
    ∙ ap (λ (zs : List PlacedRow). rows ++ (zs ++ with_ends texts behind)) (sym whole)
    ∙ ap (λ (zs : List PlacedRow). rows ++ (with_end text zs ++ with_ends texts behind)) e
    ∙ ap (λ (zs : List PlacedRow). rows ++ (with_end text (in_front text.sec rest) ++ with_ends texts zs)) f
  where
    none_end : (xs : List PlacedRow) → length xs ≡ 0 → with_end text xs ≡ xs
    none_end [] h = refl
    none_end (x ∷ xs) h = absurd (omega arith)
