-- What is found in a table.
use Rattle.std.proofs.Common.{◌≡◌, refl, ℕ, List, [], ◌∷◌, map, option_map, true, false, cond, Some, None, Bor, Option, ap, ◌∙◌, sym, ◌++◌, ◌+◌, ◌<◌, length, drop, get_or, add-one}
use Rattle.std.proofs.Math.Seq.{drop-cons}
use Rattle.std.specs.List.{find}
use Rattle.std.specs.Option.{option_or}
use Rattle.std.specs.Str.{bytes_eq}
use Rattle.explanations.specs.Entry.{Entry, entry_of, entry_on, text_on, told}

found : (rows : List (Bor (List ℕ) × Bor (List ℕ) × Bor (List ℕ))) (topic : List ℕ) → option_map entry_of (find (λ row. bytes_eq row.0.now topic) rows) ≡ entry_on (map entry_of rows) topic
found [] topic = refl
found (row ∷ rows) topic =
    elim (bytes_eq row.0.now topic) as (λ b. option_map entry_of (cond b (Some row) (find (λ r. bytes_eq r.0.now topic) rows)) ≡ cond b (Some (entry_of row)) (entry_on (map entry_of rows) topic))
    [ true ↦ refl | false ↦ found rows topic ]

-- the text of what is found is that of the entry
pub text-found : (rows : List (Bor (List ℕ) × Bor (List ℕ) × Bor (List ℕ))) (topic : List ℕ) (row : Option (Bor (List ℕ) × Bor (List ℕ) × Bor (List ℕ)))
    → row ≡ find (λ row. bytes_eq row.0.now topic) rows
    → option_map (λ row. row.2.now) row ≡ text_on (map entry_of rows) topic
text-found rows topic row e = first-of row ∙ ap (option_map (λ entry. entry.text)) (ap (option_map entry_of) e ∙ found rows topic)
  where
    first-of : (row : Option (Bor (List ℕ) × Bor (List ℕ) × Bor (List ℕ))) → option_map (λ row. row.2.now) row ≡ option_map (λ entry. entry.text) (option_map entry_of row)
    first-of (Some row) = refl
    first-of None = refl

-- where two lists of entries stand behind one another, the first is asked first
pub text-append : (xs ys : List Entry) (topic : List ℕ) → text_on (xs ++ ys) topic ≡ option_or (text_on xs topic) (text_on ys topic)
text-append [] ys topic = refl
text-append (x ∷ xs) ys topic =
    elim (bytes_eq x.topic topic) as (λ b. option_map (λ e. e.text) (cond b (Some x) (entry_on (xs ++ ys) topic)) ≡ option_or (option_map (λ e. e.text) (cond b (Some x) (entry_on xs topic))) (text_on ys topic))
    [ true ↦ refl | false ↦ text-append xs ys topic ]

-- the tables from one on are that one and those behind it
told-next : (tables : List (Bor (List (Bor (List ℕ) × Bor (List ℕ) × Bor (List ℕ))))) (i : ℕ) (d : Bor (List (Bor (List ℕ) × Bor (List ℕ) × Bor (List ℕ))))
    → i < length tables → told (drop i tables) ≡ map entry_of (get_or tables i d).now ++ told (drop (i + 1) tables)
told-next tables i d below = ap told (drop-cons tables i d below) ∙ ap (λ n. map entry_of (get_or tables i d).now ++ told (drop n tables)) (sym (add-one i))

-- of the tables from one on that one is asked first
pub text-next : (tables : List (Bor (List (Bor (List ℕ) × Bor (List ℕ) × Bor (List ℕ))))) (i : ℕ) (d : Bor (List (Bor (List ℕ) × Bor (List ℕ) × Bor (List ℕ)))) (topic : List ℕ)
    → i < length tables
    → text_on (told (drop i tables)) topic ≡ option_or (text_on (map entry_of (get_or tables i d).now) topic) (text_on (told (drop (i + 1) tables)) topic)
text-next tables i d topic below = ap (λ entries. text_on entries topic) (told-next tables i d below) ∙ text-append (map entry_of (get_or tables i d).now) (told (drop (i + 1) tables)) topic
