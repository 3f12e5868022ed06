-- A name has a text where this begins at an offset of the table of names, between the name's start and its end.
use Rattle.std.proofs.Common.{◌≡◌, ℕ, ◌+◌, ◌-◌, ◌<◌, ◌≤◌, Bool, true, false, List, [], ◌∷◌, ◌++◌, inl, inr, take, drop, slice_range, length, get_or, length-take, length-drop, arith, refl, sym, ap, ◌∙◌}
use Rattle.std.specs.Prelude.{bytes_eq}
use Rattle.std.specs.List.{range_with_len}
use Rattle.std.proofs.lemmas.Bool.{cases_lt, false≢true}
use Rattle.std.proofs.lemmas.Slice.Eq.{bytes_eq-Decides}
use Rattle.std.proofs.lemmas.List.{drop-drop, drop-take, get_or_append_left, get_or_push, length_push, take-take}
use Rattle.std.proofs.lemmas.List.Folds.{Any-from_list_any, list_any_at}
use Rattle.std.proofs.lemmas.List.FromFn.{get_or-range_with_len, length-range_with_len}
use Rattle.taken_places.specs.Marks.{AreStarts, begins_at}
use Rattle.flow_defs.specs.TableFields.{begins_with}
use Rattle.taken_places.specs.Taken.{has_text}

-- what stands at an offset of a piece of a table stands in the table
in_piece : (table : List ℕ) (start n i len : ℕ) → i + len ≤ n → take len (drop i (take n (drop start table))) ≡ take len (drop (start + i) table)
in_piece table start n i len fits =
    ap (λ (k : ℕ). take len (drop i (take k (drop start table)))) (omega arith)
    ∙ ap (take len) (drop-take i (n - i) (drop start table))
    ∙ take-take len (n - i) (drop i (drop start table)) (omega arith)
    ∙ ap (take len) (drop-drop i start table)

module _ (text table : List ℕ) (starts : List ℕ) (are : AreStarts text table (length table) starts) (some : 0 < length text) (start end : ℕ) (inside : start ≤ end) (within : end ≤ length table) where
  abbrev name : List ℕ
  name = slice_range table start end

  name_long : length name ≡ end - start
  name_long = (let a = length-take (end - start) (drop start table) in let b = length-drop start table in omega arith)

  -- a start between the two
  pub has_it : (k : ℕ) → k < length starts → start ≤ get_or starts k 0 → get_or starts k 0 + length text ≤ end → has_text text name ≡ true
  has_it k low from to =
      let at : ℕ = get_or starts k 0 in
      let i : ℕ = at - start in
      let n = name_long in
      let long = length-range_with_len 0 (length name) in
      let index : get_or (range_with_len 0 (length name)) i 0 ≡ i = omega (arith, get_or-range_with_len 0 (length name) i 0 (omega arith)) in
      let same : take (length text) (drop i name) ≡ take (length text) (drop at table) =
      in_piece table start (end - start) i (length text) (omega arith) ∙ ap (λ (k : ℕ). take (length text) (drop k table)) (omega arith) in
      list_any_at (λ i. begins_with (drop i name) text) (range_with_len 0 (length name)) i 0 (omega arith)
      (ap (λ (k : ℕ). begins_with (drop k name) text) index ∙ ap (λ (xs : List ℕ). bytes_eq xs text) same ∙ are.each k 0 low)

  -- where there is none, the name hasn't the text
  pub has_not : ((k : ℕ) → k < length starts → start ≤ get_or starts k 0 → get_or starts k 0 + length text ≤ end → ⊥) → (b : Bool) → has_text text name ≡ b → b ≡ false
  has_not none false e = refl
  has_not none true e =
      let any = Any-from_list_any (λ i. begins_with (drop i name) text) (range_with_len 0 (length name)) e in
      absurd (found any.0 any.1 any.2 any.3 any.4)
    where
      found : (j i : ℕ) → j < length (range_with_len 0 (length name)) → get_or (range_with_len 0 (length name)) j i ≡ i → begins_with (drop i name) text ≡ true → ⊥
      found j i low is begins =
          let long = length-range_with_len 0 (length name) in
          let index : get_or (range_with_len 0 (length name)) j i ≡ j = omega (arith, get_or-range_with_len 0 (length name) j i (omega arith)) in
          let n = name_long in
          let eq : take (length text) (drop i name) ≡ text = (bytes_eq-Decides (take (length text) (drop i name)) text).0 begins in
          let size : length (take (length text) (drop i name)) ≡ length text = ap length eq in
          let a = length-take (length text) (drop i name) in
          let b = length-drop i name in
          let fits : i + length text ≤ end - start = omega arith in
          let there : begins_at text table (start + i) ≡ true = ap (λ (xs : List ℕ). bytes_eq xs text) (sym (in_piece table start (end - start) i (length text) fits)) ∙ begins in
          let at = are.all (start + i) (omega arith) there in
          let is : get_or starts at.0 0 ≡ start + i = at.2 0 in
          none at.0 at.1 (omega arith) (omega arith)

-- ---- the offsets as they are listed

pub no_starts : (text table : List ℕ) → AreStarts text table 0 []
no_starts text table = record {
  each = λ k d low. absurd (omega arith);
  below = λ k d low. absurd (omega arith);
  all = λ at low begins. absurd (omega arith);
  rising = λ i j d order low. absurd (omega arith);
}

pub starts_same : (text table : List ℕ) (at : ℕ) (starts : List ℕ) → begins_at text table at ≡ false → AreStarts text table at starts → AreStarts text table (at + 1) starts
starts_same text table at starts fails are = record {
  each = are.each;
  below = λ k d low. let b = are.below k d low in omega arith;
  all = λ other low begins. elim (cases_lt other at) [
    | inl before ↦ are.all other before begins
    | inr past ↦ let same : other ≡ at = omega arith in absurd (false≢true (sym fails ∙ ap (begins_at text table) (sym same) ∙ begins))
  ];
  rising = are.rising;
}

pub starts_more : (text table : List ℕ) (at : ℕ) (starts : List ℕ) → begins_at text table at ≡ true → AreStarts text table at starts → AreStarts text table (at + 1) (starts ++ at ∷ [])
starts_more text table at starts begins are = record {
  each = λ k d low. elim (cases_lt k (length starts)) [
    | inl before ↦ ap (begins_at text table) (front k d before) ∙ are.each k d before
    | inr past ↦ ap (begins_at text table) (last k d (at_end k low past)) ∙ begins
  ];
  below = λ k d low. elim (cases_lt k (length starts)) [
    | inl before ↦ (let b = are.below k d before in let f = front k d before in omega arith)
    | inr past ↦ (let l = last k d (at_end k low past) in omega arith)
  ];
  all = λ other low at_other. elim (cases_lt other at) [
    | inl before ↦ (let found = are.all other before at_other in (found.0, (let more = length_push starts at in let f = found.1 in omega arith), λ d. front found.0 d found.1 ∙ found.2 d))
    | inr past ↦ (length starts, (let more = length_push starts at in omega arith), λ d. last (length starts) d refl ∙ omega arith)
  ];
  rising = λ i j d order low. elim (cases_lt j (length starts)) [
    | inl before ↦ (let r = are.rising i j d order before in let f = front i d (omega arith) in let g = front j d before in omega arith)
    | inr past ↦ (
        let end = at_end j low past in
        let b = are.below i d (omega arith) in
        let f = front i d (omega arith) in
        let l = last j d end in
        omega arith)
  ];
}
  where
    front : (k d : ℕ) → k < length starts → get_or (starts ++ at ∷ []) k d ≡ get_or starts k d
    front k d low = get_or_append_left starts (at ∷ []) d k low

    last : (k d : ℕ) → length starts ≡ k → get_or (starts ++ at ∷ []) k d ≡ at
    last k d e = get_or_push starts at d k e

    at_end : (k : ℕ) → k < length (starts ++ at ∷ []) → length starts ≤ k → length starts ≡ k
    at_end k low past = let more = length_push starts at in omega arith

-- ---- the marks as they are listed

-- the marks of the first sections are these
pub record AreMarksTo (f : ℕ → Bool) (n : ℕ) (marks : List Bool) : Type 0 where
  pub long : length marks ≡ n
  pub told : (k : ℕ) → k < n → get_or marks k false ≡ f k

pub no_marks : (f : ℕ → Bool) → AreMarksTo f 0 []
no_marks f = record { long = refl; told = λ k low. absurd (omega arith) }

pub marks_more : (f : ℕ → Bool) (n : ℕ) (marks : List Bool) (mark : Bool) → AreMarksTo f n marks → mark ≡ f n → AreMarksTo f (n + 1) (marks ++ mark ∷ [])
marks_more f n marks mark are here = record {
  long = length_push marks mark ∙ ap (λ (k : ℕ). k + 1) are.long;
  told = λ k low. elim (cases_lt k n) [
    | inl before ↦ (get_or_append_left marks (mark ∷ []) false k (let l = are.long in omega arith) ∙ are.told k before)
    | inr past ↦ (
        let at : length marks ≡ k = (let l = are.long in omega arith) in
        let own : n ≡ k = omega arith in
        get_or_push marks mark false k at ∙ here ∙ ap f own)
  ];
}
