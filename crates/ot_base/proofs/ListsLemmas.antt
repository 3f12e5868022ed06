-- What one more line adds to the lists.
use Rattle.std.proofs.Common.{◌≡◌, ℕ, ◌+◌, ◌-◌, ◌<◌, ◌≤◌, true, false, Bool, cond, List, [], ◌∷◌, ◌++◌, length, take, drop, get_or, map, filter, Some, None, refl, sym, ap, ◌∙◌, append_assoc, arith, add-zero}
use Rattle.std.specs.Prelude.{codes, nat_lt, position, ◌==◌}
use Rattle.std.specs.List.{after_first, before_first, position_or_len}
use Rattle.std.proofs.lemmas.Bool.Decides.{nat_tests}
use Rattle.std.proofs.lemmas.List.{drop-drop, get_or-drop, length-drop, take_more, take_rest}
use Rattle.std.proofs.lemmas.List.Splits.{slice_split_first, slice_split_none}
use Rattle.std.proofs.lemmas.List.Sums.{fails_before_first}
use Rattle.std.specs.Str.{bytes_eq}
use Rattle.std.specs.Ordering.{nat_cmp}
use Rattle.std.specs.Cmp.Lexicographic.{slice_cmp, nat_list_cmp_total}
use Rattle.std.specs.FinSet.{insert, from_list, from_list_push, nat_cmp-IsAntisymmetric, slice_cmp-IsAntisymmetric}
use Rattle.ot_base.specs.NamesFile.{first_word, lines, rest_of, names_added}
use Rattle.ot_base.specs.NameLists.{built_in, kernel_never_returning, kernel_access_safe, kernel_loose, kernel_switching, with_line, with_lines, with_name}

-- what a line adds to the list with this word
abbrev added_by : List ℕ → List ℕ → List (List ℕ)
added_by word line = cond (bytes_eq (first_word line) word) (rest_of line ∷ []) []

names_added_push : (word : List ℕ) (ls : List (List ℕ)) (line : List ℕ) → names_added word (ls ++ line ∷ []) ≡ names_added word ls ++ added_by word line
unfolding names_added
names_added_push word [] line =
    elim (bytes_eq (first_word line) word) as (λ b. map rest_of (cond b (line ∷ []) []) ≡ cond b (rest_of line ∷ []) []) [ true ↦ refl | false ↦ refl ]
names_added_push word (l ∷ ls) line =
    elim (bytes_eq (first_word l) word) as (λ b. map rest_of (cond b (l ∷ filter (λ line. bytes_eq (first_word line) word) (ls ++ line ∷ [])) (filter (λ line. bytes_eq (first_word line) word) (ls ++ line ∷ []))) ≡ map rest_of (cond b (l ∷ filter (λ line. bytes_eq (first_word line) word) ls) (filter (λ line. bytes_eq (first_word line) word) ls)) ++ added_by word line) [
      | true ↦ ap (λ names. rest_of l ∷ names) (names_added_push word ls line)
      | false ↦ names_added_push word ls line
    ]

list_push : (names : List (List ℕ)) (name : List ℕ) → from_list {R = slice_cmp nat_cmp} (names ++ name ∷ []) ≡ insert (from_list names) name
list_push names name = from_list_push nat_list_cmp_total (slice_cmp-IsAntisymmetric nat_cmp-IsAntisymmetric) names name

append-nil : (names : List (List ℕ)) → names ++ [] ≡ names
append-nil [] = refl
append-nil (name ∷ names) = ap (λ ns. name ∷ ns) (append-nil names)

one_more : (word line : List ℕ) (names : List (List ℕ)) → from_list {R = slice_cmp nat_cmp} (names ++ added_by word line) ≡ with_name word line (from_list names)
one_more word line names =
    elim (bytes_eq (first_word line) word) as (λ b. from_list {R = slice_cmp nat_cmp} (names ++ cond b (rest_of line ∷ []) []) ≡ cond b (insert (from_list names) (rest_of line)) (from_list names)) [
      | true ↦ list_push names (rest_of line)
      | false ↦ ap from_list (append-nil names)
    ]

list_more : (base : List (List ℕ)) (word : List ℕ) (ls : List (List ℕ)) (line : List ℕ) → from_list {R = slice_cmp nat_cmp} (base ++ names_added word (ls ++ line ∷ [])) ≡ with_name word line (from_list (base ++ names_added word ls))
list_more base word ls line =
    ap (λ names. from_list (base ++ names)) (names_added_push word ls line)
    ∙ ap from_list (sym (append_assoc base (names_added word ls) (added_by word line)))
    ∙ one_more word line (base ++ names_added word ls)

-- one more line
pub with_lines_more : (ls : List (List ℕ)) (line : List ℕ) → with_lines (ls ++ line ∷ []) ≡ with_line (with_lines ls) line
unfolding with_lines with_line
with_lines_more ls line i = record {
  never_returning = list_more kernel_never_returning (codes "noreturn") ls line i;
  access_safe = list_more kernel_access_safe (codes "uaccess") ls line i;
  loose = list_more kernel_loose (codes "loose") ls line i;
  switching = list_more kernel_switching (codes "switch") ls line i;
}

-- no line
pub with_no_line : with_lines [] ≡ built_in
unfolding with_lines built_in names_added
with_no_line = refl

-- the first line of a text, by where its LF is
first_line : (text : List ℕ) → position_or_len (λ b. b == 10) text < length text → lines text ≡ before_first (λ b. b == 10) text ∷ lines (after_first (λ b. b == 10) text)
first_line text within = slice_split_first (λ b. b == 10) text 0 within

end_is : (test : Bool) (n end : ℕ) → Some end ≡ cond test (Some n) None → (test ≡ true) × (end ≡ n)
end_is true n end h = (refl, cc)
end_is false n end h = cc

no_end_is : (test : Bool) (n : ℕ) → None ≡ cond test (Some n) None → test ≡ false
no_end_is true n h = cc
no_end_is false n h = refl

inside : (n m : ℕ) → nat_lt n m ≡ true → n < m
inside n m h = grind (arith, nat_tests)

beyond : (n m : ℕ) → nat_lt n m ≡ false → m ≤ n
beyond n m h = grind (arith, nat_tests)

whole_rest : (text : List ℕ) (n : ℕ) → take (length text - n) (drop n text) ≡ drop n text
whole_rest text n = take_rest text n

pub line_at : (text : List ℕ) (end : ℕ) → Some end ≡ position (λ b. b == 10) text → lines text ≡ take end text ∷ lines (take (length text - (end + 1)) (drop (end + 1) text))
line_at text end h =
    let e = end_is _ (position_or_len (λ b. b == 10) text) end h in
    first_line text (inside _ _ e.0)
    ∙ ap (λ n. take n text ∷ lines (drop (n + 1) text)) (sym e.1)
    ∙ ap (λ rest. take end text ∷ lines rest) (sym (whole_rest text (end + 1)))

pub last_line : (text : List ℕ) → None ≡ position (λ b. b == 10) text → lines text ≡ text ∷ []
last_line text h =
    let none = beyond _ _ (no_end_is _ (position_or_len (λ b. b == 10) text) h) in
    slice_split_none (λ b. b == 10) text (λ k d within. fails_before_first (λ b. b == 10) text k d (omega arith))

-- the next of some lines
module _ (ls : List (List ℕ)) (n : ℕ) (line : List ℕ) (more : List (List ℕ)) (left : drop n ls ≡ line ∷ more) where
  pub line_inside : n < length ls
  line_inside =
      let e : length (drop n ls) ≡ length (line ∷ more) = ap length left in
      omega (arith, length-drop n ls)

  pub line_is : get_or ls n [] ≡ line
  line_is = ap (λ k. get_or ls k []) (sym (add-zero n)) ∙ sym (get_or-drop n ls 0 []) ∙ ap (λ rest. get_or rest 0 []) left

  pub lines_after : drop (n + 1) ls ≡ more
  lines_after = sym (drop-drop 1 n ls) ∙ ap (drop 1) left

  pub lines_before : take (n + 1) ls ≡ take n ls ++ line ∷ []
  lines_before = take_more ls n [] line_inside ∙ ap (λ l. take n ls ++ l ∷ []) line_is

-- behind the last line there is none
pub no_line_left : (ls : List (List ℕ)) (n : ℕ) → drop n ls ≡ [] → length ls ≤ n
no_line_left ls n none =
    let e : length (drop n ls) ≡ 0 = ap length none in
    omega (arith, length-drop n ls)
