-- The SAVEs and RESTOREs in the lists of an object.
use Rattle.std.proofs.Common.{◌≡◌, ℕ, ◌<◌, ◌≤◌, ◌+◌, Bool, true, List, [], ◌∷◌, filter, length, get_or, Option, Some, None, All, Contains, inl, inr, refl, ap, ◌∙◌, subst, arith}
use Rattle.std.specs.Prelude.{filter_map, option_map}
use Rattle.std.specs.List.{cons_option, AllByRecursion}
use Rattle.std.specs.List.Sorted.{IsPermutation}
use Rattle.std.proofs.lemmas.List.Elements.{All-from_get_or, Contains-get_or}
use Rattle.std.proofs.lemmas.List.Sorted.{Contains-permutation, IsPermutation-sym}
use Rattle.flow_defs.specs.Coded.{Coded}
use Rattle.alternatives.proofs.Ascending.{contains_in, every-filter, every-from_in, every-in, every-map, every-passes, every-range, in-filter, in-map, in-range, in_contains, In}
use Rattle.flow_defs.specs.Code.{point_at, points_of_object}
use Rattle.object_points.specs.Hinted.{is_restore_at, is_save_at, numbers_of_points, restores_of, save_at, saves_of, AreSaves}
use Rattle.object_points.specs.Meanings.{meaning_of, meanings_of, nearest_save}
use Rattle.object_points.specs.declared.meanings.Meaning.{Meaning}
use Rattle.object_points.specs.declared.saves.SavePoint.{SavePoint}

-- the numbers of points that pass a test
module _ (o : Coded) (p : ℕ → Bool) where
  abbrev numbers : List ℕ
  numbers = filter p (numbers_of_points o)

  pub passing_in : (n : ℕ) → n < length (points_of_object o) → p n ≡ true → In n numbers
  passing_in n inside passes = in-filter p (numbers_of_points o) n (in-range 0 (length (points_of_object o)) n (omega arith) (omega arith)) passes

  pub in_passes : (n : ℕ) → In n numbers → p n ≡ true
  in_passes n listed = every-in (λ k. p k ≡ true) numbers n (every-passes p (numbers_of_points o)) listed

  pub in_below : (n : ℕ) → In n numbers → n < length (points_of_object o)
  in_below n listed =
      let all : AllByRecursion (λ k. (0 ≤ k) × (k < 0 + length (points_of_object o))) numbers = every-filter (λ k. (0 ≤ k) × (k < 0 + length (points_of_object o))) p (numbers_of_points o) (every-range 0 (length (points_of_object o))) in
      let one = every-in (λ k. (0 ≤ k) × (k < 0 + length (points_of_object o))) numbers n all listed in
      omega (arith, one.1)

-- all RESTOREs are points
pub restores_inside : (o : Coded) → All (λ r. r < length (points_of_object o)) (restores_of o)
restores_inside o =
    All-from_get_or (λ r. r < length (points_of_object o)) (restores_of o) 0
    (λ k inside. in_below o (is_restore_at o) (get_or (restores_of o) k 0) (in_contains (restores_of o) (get_or (restores_of o) k 0) (Contains-get_or (restores_of o) k 0 inside)))

-- each SAVE of the object is listed
pub save_listed : (o : Coded) (saves : List SavePoint) (n : ℕ) → AreSaves o saves → n < length (points_of_object o) → is_save_at o n ≡ true → Contains saves (save_at o n)
save_listed o saves n are inside is =
    Contains-permutation (saves_of o) saves (save_at o n) are.all
    (contains_in (saves_of o) (save_at o n) (in-map (save_at o) (filter (is_save_at o) (numbers_of_points o)) n (passing_in o (is_save_at o) n inside is)))

-- and each that is listed is one
pub record IsSaveOf (o : Coded) (s : SavePoint) : Type 0 where
  pub inside : s.number < length (points_of_object o)
  pub saves : is_save_at o s.number ≡ true
  pub is : s ≡ save_at o s.number

pub listed_save : (o : Coded) (saves : List SavePoint) (s : SavePoint) → AreSaves o saves → Contains saves s → IsSaveOf o s
listed_save o saves s are listed =
    every-in (IsSaveOf o) (saves_of o) s
    (every-map (IsSaveOf o) (save_at o) (filter (is_save_at o) (numbers_of_points o))
    (every-from_in (λ n. IsSaveOf o (save_at o n)) (filter (is_save_at o) (numbers_of_points o)) (λ n known. record { inside = in_below o (is_save_at o) n known; saves = in_passes o (is_save_at o) n known; is = refl })))
    (in_contains (saves_of o) s (Contains-permutation saves (saves_of o) s (IsPermutation-sym (saves_of o) saves are.all) listed))

-- what is made of an element
in-front : {Y : Type 0} (made : Option Y) (rest : List Y) (y : Y) → made ≡ Some y → In y (cons_option made rest)
in-front None rest y is = absurd (let k : ⊥ = cc in k)
in-front (Some z) rest y is = inl (let k : z ≡ y = cc in k)

in-rest : {Y : Type 0} (made : Option Y) (rest : List Y) (y : Y) → In y rest → In y (cons_option made rest)
in-rest None rest y h = h
in-rest (Some z) rest y h = inr h

pub in-made : {X Y : Type 0} (f : X → Option Y) (xs : List X) (x : X) (y : Y) → In x xs → f x ≡ Some y → In y (filter_map f xs)
in-made f [] x y h is = absurd h
in-made f (z ∷ xs) x y (inl same) is = in-front (f z) (filter_map f xs) y (ap f same ∙ is)
in-made f (z ∷ xs) x y (inr h) is = in-rest (f z) (filter_map f xs) y (in-made f xs x y h is)

every-front : {Y : Type 0} (P : Y → Type 0) (made : Option Y) (rest : List Y) → ((y : Y) → made ≡ Some y → P y) → AllByRecursion P rest → AllByRecursion P (cons_option made rest)
every-front P None rest one all = all
every-front P (Some y) rest one all = (one y refl, all)

every-made : {X Y : Type 0} (P : Y → Type 0) (f : X → Option Y) (xs : List X) → AllByRecursion (λ x. (y : Y) → f x ≡ Some y → P y) xs → AllByRecursion P (filter_map f xs)
every-made P f [] all = tt
every-made P f (x ∷ xs) all = every-front P (f x) (filter_map f xs) all.0 (every-made P f xs all.1)

-- a meaning of the object
pub record IsMeaningOf (o : Coded) (m : Meaning) : Type 0 where
  pub inside : m.restore < length (points_of_object o)
  pub restores : is_restore_at o m.restore ≡ true
  pub means : nearest_save o (point_at o m.restore) ≡ Some m.save

abbrev meaning : ℕ → ℕ → Meaning
meaning r s = record { save = s; restore = r }

made_by : (o : Coded) (r : ℕ) (found : Option ℕ) (m : Meaning) → r < length (points_of_object o) → is_restore_at o r ≡ true → nearest_save o (point_at o r) ≡ found → option_map (meaning r) found ≡ Some m → IsMeaningOf o m
made_by o r None m inside is found made = absurd (let k : ⊥ = cc in k)
made_by o r (Some s) m inside is found made =
    let same : meaning r s ≡ m = cc in
    subst (IsMeaningOf o) same (record { inside = inside; restores = is; means = found })

pub meaning_listed : (o : Coded) (meanings : List Meaning) (r s : ℕ) → IsPermutation (meanings_of o) meanings → r < length (points_of_object o) → is_restore_at o r ≡ true → nearest_save o (point_at o r) ≡ Some s → Contains meanings (meaning r s)
meaning_listed o meanings r s same inside is found =
    Contains-permutation (meanings_of o) meanings (meaning r s) same
    (contains_in (meanings_of o) (meaning r s) (in-made (meaning_of o) (restores_of o) r (meaning r s) (passing_in o (is_restore_at o) r inside is) (ap (option_map (meaning r)) found)))

pub listed_meaning : (o : Coded) (meanings : List Meaning) (m : Meaning) → IsPermutation (meanings_of o) meanings → Contains meanings m → IsMeaningOf o m
listed_meaning o meanings m same listed =
    every-in (IsMeaningOf o) (meanings_of o) m
    (every-made (IsMeaningOf o) (meaning_of o) (restores_of o)
    (every-from_in (λ r. (m : Meaning) → meaning_of o r ≡ Some m → IsMeaningOf o m) (restores_of o)
    (λ r known m made. made_by o r (nearest_save o (point_at o r)) m (in_below o (is_restore_at o) r known) (in_passes o (is_restore_at o) r known) refl made)))
    (in_contains (meanings_of o) m (Contains-permutation meanings (meanings_of o) m (IsPermutation-sym (meanings_of o) meanings same) listed))
