-- A sorted list of names as a set of names.
use Rattle.std.proofs.Common.{◌≡◌, ℕ, ◌+◌, ◌<◌, Bool, true, false, ◌||◌, List, [], ◌∷◌, ◌++◌, length, map, take, get_or, refl, sym, ap, ◌∙◌}
use Rattle.std.specs.declared.cmp.Ordering.{Ordering}
use Rattle.std.specs.declared.cmp.Ordering.TheVariants.{Less, Equal, Greater}
use Rattle.std.specs.List.{list_any}
use Rattle.std.specs.Ordering.{nat_cmp, is_eq, eq_by_cmp, match_ordering}
use Rattle.std.specs.Cmp.Lexicographic.{slice_cmp, nat_list_cmp_total}
use Rattle.std.specs.BTreeSet.{insert_key}
use Rattle.std.specs.FinSet.{contains, insert, from_list, contains-from_list, contains-insert, from_list_push, same_set, IsAntisymmetric, nat_cmp-IsAntisymmetric, slice_cmp-IsAntisymmetric}
use Rattle.std.proofs.lemmas.List.{take_more}

abbrev bytes_cmp : List ℕ → List ℕ → Ordering
bytes_cmp = slice_cmp nat_cmp

exact : IsAntisymmetric bytes_cmp
exact = slice_cmp-IsAntisymmetric nat_cmp-IsAntisymmetric

or_same : (a b : Bool) → (a || b) ≡ (a || (a || b))
or_same true b = refl
or_same false b = refl

or_swap : (a b c : Bool) → (a || (b || c)) ≡ (b || (a || c))
or_swap true true c = refl
or_swap true false c = refl
or_swap false b c = refl

map_push : {X Y : Type 0} (f : X → Y) (xs : List X) (x : X) → map f (xs ++ x ∷ []) ≡ map f xs ++ f x ∷ []
map_push f [] x = refl
map_push f (y ∷ xs) x = ap (λ ys. f y ∷ ys) (map_push f xs x)

module _ {K : Type 0} (name : K → List ℕ) where
  -- the order of the names
  abbrev pub by_name : K → K → Ordering
  by_name x y = bytes_cmp (name x) (name y)

  any_map : (p : List ℕ → Bool) (ks : List K) → list_any (λ k. p (name k)) ks ≡ list_any p (map name ks)
  any_map p [] = refl
  any_map p (k ∷ ks) = ap (λ b. p (name k) || b) (any_map p ks)

  -- one passes after a key is put in where the key passes, or one passed before
  any_insert : (p : List ℕ → Bool) (ks : List K) (k : K) → list_any p (map name (insert_key by_name ks k)) ≡ (p (name k) || list_any p (map name ks))
  any_insert p [] k = refl
  any_insert p (x ∷ ks) k =
      elim (by_name k x) as (λ o. by_name k x ≡ o → list_any p (map name (match_ordering o (k ∷ x ∷ ks) (x ∷ ks) (x ∷ insert_key by_name ks k))) ≡ (p (name k) || (p (name x) || list_any p (map name ks)))) [
        | Less ↦ λ _. refl
        | Equal ↦ λ tie. or_same (p (name x)) _ ∙ ap (λ n. p n || (p (name x) || list_any p (map name ks))) (sym (exact _ _ tie))
        | Greater ↦ λ _. ap (λ b. p (name x) || b) (any_insert p ks k) ∙ or_swap (p (name x)) (p (name k)) _
      ] refl

  -- putting a key in adds its name
  pub set_insert : (ks : List K) (k : K) → from_list {R = bytes_cmp} (map name (insert_key by_name ks k)) ≡ insert (from_list (map name ks)) (name k)
  set_insert ks k = same_set nat_list_cmp_total exact _ _ (λ q.
      contains-from_list nat_list_cmp_total _ q
      ∙ any_insert (eq_by_cmp bytes_cmp q) ks k
      ∙ sym (contains-insert nat_list_cmp_total _ (name k) q ∙ ap (λ b. eq_by_cmp bytes_cmp q (name k) || b) (contains-from_list nat_list_cmp_total _ q)))

  -- looking among the keys is looking in the set of their names
  pub set_contains : (ks : List K) (q : List ℕ) → list_any (λ k. is_eq (bytes_cmp q (name k))) ks ≡ contains (from_list {R = bytes_cmp} (map name ks)) q
  set_contains ks q = any_map (eq_by_cmp bytes_cmp q) ks ∙ sym (contains-from_list nat_list_cmp_total _ q)

  -- one more key
  pub set_more : (ks : List K) (i : ℕ) (d : K) → i < length ks → from_list {R = bytes_cmp} (map name (take (i + 1) ks)) ≡ insert (from_list (map name (take i ks))) (name (get_or ks i d))
  set_more ks i d within =
      ap (λ x. from_list (map name x)) (take_more ks i d within)
      ∙ ap from_list (map_push name _ _)
      ∙ from_list_push nat_list_cmp_total exact _ _
