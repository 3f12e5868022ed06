-- The lines of a text from its parts.
use Rattle.std.proofs.Common.{◌≡◌, ℕ, ◌-◌, true, false, cond, List, [], length, map, take, get_or, sym, ap, ◌∙◌, Some}
use Rattle.std.specs.Prelude.{slice_get}
use Rattle.std.proofs.lemmas.List.{get_or-map, length-map, take-map}
use Rattle.std.proofs.lemmas.Option.{get_or_from_slice_get, slice_get_within}
use Rattle.orc_walk.specs.Lines.{ends_empty, without_empty_end}

module _ {K : Type 0} (text : K → List ℕ) where
  -- the last part, where there is one
  pub last_part : (xs : List K) (x : K) → slice_get xs (length xs - 1) ≡ Some x → get_or (map text xs) (length (map text xs) - 1) [] ≡ text x
  last_part xs x there =
      ap (λ n. get_or (map text xs) (n - 1) []) (length-map xs text)
      ∙ get_or-map text xs (length xs - 1) x [] (slice_get_within xs (length xs - 1) x there)
      ∙ ap text (get_or_from_slice_get xs (length xs - 1) x x there)

  -- all parts but an empty last one
  pub shorter : (xs ys : List K) (parts : List (List ℕ)) → map text xs ≡ parts → ends_empty (map text xs) ≡ true → ys ≡ take (length xs - 1) xs → map text ys ≡ without_empty_end parts
  shorter xs ys parts same empty rest =
      ap (map text) rest
      ∙ sym (take-map text (length xs - 1) xs)
      ∙ ap (λ n. take (n - 1) (map text xs)) (sym (length-map xs text))
      ∙ sym (ap (λ b. cond b (take (length (map text xs) - 1) (map text xs)) (map text xs)) empty)
      ∙ ap without_empty_end same

  -- all parts
  pub as_long : (xs : List K) (parts : List (List ℕ)) → map text xs ≡ parts → ends_empty (map text xs) ≡ false → map text xs ≡ without_empty_end parts
  as_long xs parts same full =
      sym (ap (λ b. cond b (take (length (map text xs) - 1) (map text xs)) (map text xs)) full)
      ∙ ap without_empty_end same
