-- A text of parts, one for each of some things, part by part.
use Rattle.std.proofs.Common.{◌≡◌, ℕ, suc, ◌+◌, ◌<◌, ◌≤◌, List, [], ◌∷◌, ◌++◌, length, take, drop, get_or, sym, ap, ◌∙◌, subst, append-nil, append_assoc, drop-cons}
use Rattle.std.specs.Prelude.{Option}
use Rattle.std.specs.List.{flat_map}
use Rattle.std.proofs.lemmas.Grind.{flat_map-append}
use Rattle.std.proofs.lemmas.List.{take-append-drop, take_all, take_more}
use Rattle.ot_files.specs.Output.{appending}
use Rattle.command_base.specs.declared.status.Status.{Status}
use Rattle.command_base.specs.Outside.{Output}
use Rattle.command_base.specs.Printing.{FailsToPrint}
use Rattle.command_base.proofs.PrintLemmas.{appended_twice, part_unprinted}

module _ {X : Type 0} (f : X → List ℕ) (xs : List X) where
  -- those before an index, and those from it on
  text_split : (i : ℕ) → flat_map f xs ≡ flat_map f (take i xs) ++ flat_map f (drop i xs)
  text_split i = ap (λ (all : List X). flat_map f all) (sym (take-append-drop i xs)) ∙ flat_map-append f (take i xs) (drop i xs)

  text_around : (i : ℕ) (d : X) → i < length xs → flat_map f xs ≡ flat_map f (take i xs) ++ f (get_or xs i d) ++ flat_map f (drop (suc i) xs)
  text_around i d inside =
      text_split i
      ∙ ap (λ (rest : List ℕ). flat_map f (take i xs) ++ rest) (ap (λ (rest : List X). flat_map f rest) (drop-cons xs i d inside))
      ∙ sym (append_assoc (flat_map f (take i xs)) (f (get_or xs i d)) (flat_map f (drop (suc i) xs)))

  -- with one more
  text_more : (i : ℕ) (d : X) → i < length xs → flat_map f (take (i + 1) xs) ≡ flat_map f (take i xs) ++ f (get_or xs i d)
  text_more i d inside =
      ap (λ (some : List X). flat_map f some) (take_more xs i d inside)
      ∙ flat_map-append f (take i xs) (get_or xs i d ∷ [])
      ∙ ap (λ (part : List ℕ). flat_map f (take i xs) ++ part) (append-nil (f (get_or xs i d)))

  pub part_fails_at : (i : ℕ) (d : X) (before middle after : Output) (s : Status) → i < length xs → middle.written ≡ appending before.written (flat_map f (take i xs)) → before.faults ≤ middle.faults → FailsToPrint (f (get_or xs i d)) middle after s → FailsToPrint (flat_map f xs) before after s
  part_fails_at i d before middle after s inside so later h =
      subst (λ (text : List ℕ). FailsToPrint text before after s) (sym (text_around i d inside))
      (part_unprinted (flat_map f (take i xs)) (f (get_or xs i d)) (flat_map f (drop (suc i) xs)) before middle after s so later h)

  pub part_printed : (i : ℕ) (d : X) (before middle after : Option (List ℕ)) → i < length xs → middle ≡ appending before (flat_map f (take i xs)) → after ≡ appending middle (f (get_or xs i d)) → after ≡ appending before (flat_map f (take (i + 1) xs))
  part_printed i d before middle after inside so more =
      more
      ∙ ap (λ (told : Option (List ℕ)). appending told (f (get_or xs i d))) so
      ∙ appended_twice before (flat_map f (take i xs)) (f (get_or xs i d))
      ∙ ap (λ (text : List ℕ). appending before text) (sym (text_more i d inside))

  pub all_printed : (i : ℕ) (before after : Option (List ℕ)) → length xs ≤ i → after ≡ appending before (flat_map f (take i xs)) → after ≡ appending before (flat_map f xs)
  all_printed i before after all so = so ∙ ap (λ (some : List X). appending before (flat_map f some)) (take_all i xs all)

-- one more part behind words, piece by piece
pub pushed_more : {X : Type 0} (f : X → List ℕ) (xs : List X) (i : ℕ) (d : X) (initial old middle new words part : List ℕ) → i < length xs → old ≡ initial ++ flat_map f (take i xs) → middle ≡ old ++ words → new ≡ middle ++ part → f (get_or xs i d) ≡ words ++ part → new ≡ initial ++ flat_map f (take (i + 1) xs)
pushed_more f xs i d initial old middle new words part inside so first second is =
    second
    ∙ ap (λ (text : List ℕ). text ++ part) (first ∙ ap (λ (text : List ℕ). text ++ words) so)
    ∙ append_assoc (initial ++ flat_map f (take i xs)) words part
    ∙ append_assoc initial (flat_map f (take i xs)) (words ++ part)
    ∙ ap (λ (text : List ℕ). initial ++ text) (ap (λ (last : List ℕ). flat_map f (take i xs) ++ last) (sym is) ∙ sym (text_more f xs i d inside))
