-- The bytes of the text stand first from there on.
use Rattle.std.proofs.Common.{◌≡◌, Bool, true, false, List, ℕ, drop, length, take, refl, sym, ap, ◌∙◌}
use Rattle.std.specs.Prelude.{bytes_eq}
use Rattle.std.proofs.lemmas.Bool.{false≢true}
use Rattle.std.proofs.lemmas.List.{take_rest}
use Rattle.std.proofs.lemmas.Slice.Eq.{bytes_eq-Decides}
use Rattle.taken_places.proofs.marked.begins_at.Goals as goal

either_way : (xs ys : List ℕ) → bytes_eq xs ys ≡ bytes_eq ys xs
either_way xs ys = go (bytes_eq xs ys) (bytes_eq ys xs) refl refl
  where
    go : (a b : Bool) → bytes_eq xs ys ≡ a → bytes_eq ys xs ≡ b → a ≡ b
    go true true e f = refl
    go false false e f = refl
    go true false e f = absurd (false≢true (sym f ∙ (bytes_eq-Decides ys xs).1 (sym ((bytes_eq-Decides xs ys).0 e))))
    go false true e f = absurd (false≢true (sym e ∙ (bytes_eq-Decides xs ys).1 (sym ((bytes_eq-Decides ys xs).0 f))))

pub returns : goal.returns
returns c =
    let text : List ℕ = c.args.text.now in
    c.starts_with.ensures.value ∙ ap (λ (xs : List ℕ). bytes_eq text (take (length text) xs)) (take_rest c.args.table.now c.args.at) ∙ either_way text (take (length text) (drop c.args.at c.args.table.now))
