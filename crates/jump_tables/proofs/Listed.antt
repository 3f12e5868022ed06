-- Whether one of a list passes a test.
use Rattle.std.proofs.Common.{◌≡◌, ℕ, suc, ◌<◌, Bool, false, ◌||◌, List, [], ◌∷◌, length, get_or, refl, arith, ap, ◌∙◌}
use Rattle.std.specs.List.{list_any}

pub none_any : {X : Type 0} (p : X → Bool) (xs : List X) (d : X) → ((k : ℕ) → k < length xs → p (get_or xs k d) ≡ false) → list_any p xs ≡ false
none_any p [] d none = refl
none_any p (x ∷ xs) d none =
    ap (λ b. b || list_any p xs) (none 0 (omega arith))
    ∙ none_any p xs d (λ k inside. none (suc k) (omega arith))
