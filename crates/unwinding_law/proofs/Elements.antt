-- Facts on each number, from those on a few and on the rest; facts on elements of short lists.
use Rattle.std.proofs.Common.{ℕ, zero, suc, [], ◌∷◌, All}
use Rattle.std.proofs.lemmas.List.Elements.{All-nil, All-cons}

-- of each point of the worked program, and of what is none
pub each : (P : ℕ → Type 0) → P 0 → P 1 → P 2 → P 3 → P 4 → P 5 → P 6 → P 7 → P 8 → P 9 → P 10
    → ((q : ℕ) → P (suc (suc (suc (suc (suc (suc (suc (suc (suc (suc (suc q)))))))))))) → (q : ℕ) → P q
each P a b c d e f g h i j k rest zero = a
each P a b c d e f g h i j k rest (suc zero) = b
each P a b c d e f g h i j k rest (suc (suc zero)) = c
each P a b c d e f g h i j k rest (suc (suc (suc zero))) = d
each P a b c d e f g h i j k rest (suc (suc (suc (suc zero)))) = e
each P a b c d e f g h i j k rest (suc (suc (suc (suc (suc zero))))) = f
each P a b c d e f g h i j k rest (suc (suc (suc (suc (suc (suc zero)))))) = g
each P a b c d e f g h i j k rest (suc (suc (suc (suc (suc (suc (suc zero))))))) = h
each P a b c d e f g h i j k rest (suc (suc (suc (suc (suc (suc (suc (suc zero)))))))) = i
each P a b c d e f g h i j k rest (suc (suc (suc (suc (suc (suc (suc (suc (suc zero))))))))) = j
each P a b c d e f g h i j k rest (suc (suc (suc (suc (suc (suc (suc (suc (suc (suc zero)))))))))) = k
each P a b c d e f g h i j k rest (suc (suc (suc (suc (suc (suc (suc (suc (suc (suc (suc q))))))))))) = rest q

module _ {X : Type 0} (P : X → Type 0) where
  pub none : All P []
  none = All-nil P

  pub one : (x : X) → P x → All P (x ∷ [])
  one x h = All-cons P x [] h none

  pub two : (x y : X) → P x → P y → All P (x ∷ y ∷ [])
  two x y h k = All-cons P x (y ∷ []) h (one y k)
