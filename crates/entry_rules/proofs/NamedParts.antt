-- A name that begins with another, and is longer.
use Rattle.std.proofs.Common.{◌≡◌, ◌↔◌, ℕ, Bool, true, false, IsTrue, List, ◌&&◌, length, take, not, refl, sym, ap, ◌∙◌, inl, inr, arith}
use Rattle.std.specs.Prelude.{bytes_eq, nat_lt}
use Rattle.std.proofs.lemmas.Bool.{cases_lt, le-ltb, lt-ltb}
use Rattle.std.proofs.lemmas.Bool.Decides.{same_from_decides}
use Rattle.std.proofs.lemmas.List.{take_all}
use Rattle.std.proofs.lemmas.Slice.Eq.{bytes_eq-Decides}
use Rattle.entry_rules.specs.ObjectFacts.{is_part}

-- the test of two lists, by what it decides
told_equal : (b : Bool) (xs ys : List ℕ) → IsTrue b ↔ (xs ≡ ys) → b ≡ bytes_eq xs ys
told_equal b xs ys same = same_from_decides b (bytes_eq xs ys) same (bytes_eq-Decides xs ys)

module _ (name prefix : List ℕ) where
  -- where it begins so, it is longer unless it is the same
  longer : (alone : Bool) → IsTrue alone ↔ (name ≡ prefix) → take (length prefix) name ≡ prefix → not alone ≡ nat_lt (length prefix) (length name)
  longer true same begins = sym (le-ltb (length prefix) (length name) (let e : length name ≡ length prefix = ap length (same.0 refl) in omega arith))
  longer false same begins = elim (cases_lt (length prefix) (length name)) [
    | inl more ↦ sym (lt-ltb (length prefix) (length name) more)
    | inr short ↦ sym (same.1 (sym (take_all (length prefix) name short) ∙ begins)) ∙ sym (le-ltb (length prefix) (length name) short)
  ]

  pub is_longer : (begins alone : Bool) → IsTrue begins ↔ (take (length prefix) name ≡ prefix) → IsTrue alone ↔ (name ≡ prefix) → (begins && not alone) ≡ is_part name prefix
  is_longer true alone has same = longer alone same (has.0 refl) ∙ ap (λ (b : Bool). b && nat_lt (length prefix) (length name)) (told_equal true (take (length prefix) name) prefix has)
  is_longer false alone has same = ap (λ (b : Bool). b && nat_lt (length prefix) (length name)) (told_equal false (take (length prefix) name) prefix has)
