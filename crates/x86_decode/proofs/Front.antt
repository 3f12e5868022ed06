-- The loop over the prefixes.
use Rattle.std.proofs.Common.{◌≡◌, ℕ, ◌+◌, ◌<◌, ◌≤◌, Bool, true, false, cond, List, ◌∷◌, length, get_or, drop, Some, None, Err, refl, sym, ap, ◌∙◌}
use Rattle.x86_map.specs.declared.prefixes.Prefixes.{Prefixes}
use Rattle.x86_decode.specs.Prefix.{is_legacy}
use Rattle.x86_decode.specs.Reading.{noted, rex_at, prefixes_at}
use Rattle.x86_decode.specs.declared.reading.ReadStop.TheVariants.{More}
use Rattle.std.proofs.lemmas.List.{drop_all}
use Rattle.std.proofs.Math.Seq.{drop-cons}
use Rattle.std.proofs.Common.{add-one}

-- the byte at a place in the list, and those behind it
at_place : (p : Prefixes) (seen i : ℕ) (bytes : List ℕ) → i < length bytes → prefixes_at p seen (drop i bytes) ≡ prefixes_at p seen (get_or bytes i 0 ∷ drop (i + 1) bytes)
at_place p seen i bytes lt = ap (prefixes_at p seen) (rw (add-one, drop-cons bytes i 0) refl)

chosen : {A : Type 0} (b : Bool) (x y : A) → cond b (Some x) None ≡ Some y → (b ≡ true) × (x ≡ y)
chosen true x y h = (refl, cc)
chosen false x y h = absurd cc

refused : {A : Type 0} (b : Bool) (x : A) → cond b (Some x) None ≡ None → b ≡ false
refused true x h = absurd cc
refused false x h = refl

pub one_more : (p more : Prefixes) (seen i : ℕ) (bytes : List ℕ) → i < length bytes → cond (is_legacy (get_or bytes i 0)) (Some (noted (get_or bytes i 0) p)) None ≡ Some more → prefixes_at p seen (drop i bytes) ≡ prefixes_at more (seen + 1) (drop (i + 1) bytes)
unfolding prefixes_at
one_more p more seen i bytes lt is =
    let c = chosen (is_legacy (get_or bytes i 0)) (noted (get_or bytes i 0) p) more is in
    at_place p seen i bytes lt ∙ rw (c.0, c.1) refl

pub no_more : (p : Prefixes) (seen i : ℕ) (bytes : List ℕ) → i < length bytes → cond (is_legacy (get_or bytes i 0)) (Some (noted (get_or bytes i 0) p)) None ≡ None → prefixes_at p seen (drop i bytes) ≡ rex_at p seen (drop i bytes)
unfolding prefixes_at
no_more p seen i bytes lt is =
    let here : drop i bytes ≡ get_or bytes i 0 ∷ drop (i + 1) bytes = rw (add-one, drop-cons bytes i 0) refl in
    at_place p seen i bytes lt
    ∙ rw (refused (is_legacy (get_or bytes i 0)) (noted (get_or bytes i 0) p) is) refl
    ∙ sym (ap (rex_at p seen) here)

-- a front without an end
pub at_end : (p : Prefixes) (seen i : ℕ) (bytes : List ℕ) → length bytes ≤ i → prefixes_at p seen (drop i bytes) ≡ Err More
unfolding prefixes_at
at_end p seen i bytes le = ap (prefixes_at p seen) (drop_all i bytes le)
