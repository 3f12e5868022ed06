-- Bytes of pieces in another order.
use Rattle.std.proofs.Common.{◌≡◌, ℕ, zero, suc, ◌-◌, ◌<◌, ◌≤◌, Bool, true, false, cond, List, [], ◌∷◌, Option, Some, None, refl, sym, ◌∙◌, ap, leb, length, get_or, arith}
use Rattle.std.specs.Prelude.{All, AllPairs, Contains, slice_get}
use Rattle.std.specs.Option.{option_or}
use Rattle.std.proofs.lemmas.Bool.{le-leb, leb-true}
use Rattle.std.proofs.lemmas.List.Elements.{All-nil, All-cons, All-head, All-tail}
use Rattle.std.proofs.lemmas.List.Sorted.{All-permutation, Contains-permutation}
use Rattle.std.proofs.lemmas.Option.{none-some, slice_get_past}
use Rattle.orc_walk.specs.Memory.{Piece, end_of, byte_in, byte_at}
use Rattle.orc_walk.specs.ImageFile.{pieces_in}
use Rattle.orc_walk.specs.ImageLaws.{MemoryIsSaid}
use Rattle.orc_walk.proofs.PieceLemmas.{Before, pairs_tail}

begins : (p : Piece) (address byte : ℕ) → byte_in p address ≡ Some byte → p.base ≤ address
begins p address byte h = go (leb p.base address) refl
  where
    go : (b : Bool) → leb p.base address ≡ b → p.base ≤ address
    go true is = leb-true p.base address is
    go false is = absurd (none-some _ (sym (ap (λ b. cond b (slice_get p.bytes (address - p.base)) None) is) ∙ h))

past : (p : Piece) (address : ℕ) → end_of p ≤ address → byte_in p address ≡ None
past p address le =
    ap (λ b. cond b (slice_get p.bytes (address - p.base)) None) (le-leb p.base address (omega arith))
    ∙ slice_get_past p.bytes (address - p.base) (omega arith)

-- the piece that has the byte
record Has (pieces : List Piece) (address byte : ℕ) : Type 0 where
  piece : Piece
  among : Contains pieces piece
  is : byte_in piece address ≡ Some byte

later : (p : Piece) (ps : List Piece) (address byte : ℕ) → Has ps address byte → Has (p ∷ ps) address byte
later p ps address byte h = record { piece = h.piece; among = (suc h.among.0, omega (arith, h.among.1), h.among.2); is = h.is }

found : (ps : List Piece) (address byte : ℕ) → byte_at ps address ≡ Some byte → Has ps address byte
found [] address byte h = absurd (none-some _ h)
found (p ∷ ps) address byte h = go (found ps address byte) (byte_in p address) refl
  where
    go : (byte_at ps address ≡ Some byte → Has ps address byte) → (o : Option ℕ) → byte_in p address ≡ o → Has (p ∷ ps) address byte
    go rest None is = later p ps address byte (rest (sym (ap (λ o. option_or o (byte_at ps address)) is) ∙ h))
    go rest (Some b) is = record { piece = p; among = (0, omega arith, refl); is = is ∙ (sym (ap (λ o. option_or o (byte_at ps address)) is) ∙ h) }

-- in ascending pieces no other has it
there : (ps : List Piece) (p : Piece) (address byte k : ℕ) → AllPairs Before ps → k < length ps → get_or ps k p ≡ p → byte_in p address ≡ Some byte → byte_at ps address ≡ Some byte
there [] p address byte k pairs lt is h = absurd (omega arith)
there (q ∷ qs) p address byte zero pairs lt is h =
    ap (λ r. option_or (byte_in r address) (byte_at qs address)) is ∙ ap (λ o. option_or o (byte_at qs address)) h
there (q ∷ qs) p address byte (suc k) pairs lt is h =
    let before : end_of q ≤ (get_or qs k p).base = pairs 0 (suc k) p (omega arith) lt in
    let same : (get_or qs k p).base ≡ p.base = ap (λ (r : Piece). r.base) is in
    let from : p.base ≤ address = begins p address byte h in
    ap (λ o. option_or o (byte_at qs address)) (past q address (omega arith))
    ∙ there qs p address byte k (pairs_tail q qs pairs) (omega arith) is h

none_of : (ps : List Piece) (address : ℕ) → byte_at ps address ≡ None → All (λ p. byte_in p address ≡ None) ps
none_of [] address h = All-nil (λ p. byte_in p address ≡ None)
none_of (p ∷ ps) address h = go (none_of ps address) (byte_in p address) refl
  where
    go : (byte_at ps address ≡ None → All (λ p. byte_in p address ≡ None) ps) → (o : Option ℕ) → byte_in p address ≡ o → All (λ p. byte_in p address ≡ None) (p ∷ ps)
    go rest None is = All-cons (λ p. byte_in p address ≡ None) p ps is (rest (sym (ap (λ o. option_or o (byte_at ps address)) is) ∙ h))
    go rest (Some b) is = absurd (none-some _ (sym h ∙ ap (λ o. option_or o (byte_at ps address)) is))

none_at : (ps : List Piece) (address : ℕ) → All (λ p. byte_in p address ≡ None) ps → byte_at ps address ≡ None
none_at [] address none = refl
none_at (p ∷ ps) address none =
    ap (λ o. option_or o (byte_at ps address)) (All-head (λ p. byte_in p address ≡ None) p ps none)
    ∙ none_at ps address (All-tail (λ p. byte_in p address ≡ None) p ps none)

pub memory_is_said : MemoryIsSaid
memory_is_said all image address is = go (byte_at (pieces_in all) address) refl
  where
    go : (o : Option ℕ) → byte_at (pieces_in all) address ≡ o → byte_at image.memory address ≡ byte_at (pieces_in all) address
    go None none = none_at image.memory address (All-permutation (λ p. byte_in p address ≡ None) (pieces_in all) image.memory is.pieces (none_of (pieces_in all) address none)) ∙ sym none
    go (Some byte) some =
        let one = found (pieces_in all) address byte some in
        let among = Contains-permutation (pieces_in all) image.memory one.piece is.pieces one.among in
        there image.memory one.piece address byte among.0 is.ascending.ascending among.1 among.2 one.is ∙ sym some
