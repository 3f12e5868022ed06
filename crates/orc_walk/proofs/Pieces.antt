-- Finding the byte at an address among ascending pieces of memory.
use Rattle.std.proofs.Common.{◌≡◌, ℕ, zero, suc, ◌+◌, ◌-◌, ◌<◌, ◌≤◌, ◌^◌, cond, List, [], ◌∷◌, ◌++◌, Option, Some, None, Vec, Bor, refl, sym, ◌∙◌, ap, subst, inl, inr, length, get_or, take, add-zero, add-suc, add-one, set, arith}
use Rattle.std.specs.Prelude.{All, slice_get, option_map}
use Rattle.std.specs.List.{AllWithin}
use Rattle.std.specs.List.Sorted.{IsNonDecreasingBy, IsPartitionPoint}
use Rattle.std.specs.Option.{option_or, option_and_then, option_copied}
use Rattle.std.specs.declared.alloc.Global.{Global}
use Rattle.std.proofs.lemmas.Bool.{le-leb, lt-leb, cases_lt}
use Rattle.std.proofs.lemmas.List.{get_or-map, take_all}
use Rattle.std.proofs.lemmas.List.Elements.{All-tail}
use Rattle.std.proofs.lemmas.Option.{slice_get_past, slice_get_read}
use Rattle.std.specs.Slice.{IsItemAt}
use Rattle.std.specs.Int.{from_le_bytes, w64}
use Rattle.std.proofs.Math.Seq.{take-suc-set}
use Rattle.orc_walk.specs.Memory.{Piece, piece_of, pieces_of, end_of, IsMemory, byte_in, byte_at, bytes_at, word_at}

-- an address that no piece has isn't there
none_at : (pieces : List Piece) (address : ℕ) → All (λ p. byte_in p address ≡ None) pieces → byte_at pieces address ≡ None
none_at [] address none = refl
none_at (p ∷ ps) address none =
    ap (λ o. option_or o (byte_at ps address)) (none 0 p (omega arith))
    ∙ none_at ps address (All-tail (λ p. byte_in p address ≡ None) p ps none)

or_none : {A : Type 0} (o p : Option A) → p ≡ None → option_or o p ≡ o
or_none None p none = none
or_none (Some x) p none = refl

-- where none of the others has it, the piece at k tells
one_at : (pieces : List Piece) (k : ℕ) (d : Piece) (address : ℕ) → k < length pieces
    → AllWithin (λ p. byte_in p address ≡ None) pieces 0 k
    → AllWithin (λ p. byte_in p address ≡ None) pieces (k + 1) (length pieces)
    → byte_at pieces address ≡ byte_in (get_or pieces k d) address
one_at [] k d address lt before after = absurd (omega arith)
one_at (p ∷ ps) zero d address lt before after =
    or_none (byte_in p address) (byte_at ps address) (none_at ps address (λ i e h. after (suc i) e (omega arith) (omega arith)))
one_at (p ∷ ps) (suc k) d address lt before after =
    ap (λ o. option_or o (byte_at ps address)) (before 0 p (omega arith) (omega arith))
    ∙ one_at ps k d address (omega arith) (λ i e low high. before (suc i) e (omega arith) (omega arith)) (λ i e low high. after (suc i) e (omega arith) (omega arith))

below_base : (p : Piece) (address : ℕ) → address < p.base → byte_in p address ≡ None
below_base p address lt = ap (λ b. cond b (slice_get p.bytes (address - p.base)) None) (lt-leb p.base address lt)

past_end : (p : Piece) (address : ℕ) → end_of p ≤ address → byte_in p address ≡ None
past_end p address past =
    ap (λ b. cond b (slice_get p.bytes (address - p.base)) None) (le-leb p.base address (omega arith))
    ∙ slice_get_past p.bytes (address - p.base) (omega arith)

abbrev pub Ranges : Type 0
Ranges = List (ℕ × Vec ℕ Global)

piece_base : (ranges : Ranges) (i : ℕ) (d : ℕ × Vec ℕ Global) (e : Piece) → i < length ranges → (get_or (pieces_of ranges) i e).base ≡ (get_or ranges i d).0
piece_base ranges i d e lt = ap (λ p. p.base) (get_or-map piece_of ranges i d e lt)

pieces_length : (ranges : Ranges) → length (pieces_of ranges) ≡ length ranges
pieces_length [] = refl
pieces_length (r ∷ ranges) = ap (λ n. suc n) (pieces_length ranges)

-- the bases ascend
pub bases_ascend : (ranges : Ranges) → IsMemory (pieces_of ranges) → IsNonDecreasingBy (λ r. r.0) ranges
bases_ascend ranges m i j d le lt =
    elim (cases_lt i j) [
      | inl less ↦
          let pair : end_of (get_or (pieces_of ranges) i (piece_of d)) ≤ (get_or (pieces_of ranges) j (piece_of d)).base = m.ascending i j (piece_of d) less (omega (arith, pieces_length ranges)) in
          let one : (get_or (pieces_of ranges) i (piece_of d)).base ≡ (get_or ranges i d).0 = piece_base ranges i d (piece_of d) (omega arith) in
          let other : (get_or (pieces_of ranges) j (piece_of d)).base ≡ (get_or ranges j d).0 = piece_base ranges j d (piece_of d) lt in
          omega arith
      | inr not_less ↦ let same : i ≡ j = omega arith in subst (λ k. (get_or ranges i d).0 ≤ (get_or ranges k d).0) same (omega arith)
    ]

abbrev pub IsSplit : Ranges → ℕ → ℕ → Type 0
IsSplit ranges address n = IsPartitionPoint (λ r. r.0 ≤ address) (λ r. address < r.0) ranges n

above : (ranges : Ranges) (address i : ℕ) (d : ℕ × Vec ℕ Global) (e : Piece) (n : ℕ) → n ≤ i → i < length ranges → IsSplit ranges address n → byte_in (get_or (pieces_of ranges) i e) address ≡ None
above ranges address i d e n low lt split =
    let base : (get_or (pieces_of ranges) i e).base ≡ (get_or ranges i d).0 = piece_base ranges i d e lt in
    let high : address < (get_or ranges i d).0 = split.1 i d low lt in
    below_base (get_or (pieces_of ranges) i e) address (omega arith)

pub begins_below : (ranges : Ranges) (address n k : ℕ) (r : ℕ × Vec ℕ Global) → IsSplit ranges address n → k < n → r ≡ get_or ranges k r → r.0 ≤ address
begins_below ranges address n k r split lt is = subst (λ x. x.0 ≤ address) (sym is) (split.0 k r (omega arith) lt)

-- the last piece that begins at or below the address tells its byte
pub found_at : (ranges : Ranges) (address k : ℕ) (d : ℕ × Vec ℕ Global) → IsMemory (pieces_of ranges) → k < length ranges → IsSplit ranges address (k + 1)
    → byte_at (pieces_of ranges) address ≡ byte_in (piece_of (get_or ranges k d)) address
found_at ranges address k d m lt split =
    one_at (pieces_of ranges) k (piece_of d) address (omega (arith, pieces_length ranges))
    (λ i e low high.
    let pair : end_of (get_or (pieces_of ranges) i e) ≤ (get_or (pieces_of ranges) k e).base = m.ascending i k e high (omega (arith, pieces_length ranges)) in
    let base : (get_or (pieces_of ranges) k e).base ≡ (get_or ranges k d).0 = piece_base ranges k d e lt in
    let here : (get_or ranges k d).0 ≤ address = split.0 k d (omega arith) (omega arith) in
    past_end (get_or (pieces_of ranges) i e) address (omega arith))
    (λ i e low high. above ranges address i d e (k + 1) low (omega (arith, pieces_length ranges)) split)
    ∙ ap (λ p. byte_in p address) (get_or-map piece_of ranges k d (piece_of d) lt)

some_range : (ranges : Ranges) (i : ℕ) → i < length ranges → ℕ × Vec ℕ Global
some_range [] i lt = absurd (omega arith)
some_range (r ∷ ranges) i lt = r

-- where all begin above the address, there is none
pub none_found : (ranges : Ranges) (address : ℕ) → IsSplit ranges address 0 → byte_at (pieces_of ranges) address ≡ None
none_found ranges address split = none_at (pieces_of ranges) address (λ i e lt. above ranges address i (some_range ranges i (omega (arith, pieces_length ranges))) e 0 (omega arith) (omega (arith, pieces_length ranges)) split)

-- no piece has an address beyond 64 bits
pub beyond : (pieces : List Piece) (address : ℕ) → IsMemory pieces → 2 ^ 64 ≤ address → byte_at pieces address ≡ None
beyond pieces address m high = none_at pieces address (λ i e lt. let end : end_of (get_or pieces i e) ≤ 2 ^ 64 = m.in_memory i e lt in past_end (get_or pieces i e) address (omega arith))

-- where one of the first bytes isn't there, more bytes aren't either
pub missing_stays : (pieces : List Piece) (address n k : ℕ) → bytes_at pieces address n ≡ None → bytes_at pieces address (n + k) ≡ None
unfolding bytes_at
missing_stays pieces address n zero none = rw add-zero none
missing_stays pieces address n (suc k) none =
    let before : bytes_at pieces address (n + k) ≡ None = missing_stays pieces address n k none in
    rw (add-suc, bytes_at) (ap (option_and_then (λ bytes. option_map (λ byte. bytes ++ byte ∷ []) (byte_at pieces (address + (n + k))))) before)

-- what `get` lends of some bytes
pub lent_byte : (bytes : List ℕ) (i : ℕ) (r : Option (Bor ℕ)) → IsItemAt bytes i r → option_copied r ≡ slice_get bytes i
lent_byte bytes i None h = sym (slice_get_past bytes i h.3)
lent_byte bytes i (Some x) h = sym (slice_get_read bytes (length bytes) i x.now refl h.3.0 h.1)

none_after : (bytes : Option (List ℕ)) → option_and_then (λ bytes. option_map (λ byte. bytes ++ byte ∷ []) None) bytes ≡ None
none_after None = refl
none_after (Some bytes) = refl

-- where one of the 8 bytes isn't there, there is no word
pub word_missing : (pieces : List Piece) (address i : ℕ) → i < 8 → byte_at pieces (address + i) ≡ None → word_at pieces address ≡ None
unfolding bytes_at
word_missing pieces address i lt none =
    let first : bytes_at pieces address (suc i) ≡ None = ap (λ o. option_and_then (λ bytes. option_map (λ byte. bytes ++ byte ∷ []) o) (bytes_at pieces address i)) none ∙ none_after (bytes_at pieces address i) in
    let total : suc i + (7 - i) ≡ 8 = omega arith in
    ap (option_map (from_le_bytes w64)) (subst (λ n. bytes_at pieces address n ≡ None) total (missing_stays pieces address (suc i) (7 - i) first))

-- one byte more
pub word_more : (pieces : List Piece) (address i : ℕ) (bytes : List ℕ) (byte : ℕ) → i < length bytes → bytes_at pieces address i ≡ Some (take i bytes) → byte_at pieces (address + i) ≡ Some byte
    → bytes_at pieces address (i + 1) ≡ Some (take (i + 1) (set bytes i byte))
unfolding bytes_at
word_more pieces address i bytes byte lt so_far here =
    rw (add-one i) (
    ap (λ o. option_and_then (λ bytes. option_map (λ byte. bytes ++ byte ∷ []) (byte_at pieces (address + i))) o) so_far
    ∙ ap (option_map (λ byte. take i bytes ++ byte ∷ [])) here
    ∙ ap Some (sym (take-suc-set bytes i byte lt)))

-- the word, once all 8 bytes are there
pub word_there : (pieces : List Piece) (address n : ℕ) (bytes : List ℕ) → n ≡ 8 → length bytes ≡ 8 → bytes_at pieces address n ≡ Some (take n bytes) → word_at pieces address ≡ Some (from_le_bytes w64 bytes)
word_there pieces address n bytes all long there =
    ap (λ k. option_map (from_le_bytes w64) (bytes_at pieces address k)) (sym all)
    ∙ ap (option_map (from_le_bytes w64)) there
    ∙ ap (λ xs. Some (from_le_bytes w64 xs)) (take_all n bytes (omega arith))
