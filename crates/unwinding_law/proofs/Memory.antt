-- Words that a write leaves alone, and sums of addresses that don't wrap.
use Rattle.std.proofs.Common.{◌≡◌, ℕ, zero, suc, ◌+◌, ◌-◌, ◌%◌, ◌^◌, ◌<◌, ◌≤◌, Bool, true, false, ◌&&◌, List, [], ◌∷◌, Option, Some, None, take, drop, slice_get, nat_le, Contains, flat_map, refl, sym, ap, ap₂, ◌∙◌, arith, inl, inr, le-leb, leb-true, mod-eq_of_lt}
use Rattle.std.proofs.lemmas.List.Elements.{All-contains}
use Rattle.state_defs.specs.declared.state.EndKind.{EndKind}
use Rattle.state_defs.specs.Region.{Region, hi_of, byte_at, little_endian, has_word, word_at, Holds, IsBeside, SameAddresses, WritesOnly, Stores}
use Rattle.state_defs.specs.Frame.{Frame, Protected, protected, protected_addresses, listed, AreKept}
use Rattle.unwinding_law.proofs.Lists.{nowhere, all_of, in_map}
use Rattle.std.proofs.lemmas.List.Elements.{Contains-append_left, Contains-append_right, Contains-append_cases}

same_front : (n : ℕ) (xs ys : List ℕ) → ((j : ℕ) → j < n → slice_get xs j ≡ slice_get ys j) → take n xs ≡ take n ys
same_front zero xs ys h = refl
same_front (suc n) [] [] h = refl
same_front (suc n) [] (y ∷ ys) h = let e : None ≡ Some y = h zero (omega arith) in cc
same_front (suc n) (x ∷ xs) [] h = let e : Some x ≡ None = h zero (omega arith) in cc
same_front (suc n) (x ∷ xs) (y ∷ ys) h =
    let e : Some x ≡ Some y = h zero (omega arith) in
    let k : x ≡ y = cc in
    ap₂ (λ (a : ℕ) (b : List ℕ). a ∷ b) k (same_front n xs ys (λ j l. h (suc j) (omega arith)))

nothing_left : (k : ℕ) → drop {A = ℕ} k [] ≡ []
nothing_left zero = refl
nothing_left (suc k) = refl

pub same_part : (n k : ℕ) (xs ys : List ℕ) → ((j : ℕ) → k ≤ j → j < k + n → slice_get xs j ≡ slice_get ys j) → take n (drop k xs) ≡ take n (drop k ys)
same_part n zero xs ys h = same_front n xs ys (λ j l. h j (omega arith) (omega arith))
same_part n (suc k) [] [] h = refl
same_part n (suc k) [] (y ∷ ys) h = ap (λ (x : List ℕ). take n x) (sym (nothing_left k)) ∙ same_part n k [] ys (λ j a b. h (suc j) (omega arith) (omega arith))
same_part n (suc k) (x ∷ xs) [] h = same_part n k xs [] (λ j a b. h (suc j) (omega arith) (omega arith)) ∙ ap (λ (x : List ℕ). take n x) (nothing_left k)
same_part n (suc k) (x ∷ xs) (y ∷ ys) h = same_part n k xs ys (λ j a b. h (suc j) (omega arith) (omega arith))

byte_is : (r : Region) (j : ℕ) → byte_at r (r.lo + j) ≡ slice_get r.bytes j
byte_is r j =
    let e : nat_le r.lo (r.lo + j) ≡ true = le-leb r.lo (r.lo + j) (omega arith) in
    let m : r.lo + j - r.lo ≡ j = omega arith in
    rw (e, m) refl

pub same_hi : (r s : Region) → SameAddresses r s → hi_of s ≡ hi_of r
same_hi r s a = ap₂ (λ (x y : ℕ). x + y) a.lo a.size

-- a word whose bytes stay is the same
pub same_word : (r s : Region) (address : ℕ) → SameAddresses r s → ((x : ℕ) → address ≤ x → x < address + 8 → byte_at s x ≡ byte_at r x) → word_at s address ≡ word_at r address
same_word r s address a h = let e : has_word s address ≡ has_word r address = ap₂ (λ (x y : ℕ). nat_le x address && nat_le (address + 8) y) a.lo (same_hi r s a) in go (has_word r address) refl e
  where
    part : (b : Bool) → nat_le r.lo address ≡ b → (b && nat_le (address + 8) (hi_of r)) ≡ true → r.lo ≤ address
    part true e h = leb-true r.lo address e
    part false e h = absurd (let k : ⊥ = cc in k)

    byte : r.lo ≤ address → (j : ℕ) → address - r.lo ≤ j → j < (address - r.lo) + 8 → slice_get s.bytes j ≡ slice_get r.bytes j
    byte l j m n = sym (byte_is s j) ∙ ap (λ (x : ℕ). byte_at s (x + j)) a.lo ∙ h (r.lo + j) (omega arith) (omega arith) ∙ byte_is r j

    go : (b : Bool) → has_word r address ≡ b → has_word s address ≡ has_word r address → word_at s address ≡ word_at r address
    go true e f =
        let l : r.lo ≤ address = part (nat_le r.lo address) refl e in
        let g : has_word s address ≡ true = f ∙ e in
        let k : address - s.lo ≡ address - r.lo = ap (λ (x : ℕ). address - x) a.lo in
        let t : take 8 (drop (address - r.lo) s.bytes) ≡ take 8 (drop (address - r.lo) r.bytes) = same_part 8 (address - r.lo) s.bytes r.bytes (byte l) in
        rw (e, g, k) (ap (λ (x : List ℕ). Some (little_endian x)) t)
    go false e f = let g : has_word s address ≡ false = f ∙ e in rw (e, g) refl

-- a write of eight bytes right below an address leaves the words from that address on
pub word_above : (r s : Region) (start address : ℕ) → start + 8 ≤ 2 ^ 64 → WritesOnly start 8 r s → start + 8 ≤ address → word_at s address ≡ word_at r address
word_above r s start address wraps w above = same_word r s address w.addresses (λ x a b. w.others x (beside x a))
  where
    beside : (x : ℕ) → address ≤ x → IsBeside start 8 x
    beside x a i l e = let k : (start + i) % 2 ^ 64 ≡ start + i = mod-eq_of_lt (omega arith) in omega arith

-- the protected slots of listed frames are among those of all frames
pub listed_among : (end : Option EndKind) (frames : List Frame) (x : Protected) → Contains (flat_map protected (listed end frames)) x → Contains (flat_map protected frames) x
listed_among (Some kind) frames x c = nowhere x c
listed_among None [] x c = nowhere x c
listed_among None (f ∷ fs) x c = elim (Contains-append_cases (protected f) (flat_map protected (listed f.ended_caller fs)) x c) [ inl d ↦ Contains-append_left (protected f) (flat_map protected fs) x d | inr d ↦ Contains-append_right (protected f) (flat_map protected fs) x (listed_among f.ended_caller fs x d) ]

-- stores that spare protected slots keep them
pub spared_kept : (frames : List Frame) (end : Option EndKind) (rsp : ℕ) (r s : Region) → Stores (protected_addresses frames) r s → AreKept rsp r (listed end frames) → AreKept rsp s (listed end frames)
spared_kept frames end rsp r s st k = record {
  above = k.above;
  hold = all_of (λ slot. Holds s slot.at slot.value) (flat_map protected (listed end frames)) (λ x c.
      All-contains (λ address. word_at s address ≡ word_at r address) (protected_addresses frames) x.at st.spared (in_map (λ slot. slot.at) (flat_map protected frames) x (listed_among end frames x c))
      ∙ All-contains (λ slot. Holds r slot.at slot.value) (flat_map protected (listed end frames)) x k.hold c);
}
