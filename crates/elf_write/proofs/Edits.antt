-- What stands in the bytes after some changes.
use Rattle.std.proofs.Common.{◌≡◌, ℕ, zero, suc, ◌+◌, ◌-◌, ◌<◌, ◌≤◌, List, [], ◌∷◌, ◌++◌, length, take, drop, map, refl, sym, ap, subst, ◌∙◌, arith, length-append, length-drop}
use Rattle.std.specs.Prelude.{All}
use Rattle.std.specs.List.{flat_map, range_with_len}
use Rattle.std.proofs.lemmas.List.{drop-drop, drop-take, length-take-le, take-take}
use Rattle.std.proofs.lemmas.List.Concat.{flat_map-append}
use Rattle.std.proofs.lemmas.List.Elements.{All-append, All-nil}
use Rattle.elf_write.specs.Layout.{encoded, written}
use Rattle.elf_write.proofs.Lists.{drop-written, length-encoded, length-written}
use Rattle.elf_write.proofs.Output.{Outside, part-outside}
use Rattle.elf_write.proofs.Parts.{part}
use Rattle.elf_write.specs.SymbolLayout.{Change, changed, moved}
use Rattle.elf_write.proofs.Ranges.{range-split, range-step}

-- the change lies in n bytes
abbrev pub Fits : ℕ → Change → Type 0
Fits n c = c.at + c.width ≤ n

-- it changes none of w bytes from a on
abbrev pub Avoids : ℕ → ℕ → Change → Type 0
Avoids a w c = Outside a w c.at c.width

pub all-head : (P : Change → Type 0) (c : Change) (cs : List Change) → All P (c ∷ cs) → P c
all-head P c cs h = h 0 c (omega arith)

pub all-tail : (P : Change → Type 0) (c : Change) (cs : List Change) → All P (c ∷ cs) → All P cs
all-tail P c cs h k d lt = h (suc k) d (omega arith)

written-length : (c : Change) (xs : List ℕ) (n : ℕ) → length xs ≡ n → Fits n c → length (written c.at (encoded c.width c.number) xs) ≡ n
written-length c xs n l f =
    let e = length-encoded c.width c.number in
    length-written c.at (encoded c.width c.number) xs (omega arith) ∙ l

pub length-changed : (cs : List Change) (xs : List ℕ) (n : ℕ) → length xs ≡ n → All (Fits n) cs → length (changed cs xs) ≡ n
length-changed [] xs n l h = l
length-changed (c ∷ cs) xs n l h =
    length-changed cs (written c.at (encoded c.width c.number) xs) n (written-length c xs n l (all-head (Fits n) c cs h)) (all-tail (Fits n) c cs h)

pub changed-append : (cs ds : List Change) (xs : List ℕ) → changed (cs ++ ds) xs ≡ changed ds (changed cs xs)
changed-append [] ds xs = refl
changed-append (c ∷ cs) ds xs = changed-append cs ds (written c.at (encoded c.width c.number) xs)

-- bytes that no change touches
pub part-avoid : (cs : List Change) (xs : List ℕ) (n a w : ℕ) → length xs ≡ n → All (Fits n) cs → All (Avoids a w) cs
    → part a w (changed cs xs) ≡ part a w xs
part-avoid [] xs n a w l h g = refl
part-avoid (c ∷ cs) xs n a w l h g =
    let f = all-head (Fits n) c cs h in
    let e = length-encoded c.width c.number in
    let o : Outside a w c.at (length (encoded c.width c.number)) = subst (Outside a w c.at) (sym e) (all-head (Avoids a w) c cs g) in
    part-avoid cs (written c.at (encoded c.width c.number) xs) n a w (written-length c xs n l f) (all-tail (Fits n) c cs h) (all-tail (Avoids a w) c cs g)
    ∙ part-outside a w c.at (encoded c.width c.number) xs o (omega arith)

-- the first items, where they are more than those of the first of two lists
pub take-past : (w m : ℕ) (xs ys : List ℕ) → w ≡ length xs + m → take w (xs ++ ys) ≡ xs ++ take m ys
take-past w m [] ys e = ap (λ (n : ℕ). take n ys) (omega arith)
take-past w m (x ∷ xs) ys e =
    let s : w ≡ suc (w - 1) = omega arith in
    ap (λ (n : ℕ). take n (x ∷ (xs ++ ys))) s ∙ ap (λ (r : List ℕ). x ∷ r) (take-past (w - 1) m xs ys (omega arith))

-- a write within a part
part-written : (a w i : ℕ) (e xs : List ℕ) → i + length e ≤ w → a + w ≤ length xs
    → part a w (written (a + i) e xs) ≡ written i e (part a w xs)
part-written a w i e xs h g =
    let d : List ℕ = drop a xs in
    let k : ℕ = i + length e in
    let m : ℕ = w - k in
    let z : a + i - a ≡ i = omega arith in
    let ld : length d ≡ length xs - a = length-drop a xs in
    let lt : length (take i d) ≡ i = length-take-le i d (omega arith) in
    let lp : length (take i d ++ e) ≡ k = length-append (take i d) e ∙ ap (λ (n : ℕ). n + length e) lt in
    let s : k + m ≡ w = omega arith in
    let behind : a + i + length e ≡ a + k = omega arith in
    let left : part a w (written (a + i) e xs) ≡ (take i d ++ e) ++ take m (drop (a + k) xs) =
    ap (take w) (drop-written a (a + i) e xs (omega arith) (omega arith) ∙ rw (z, behind) refl)
    ∙ take-past w m (take i d ++ e) (drop (a + k) xs) (omega arith) in
    let right : drop k (take w d) ≡ take m (drop (a + k) xs) =
    ap (λ (n : ℕ). drop k (take n d)) (sym s) ∙ drop-take k m d ∙ ap (take m) (drop-drop k a xs) in
    left ∙ rw (take-take i w d (omega arith), right) refl

-- changes within a part
pub part-moved : (cs : List Change) (xs : List ℕ) (n a w : ℕ) → length xs ≡ n → a + w ≤ n → All (Fits w) cs
    → part a w (changed (map (moved a) cs) xs) ≡ changed cs (part a w xs)
part-moved [] xs n a w l g h = refl
part-moved (c ∷ cs) xs n a w l g h =
    let f = all-head (Fits w) c cs h in
    let e = length-encoded c.width c.number in
    let inside : Fits n (moved a c) = omega arith in
    part-moved cs (written (a + c.at) (encoded c.width c.number) xs) n a w (written-length (moved a c) xs n l inside) g (all-tail (Fits w) c cs h)
    ∙ ap (changed cs) (part-written a w c.at (encoded c.width c.number) xs (omega arith) (omega arith))

-- what holds of the changes for each number
pub all-flat : (P : Change → Type 0) (f : ℕ → List Change) (a n : ℕ) → ((i : ℕ) → a ≤ i → i < a + n → All P (f i))
    → All P (flat_map f (range_with_len a n))
all-flat P f a zero h = All-nil P
all-flat P f a (suc n) h =
    All-append P (f a) (flat_map f (range_with_len (a + 1) n)) (h a (omega arith) (omega arith))
    (all-flat P f (a + 1) n (λ i low high. h i (omega arith) (omega arith)))

-- the changes for one number among those for n
pub flat-split : (f : ℕ → List Change) (n i : ℕ) → i < n
    → flat_map f (range_with_len 0 n) ≡ flat_map f (range_with_len 0 i) ++ (f i ++ flat_map f (range_with_len (i + 1) (n - (i + 1))))
flat-split f n i h =
    let e : i + (n - i) ≡ n = omega arith in
    let z : 0 + i ≡ i = omega arith in
    ap (λ (k : ℕ). flat_map f (range_with_len 0 k)) (sym e)
    ∙ ap (flat_map f) (range-split 0 i (n - i))
    ∙ flat_map-append f (range_with_len 0 i) (range_with_len (0 + i) (n - i))
    ∙ ap (λ (r : List ℕ). flat_map f (range_with_len 0 i) ++ flat_map f r) (ap (λ (x : ℕ). range_with_len x (n - i)) z ∙ range-step i n h)

-- a part that the changes for one number alone touch
pub part-one : (f : ℕ → List Change) (xs : List ℕ) (n m i a w : ℕ) → length xs ≡ n → i < m
    → ((j : ℕ) → j < m → All (Fits n) (f j)) → ((j : ℕ) → j < m → (j ≡ i → ⊥) → All (Avoids a w) (f j))
    → (ys : List ℕ) → ((zs : List ℕ) → length zs ≡ n → part a w zs ≡ part a w xs → part a w (changed (f i) zs) ≡ ys)
    → part a w (changed (flat_map f (range_with_len 0 m)) xs) ≡ ys
part-one f xs n m i a w l lt fits others ys one =
    let first : List Change = flat_map f (range_with_len 0 i) in
    let last : List Change = flat_map f (range_with_len (i + 1) (m - (i + 1))) in
    let zs : List ℕ = changed first xs in
    let f1 : All (Fits n) first = all-flat (Fits n) f 0 i (λ j low high. fits j (omega arith)) in
    let a1 : All (Avoids a w) first = all-flat (Avoids a w) f 0 i (λ j low high. others j (omega arith) (λ e. omega arith)) in
    let f3 : All (Fits n) last = all-flat (Fits n) f (i + 1) (m - (i + 1)) (λ j low high. fits j (omega arith)) in
    let a3 : All (Avoids a w) last = all-flat (Avoids a w) f (i + 1) (m - (i + 1)) (λ j low high. others j (omega arith) (λ e. omega arith)) in
    let lz : length zs ≡ n = length-changed first xs n l f1 in
    let ly : length (changed (f i) zs) ≡ n = length-changed (f i) zs n lz (fits i lt) in
    ap (λ (cs : List Change). part a w (changed cs xs)) (flat-split f m i lt)
    ∙ ap (part a w) (changed-append first (f i ++ last) xs ∙ changed-append (f i) last zs)
    ∙ part-avoid last (changed (f i) zs) n a w ly f3 a3
    ∙ one zs lz (part-avoid first xs n a w l f1 a1)
