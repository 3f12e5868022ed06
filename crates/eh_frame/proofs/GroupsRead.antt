-- A number in groups of seven bits is read back, and what is read is one.
use Rattle.std.proofs.Common.{◌≡◌, ℕ, zero, suc, ◌+◌, ◌-◌, ◌*◌, ◌<◌, ◌≤◌, ◌^◌, ◌⊎◌, Bool, true, false, cond, List, [], ◌∷◌, ◌++◌, length, take, drop, get_or, Option, Some, None, refl, sym, ◌∙◌, ap, subst, inl, inr, arith, append_assoc}
use Rattle.std.proofs.lemmas.Bool.{lt-ltb, le-ltb, ltb-true, ltb-false, cases_Bool}
use Rattle.std.proofs.lemmas.List.{take_rest, length-drop}
use Rattle.std.proofs.lemmas.Option.{none-some}
use Rattle.std.proofs.Math.Dec.{ltb}
use Rattle.eh_frame.specs.declared.groups.Number.{Number}
use Rattle.eh_frame.specs.Groups.{Groups, group, last, more}
use Rattle.eh_frame.specs.ReadGroups.{read_groups, read_number, last_group, more_groups, one_more_group, low_bits}

-- a limit that leaves bit 6 for the sign, or an unsigned number
abbrev pub IsLimit : ℕ → Bool → Type 0
IsLimit limit turned = (limit ≡ 64) ⊎ ((limit ≡ 128) × (turned ≡ false))

below_limit : (limit : ℕ) (turned : Bool) → IsLimit limit turned → limit ≤ 128
below_limit limit turned (inl e) = omega arith
below_limit limit turned (inr e) = let f = e.0 in omega arith

sign_limit : (limit : ℕ) → IsLimit limit true → limit ≡ 64
sign_limit limit (inl e) = e
sign_limit limit (inr e) = let f : true ≡ false = e.1 in cc

made : Bool → ℕ → ℕ → Option Number
made turned bits len = Some (record { turned = turned; bits = bits; len = len })

number_alike : (turned : Bool) (b b' l l' : ℕ) → b ≡ b' → l ≡ l' → made turned b l ≡ made turned b' l'
number_alike turned b b' l l' e f = cc

last_read : (limit : ℕ) (turned : Bool) (n : ℕ) (rest : List ℕ) → IsLimit limit turned → n < limit → read_groups limit (group turned n ∷ rest) ≡ made turned n 1
unfolding read_groups made
last_read limit false n rest k h =
    let below = below_limit limit false k in
    let one : ltb n 128 ≡ true = lt-ltb n 128 (omega arith) in
    let two : ltb n limit ≡ true = lt-ltb n limit h in
    rw (one, two) refl
last_read limit true n rest k h =
    let is = sign_limit limit k in
    let one : ltb (127 - n) 128 ≡ true = lt-ltb (127 - n) 128 (omega arith) in
    let two : ltb (127 - n) limit ≡ false = le-ltb (127 - n) limit (omega arith) in
    let back : 127 - (127 - n) ≡ n = omega arith in
    rw (one, two, back) refl

more_read : (limit : ℕ) (turned : Bool) (low high len : ℕ) (bytes : List ℕ) → low < 128 → limit ≤ low + 128 * high → read_groups limit bytes ≡ made turned high len → read_groups limit ((128 + group turned low) ∷ bytes) ≡ made turned (low + 128 * high) (len + 1)
unfolding read_groups made
more_read limit false low high len bytes l h e =
    let one : ltb (128 + low) 128 ≡ false = le-ltb (128 + low) 128 (omega arith) in
    let back : 128 + low - 128 ≡ low = omega arith in
    let two : ltb (low + 128 * high) limit ≡ false = le-ltb (low + 128 * high) limit h in
    rw (one, e, back, two) refl
more_read limit true low high len bytes l h e =
    let one : ltb (128 + (127 - low)) 128 ≡ false = le-ltb (128 + (127 - low)) 128 (omega arith) in
    let back : 255 - (128 + (127 - low)) ≡ low = omega arith in
    let two : ltb (low + 128 * high) limit ≡ false = le-ltb (low + 128 * high) limit h in
    rw (one, e, back, two) refl

groups_made : {limit : ℕ} {turned : Bool} {n : ℕ} {s : List ℕ} → IsLimit limit turned → Groups limit turned n s → (rest : List ℕ) → read_groups limit (s ++ rest) ≡ made turned n (length s)
groups_made {limit} {turned} k (last n h) rest = last_read limit turned n rest k h
groups_made {limit} {turned} k (more low high bytes l h further) rest =
    more_read limit turned low high (length bytes) (bytes ++ rest) l h (groups_made k further rest)
    ∙ number_alike turned (low + 128 * high) (low + 128 * high) (length bytes + 1) (suc (length bytes)) refl (omega arith)

-- so many groups tell the numbers below this
most : ℕ → ℕ → ℕ
most limit zero = limit
most limit (suc k) = 128 * most limit k

few_groups : {limit : ℕ} {turned : Bool} (k : ℕ) {n : ℕ} {s : List ℕ} → Groups limit turned n s → n < most limit k → length s ≤ k + 1
unfolding most
few_groups k (last n h) bound = omega arith
few_groups zero (more low high bytes l h further) bound = absurd (omega arith)
few_groups (suc k) (more low high bytes l h further) bound =
    let rest = few_groups k further (omega arith) in omega arith

five_bytes : (s rest : List ℕ) → length s ≤ 5 → (tail : List ℕ) × (take 5 (s ++ rest) ≡ s ++ tail)
five_bytes [] rest h = (take 5 rest, refl)
five_bytes (a ∷ []) rest h = (take 4 rest, refl)
five_bytes (a ∷ b ∷ []) rest h = (take 3 rest, refl)
five_bytes (a ∷ b ∷ c ∷ []) rest h = (take 2 rest, refl)
five_bytes (a ∷ b ∷ c ∷ d ∷ []) rest h = (take 1 rest, refl)
five_bytes (a ∷ b ∷ c ∷ d ∷ e ∷ []) rest h = ([], refl)
five_bytes (a ∷ b ∷ c ∷ d ∷ e ∷ f ∷ s) rest h = absurd (omega arith)

number_made : {limit : ℕ} {turned : Bool} {n : ℕ} {s : List ℕ} → IsLimit limit turned → Groups limit turned n s → length s ≤ 5 → (rest : List ℕ) → read_number (s ++ rest) limit ≡ made turned n (length s)
number_made {limit} {turned} {n} {s} k groups few rest =
    let five = five_bytes s rest few in
    ap (read_groups limit) five.1 ∙ groups_made k groups five.0

-- an unsigned number of 32 bits is read back, and a signed one
pub unsigned_read : {n : ℕ} {s : List ℕ} → Groups 128 false n s → n < 2 ^ 32 → (rest : List ℕ) → read_number (s ++ rest) 128 ≡ Some (record { turned = false; bits = n; len = length s })
unfolding made most
unsigned_read groups h rest = number_made (inr (refl, refl)) groups (few_groups 4 groups (omega arith)) rest

pub signed_read : {turned : Bool} {n : ℕ} {s : List ℕ} → Groups 64 turned n s → n < 2 ^ 31 → (rest : List ℕ) → read_number (s ++ rest) 64 ≡ Some (record { turned = turned; bits = n; len = length s })
unfolding made most
signed_read groups h rest = number_made (inl refl) groups (few_groups 4 groups (omega arith)) rest

-- bytes are below 256
abbrev pub AreBytes : List ℕ → Type 0
AreBytes bytes = (k : ℕ) → get_or bytes k 0 < 256

-- the groups of a number at the beginning of some bytes
pub record BeginsWith (limit : ℕ) (x : Number) (bytes : List ℕ) : Type 0 where
  pub own : List ℕ
  pub behind : List ℕ
  pub whole : bytes ≡ own ++ behind
  pub groups : Groups limit x.turned x.bits own
  pub len : length own ≡ x.len
  pub sign : IsLimit limit x.turned

-- a limit of signed or unsigned numbers
abbrev pub IsOfTwo : ℕ → Type 0
IsOfTwo limit = (limit ≡ 64) ⊎ (limit ≡ 128)

unsigned_limit : (limit : ℕ) → IsOfTwo limit → IsLimit limit false
unsigned_limit limit (inl e) = inl e
unsigned_limit limit (inr e) = inr (e, refl)

turned_limit : (limit byte : ℕ) → IsOfTwo limit → limit ≤ byte → byte < 128 → limit ≡ 64
turned_limit limit byte (inl e) h k = e
turned_limit limit byte (inr e) h k = absurd (omega arith)

some_alike : {A : Type 0} {x y : A} → Some x ≡ Some y → x ≡ y
some_alike h = cc

last_sound : (limit byte : ℕ) (bytes : List ℕ) → IsOfTwo limit → byte < 128 → BeginsWith limit (last_group limit byte) (byte ∷ bytes)
last_sound limit byte bytes k l = go (ltb byte limit) refl
  where
    go : (b : Bool) → ltb byte limit ≡ b → BeginsWith limit (last_group limit byte) (byte ∷ bytes)
    go true e =
        rw e (record {
          own = byte ∷ [];
          behind = bytes;
          whole = refl;
          groups = last byte (ltb-true byte limit e);
          len = refl;
          sign = unsigned_limit limit k;
        })
    go false e =
        let far = ltb-false byte limit e in
        let is = turned_limit limit byte k far l in
        let back : byte ≡ group true (127 - byte) = omega arith in
        rw e (record {
          own = byte ∷ [];
          behind = bytes;
          whole = refl;
          groups = subst (λ (b : ℕ). Groups limit true (127 - byte) (b ∷ [])) (sym back) (last (127 - byte) (omega arith));
          len = refl;
          sign = inl is;
        })

one_more_sound : (limit byte : ℕ) (high : Number) (bytes : List ℕ) (x : Number) → byte < 256 → 128 ≤ byte → BeginsWith limit high bytes → one_more_group limit byte high ≡ Some x → BeginsWith limit x (byte ∷ bytes)
unfolding made
one_more_sound limit byte high bytes x h k begins e = go (ltb (low_bits high.turned byte + 128 * high.bits) limit) refl e
  where
    low_fits : (t : Bool) → low_bits t byte < 128
    low_fits true = omega arith
    low_fits false = omega arith

    back : (t : Bool) → 128 + group t (low_bits t byte) ≡ byte
    back true = omega arith
    back false = omega arith

    go : (b : Bool) → ltb (low_bits high.turned byte + 128 * high.bits) limit ≡ b → cond b None (made high.turned (low_bits high.turned byte + 128 * high.bits) (high.len + 1)) ≡ Some x → BeginsWith limit x (byte ∷ bytes)
    go true t f = absurd (none-some _ f)
    go false t f =
        subst (λ (y : Number). BeginsWith limit y (byte ∷ bytes)) (some_alike f) (record {
          own = byte ∷ begins.own;
          behind = begins.behind;
          whole = ap (λ (bs : List ℕ). byte ∷ bs) begins.whole;
          groups = subst (λ (b : ℕ). Groups limit high.turned (low_bits high.turned byte + 128 * high.bits) (b ∷ begins.own)) (back high.turned)
              (more (low_bits high.turned byte) high.bits begins.own (low_fits high.turned) (ltb-false _ _ t) begins.groups);
          len = let l = begins.len in omega arith;
          sign = begins.sign;
        })

pub groups_sound : (limit : ℕ) (bytes : List ℕ) (x : Number) → IsOfTwo limit → AreBytes bytes → read_groups limit bytes ≡ Some x → BeginsWith limit x bytes
unfolding read_groups
groups_sound limit [] x k are e = absurd (none-some _ e)
groups_sound limit (byte ∷ bytes) x k are e = go (λ high f. groups_sound limit bytes high k (λ i. are (suc i)) f) (ltb byte 128) refl e
  where
    further : ((high : Number) → read_groups limit bytes ≡ Some high → BeginsWith limit high bytes) → (o : Option Number) → read_groups limit bytes ≡ o → 128 ≤ byte → more_groups limit byte o ≡ Some x → BeginsWith limit x (byte ∷ bytes)
    further again None f l g = absurd (none-some _ g)
    further again (Some high) f l g = one_more_sound limit byte high bytes x (are 0) l (again high f) g

    go : ((high : Number) → read_groups limit bytes ≡ Some high → BeginsWith limit high bytes) → (b : Bool) → ltb byte 128 ≡ b → cond b (Some (last_group limit byte)) (more_groups limit byte (read_groups limit bytes)) ≡ Some x → BeginsWith limit x (byte ∷ bytes)
    go again true t f = subst (λ (y : Number). BeginsWith limit y (byte ∷ bytes)) (some_alike f) (last_sound limit byte bytes k (ltb-true byte 128 t))
    go again false t f = further again (read_groups limit bytes) refl (ltb-false byte 128 t) f

-- so many bytes have bits for the numbers below this
most-some : (k : ℕ) → 1 ≤ most 1 k
unfolding most
most-some zero = omega arith
most-some (suc k) = let h = most-some k in omega arith

last_bits : (limit byte : ℕ) → byte < 128 → (last_group limit byte).bits < 128
last_bits limit byte h = go (ltb byte limit) refl
  where
    go : (b : Bool) → ltb byte limit ≡ b → (last_group limit byte).bits < 128
    go true e = rw e h
    go false e = rw e (omega arith)

few_bits : (limit k : ℕ) (bytes : List ℕ) (x : Number) → AreBytes bytes → length bytes ≤ k → read_groups limit bytes ≡ Some x → x.bits < most 1 k
unfolding read_groups most made
few_bits limit k [] x are l e = absurd (none-some _ e)
few_bits limit zero (byte ∷ bytes) x are l e = absurd (omega arith)
few_bits limit (suc k) (byte ∷ bytes) x are l e = go (most-some k) (λ high f. few_bits limit k bytes high (λ i. are (suc i)) (omega arith) f) (ltb byte 128) refl e
  where
    low_fits : (t : Bool) → 128 ≤ byte → low_bits t byte < 128
    low_fits true h = let b = are 0 in omega arith
    low_fits false h = let b = are 0 in omega arith

    bits_of : {turned : Bool} {bits len : ℕ} → bits < 128 * most 1 k → made turned bits len ≡ Some x → x.bits < 128 * most 1 k
    bits_of {turned} {bits} {len} h f = subst (λ (y : Number). y.bits < 128 * most 1 k) (some_alike f) h

    more_fits : (high : Number) → high.bits < most 1 k → 128 ≤ byte → (b : Bool) → cond b None (made high.turned (low_bits high.turned byte + 128 * high.bits) (high.len + 1)) ≡ Some x → x.bits < 128 * most 1 k
    more_fits high h l true f = absurd (none-some _ f)
    more_fits high h l false f = let low = low_fits high.turned l in bits_of (omega arith) f

    further : ((high : Number) → read_groups limit bytes ≡ Some high → high.bits < most 1 k) → (o : Option Number) → read_groups limit bytes ≡ o → 128 ≤ byte → more_groups limit byte o ≡ Some x → x.bits < 128 * most 1 k
    further again None f l g = absurd (none-some _ g)
    further again (Some high) f l g = more_fits high (again high f) l (ltb (low_bits high.turned byte + 128 * high.bits) limit) g

    go : 1 ≤ most 1 k → ((high : Number) → read_groups limit bytes ≡ Some high → high.bits < most 1 k) → (b : Bool) → ltb byte 128 ≡ b → cond b (Some (last_group limit byte)) (more_groups limit byte (read_groups limit bytes)) ≡ Some x → x.bits < 128 * most 1 k
    go h again true t f = subst (λ (y : Number). y.bits < 128 * most 1 k) (some_alike f) (let one = last_bits limit byte (ltb-true byte 128 t) in omega arith)
    go h again false t f = further again (read_groups limit bytes) refl (ltb-false byte 128 t) f

-- four bytes have numbers of 28 bits
pub four_groups : (limit : ℕ) (bytes : List ℕ) (x : Number) → AreBytes bytes → length bytes ≤ 4 → read_groups limit bytes ≡ Some x → x.bits < 2 ^ 28
unfolding most
four_groups limit bytes x are l e = few_bits limit 4 bytes x are l e

drop_first : (bytes : List ℕ) → AreBytes bytes → AreBytes (drop 1 bytes)
drop_first [] are k = omega arith
drop_first (byte ∷ bytes) are k = are (suc k)

-- of at most five bytes, those behind the first
pub further_groups : (limit : ℕ) (bytes : List ℕ) (x : Number) → AreBytes bytes → length bytes ≤ 5 → Some x ≡ read_groups limit (take (length bytes - 1) (drop 1 bytes)) → x.bits < 2 ^ 28
further_groups limit bytes x are few e =
    let l = length-drop 1 bytes in
    four_groups limit (drop 1 bytes) x (drop_first bytes are) (omega arith) (sym (e ∙ ap (read_groups limit) (take_rest bytes 1)))
