-- Names in string tables that got longer.
use Rattle.std.proofs.Common.{◌≡◌, ◌≢◌, ℕ, suc, ◌+◌, ◌-◌, ◌<◌, List, [], ◌∷◌, ◌++◌, length, take, drop, get_or, Bool, true, not, eqb, cond, refl, sym, ap, ◌∙◌, arith, length-append, length-drop}
use Rattle.std.specs.Prelude.{All}
use Rattle.std.specs.List.{take_while}
use Rattle.std.proofs.lemmas.Bool.Decides.{nat_tests}
use Rattle.std.proofs.lemmas.List.{append_assoc, append-nil, drop-append-le, drop_at, get_or-append-add, get_or-drop, get_or_at}
use Rattle.std.proofs.lemmas.List.Concat.{flat_map-append}
use Rattle.std.proofs.lemmas.List.Elements.{All-head, All-tail}
use Rattle.std.proofs.lemmas.List.Sums.{take_while-cons}
use Rattle.elf_objects.specs.Strings.{up_to_zero}
use Rattle.elf_objects.specs.Table.{string_at}
use Rattle.elf_write.specs.Layout.{NewEntry, new_names}
use Rattle.elf_write.proofs.Facts.{split_at}

abbrev is_some_byte : ℕ → Bool
is_some_byte c = not (eqb c 0)

go_on : (x : ℕ) (xs ys : List ℕ) → take_while is_some_byte xs ≡ take_while is_some_byte ys → take_while is_some_byte (x ∷ xs) ≡ take_while is_some_byte (x ∷ ys)
go_on x xs ys e =
    take_while-cons is_some_byte x xs
    ∙ ap (λ (r : List ℕ). cond (is_some_byte x) (x ∷ r) []) e
    ∙ sym (take_while-cons is_some_byte x ys)

stop : (xs : List ℕ) → take_while is_some_byte (0 ∷ xs) ≡ []
stop xs = take_while-cons is_some_byte 0 xs

-- what stands behind a zero byte does not count
take_while-ends : (zs ys : List ℕ) → 0 < length zs → get_or zs (length zs - 1) 0 ≡ 0
    → take_while is_some_byte (zs ++ ys) ≡ take_while is_some_byte zs
take_while-ends [] ys h e = absurd (omega arith)
take_while-ends (x ∷ []) ys h e =
    let z : x ≡ 0 = e in
    rw z (stop ([] ++ ys) ∙ sym (stop []))
take_while-ends (x ∷ (y ∷ r)) ys h e =
    let l : suc (suc (length r)) - 1 ≡ suc (length r) = omega arith in
    let m : suc (length r) - 1 ≡ length r = omega arith in
    let f : get_or (y ∷ r) (suc (length r) - 1) 0 ≡ 0 =
    ap (λ (n : ℕ). get_or (y ∷ r) n 0) m ∙ sym (ap (λ (n : ℕ). get_or (x ∷ (y ∷ r)) n 0) l) ∙ e in
    go_on x ((y ∷ r) ++ ys) (y ∷ r) (take_while-ends (y ∷ r) ys (omega arith) f)

-- a string in a table that ends in a zero byte is there in a longer one
pub string_at-longer : (xs ys : List ℕ) (at : ℕ) → at < length xs → get_or xs (length xs - 1) 0 ≡ 0
    → string_at (xs ++ ys) at ≡ string_at xs at
unfolding string_at up_to_zero
string_at-longer xs ys at h e =
    let l : length (drop at xs) ≡ length xs - at = length-drop at xs in
    let last : get_or (drop at xs) (length (drop at xs) - 1) 0 ≡ 0 =
    get_or-drop at xs (length (drop at xs) - 1) 0 ∙ ap (λ (n : ℕ). get_or xs n 0) (omega arith) ∙ e in
    ap (take_while is_some_byte) (drop-append-le at xs ys (omega arith))
    ∙ take_while-ends (drop at xs) ys (omega arith) last

take_while-whole : (xs rest : List ℕ) → All (λ (c : ℕ). c ≢ 0) xs → take_while is_some_byte (xs ++ 0 ∷ rest) ≡ xs
take_while-whole [] rest all = stop rest
take_while-whole (x ∷ xs) rest all =
    let head : x ≢ 0 = All-head (λ (c : ℕ). c ≢ 0) x xs all in
    let yes : is_some_byte x ≡ true = grind (arith, nat_tests) in
    take_while-cons is_some_byte x (xs ++ 0 ∷ rest)
    ∙ rw yes (ap (λ (r : List ℕ). x ∷ r) (take_while-whole xs rest (All-tail (λ (c : ℕ). c ≢ 0) x xs all)))

-- a new name begins where those before it end
names_cut : (names : List ℕ) (new : List NewEntry) (k : ℕ) (e : NewEntry) → k < length new
    → drop (length names + length (new_names (take k new))) (names ++ new_names new)
    ≡ (get_or new k e).name ++ 0 ∷ new_names (drop (k + 1) new)
names_cut names new k e h =
    let one : NewEntry = get_or new k e in
    let after : List ℕ = new_names (drop (k + 1) new) in
    let cut : new_names new ≡ new_names (take k new) ++ ((one.name ++ 0 ∷ []) ++ after) =
    ap new_names (split_at new k e h) ∙ flat_map-append (λ (x : NewEntry). x.name ++ 0 ∷ []) (take k new) (one ∷ drop (k + 1) new) in
    let tail : (one.name ++ 0 ∷ []) ++ after ≡ one.name ++ 0 ∷ after = append_assoc one.name (0 ∷ []) after in
    let whole : names ++ new_names new ≡ (names ++ new_names (take k new)) ++ (one.name ++ 0 ∷ after) =
    ap (λ (r : List ℕ). names ++ r) (cut ∙ ap (λ (r : List ℕ). new_names (take k new) ++ r) tail)
    ∙ sym (append_assoc names (new_names (take k new)) (one.name ++ 0 ∷ after)) in
    ap (drop (length names + length (new_names (take k new)))) whole
    ∙ drop_at (names ++ new_names (take k new)) (one.name ++ 0 ∷ after) (length names + length (new_names (take k new))) (length-append names (new_names (take k new)))

pub string_at-new : (names : List ℕ) (new : List NewEntry) (k : ℕ) (e : NewEntry) → k < length new → All (λ (c : ℕ). c ≢ 0) (get_or new k e).name
    → string_at (names ++ new_names new) (length names + length (new_names (take k new))) ≡ (get_or new k e).name
unfolding string_at up_to_zero
string_at-new names new k e h all =
    ap (take_while is_some_byte) (names_cut names new k e h)
    ∙ take_while-whole (get_or new k e).name (new_names (drop (k + 1) new)) all

-- a new name begins within the table
pub name-inside : (names : List ℕ) (new : List NewEntry) (k : ℕ) (e : NewEntry) → k < length new
    → length names + length (new_names (take k new)) < length (names ++ new_names new)
name-inside names new k e h =
    let c : length (drop (length names + length (new_names (take k new))) (names ++ new_names new)) ≡ length (get_or new k e).name + suc (length (new_names (drop (k + 1) new)))
    = ap length (names_cut names new k e h) ∙ length-append (get_or new k e).name (0 ∷ new_names (drop (k + 1) new)) in
    let d = length-drop (length names + length (new_names (take k new))) (names ++ new_names new) in
    omega arith

-- the new names end in a zero byte
new_names-last : (new : List NewEntry) → 0 < length new → get_or (new_names new) (length (new_names new) - 1) 0 ≡ 0
new_names-last [] h = absurd (omega arith)
new_names-last (x ∷ []) h =
    let e : length ((x.name ++ 0 ∷ []) ++ []) - 1 ≡ length x.name = omega (arith, length-append (x.name ++ 0 ∷ []) [], length-append x.name (0 ∷ [])) in
    ap (λ (n : ℕ). get_or ((x.name ++ 0 ∷ []) ++ []) n 0) e
    ∙ ap (λ (r : List ℕ). get_or r (length x.name) 0) (append-nil (x.name ++ 0 ∷ []))
    ∙ get_or_at x.name 0 [] 0 (length x.name) refl
new_names-last (x ∷ (y ∷ r)) h =
    let one : List ℕ = x.name ++ 0 ∷ [] in
    let rest : List ℕ = new_names (y ∷ r) in
    let some : 0 < length rest = omega (arith, length-append (y.name ++ 0 ∷ []) (new_names r), length-append y.name (0 ∷ [])) in
    let e : length (one ++ rest) - 1 ≡ length one + (length rest - 1) = omega (arith, length-append one rest) in
    ap (λ (n : ℕ). get_or (one ++ rest) n 0) e
    ∙ get_or-append-add one rest (length rest - 1) 0
    ∙ new_names-last (y ∷ r) (omega arith)

-- and so does the name table with them
pub all_names-last : (names : List ℕ) (new : List NewEntry) → 0 < length new
    → get_or (names ++ new_names new) (length (names ++ new_names new) - 1) 0 ≡ 0
all_names-last names new h =
    let some : 0 < length (names ++ new_names new) = (let i = name-inside names new 0 (record { name = []; kind = 0; flags = 0; link = 0; info = 0; align = 0; entsize = 0; body = [] }) h in omega arith) in
    let more : 0 < length (new_names new) = (let i = name-inside names new 0 (record { name = []; kind = 0; flags = 0; link = 0; info = 0; align = 0; entsize = 0; body = [] }) h in omega (arith, length-append names (new_names new))) in
    let e : length (names ++ new_names new) - 1 ≡ length names + (length (new_names new) - 1) = omega (arith, length-append names (new_names new)) in
    ap (λ (n : ℕ). get_or (names ++ new_names new) n 0) e
    ∙ get_or-append-add names (new_names new) (length (new_names new) - 1) 0
    ∙ new_names-last new h
