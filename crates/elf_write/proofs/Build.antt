-- The layout as its pieces are written, one after the other, and how long it is.
use Rattle.std.proofs.Common.{◌≡◌, ℕ, ◌+◌, ◌*◌, ◌<◌, ◌≤◌, ◌^◌, List, [], ◌∷◌, ◌++◌, length, refl, sym, ap, ◌∙◌, arith, length-append}
use Rattle.std.proofs.lemmas.List.{append_assoc}
use Rattle.elf_write.specs.Layout.{NewEntry, Input, aligned, padded, laid_out, end_of, header_table, added_headers, new_names, bodies, encoded, written, count_of, short_count, long_count, all_names, pieces, names_place, headers_place, changed_input, changed_headers, all_headers, extended, appended}
use Rattle.elf_write.proofs.Lists.{length-encoded, length-written}
use Rattle.elf_write.proofs.Sizes.{length-laid_out, laid_out-append, length-padded, length-header_table, length-new_headers, le-end_of}

-- what the writer asks of its input: a whole file header, and a name table that isn't section 0
pub record IsInput (i : Input) : Type 0 where
  pub file_header : 64 ≤ length i.bytes
  pub named : 1 ≤ i.name_table
  pub in_table : 64 * i.name_table + 64 ≤ length i.headers

pub length-changed_input : (i : Input) (new : List NewEntry) → IsInput i → length (changed_input i new) ≡ length i.bytes
length-changed_input i new ok =
    let short = length-encoded 2 (short_count (count_of i new)) in
    let long = length-encoded 8 (headers_place i new) in
    let inner : length (written 60 (encoded 2 (short_count (count_of i new))) i.bytes) ≡ length i.bytes = length-written 60 (encoded 2 (short_count (count_of i new))) i.bytes (omega arith) in
    length-written 40 (encoded 8 (headers_place i new)) (written 60 (encoded 2 (short_count (count_of i new))) i.bytes) (omega arith)
    ∙ inner

pub length-changed_headers : (i : Input) (new : List NewEntry) → IsInput i → length (changed_headers i new) ≡ length i.headers
length-changed_headers i new ok =
    let a = length-encoded 8 (names_place i) in
    let b = length-encoded 8 (length (all_names i new)) in
    let c = length-encoded 8 (long_count (count_of i new)) in
    let two : List ℕ = encoded 8 (names_place i) ++ encoded 8 (length (all_names i new)) in
    let l : length two ≡ 16 = omega (arith, length-append (encoded 8 (names_place i)) (encoded 8 (length (all_names i new)))) in
    let inner : length (written (64 * i.name_table + 24) two i.headers) ≡ length i.headers = length-written (64 * i.name_table + 24) two i.headers (omega arith) in
    length-written 32 (encoded 8 (long_count (count_of i new))) (written (64 * i.name_table + 24) two i.headers) (omega arith)
    ∙ inner

pub length-all_headers : (i : Input) (new : List NewEntry) → IsInput i → length (all_headers i new) ≡ length i.headers + 64 * length new
length-all_headers i new ok =
    length-append (changed_headers i new) (header_table (added_headers i new))
    ∙ omega (arith, length-changed_headers i new ok, length-header_table (added_headers i new), length-new_headers (length i.names) (end_of (length i.bytes) (all_names i new ∷ [])) new)

-- the whole ends with the headers
pub length-extended : (i : Input) (new : List NewEntry) → IsInput i → length (extended i new) ≡ headers_place i new + (length i.headers + 64 * length new)
length-extended i new ok =
    ap length (laid_out-append (changed_input i new) (pieces i new) (all_headers i new ∷ []))
    ∙ length-append (padded (laid_out (changed_input i new) (pieces i new))) (all_headers i new)
    ∙ ap (λ (n : ℕ). n + length (all_headers i new)) (length-padded (laid_out (changed_input i new) (pieces i new)) ∙ ap aligned (length-laid_out (changed_input i new) (pieces i new) ∙ ap (λ (n : ℕ). end_of n (pieces i new)) (length-changed_input i new ok)))
    ∙ ap (λ (n : ℕ). headers_place i new + n) (length-all_headers i new ok)

-- where there is something to add
pub appended-some : (i : Input) (new : List NewEntry) → 0 < length new → appended i new ≡ extended i new
appended-some i [] h = absurd (omega arith)
appended-some i (e ∷ new) h = refl

-- the sizes on the way, of a result that is short enough
pub record Fit (i : Input) (new : List NewEntry) : Type 0 where
  pub names : length i.names + length (new_names new) ≡ length (all_names i new)
  pub names_end : aligned (length i.bytes) + length (all_names i new) ≤ end_of (length i.bytes) (pieces i new)
  pub total : headers_place i new + (length i.headers + 64 * length new) < 2 ^ 32

pub fit : (i : Input) (new : List NewEntry) → IsInput i → 0 < length new → length (appended i new) < 2 ^ 32 → Fit i new
fit i new ok some h =
    let e : length (appended i new) ≡ headers_place i new + (length i.headers + 64 * length new) = ap length (appended-some i new some) ∙ length-extended i new ok in
    record {
      names = sym (length-append i.names (new_names new));
      names_end = le-end_of (aligned (length i.bytes) + length (all_names i new)) (bodies new);
      total = omega arith;
    }

-- the pieces, each written behind what stands before it
joined : (x names more : List ℕ) (ps : List (List ℕ)) (h k : List ℕ)
    → (padded (laid_out ((padded x ++ names) ++ more) ps) ++ h) ++ k ≡ laid_out x (((names ++ more) ∷ ps) ++ (h ++ k) ∷ [])
joined x names more ps h k =
    let whole : List ℕ = laid_out (padded x ++ (names ++ more)) ps in
    rw (append_assoc (padded x) names more)
    (append_assoc (padded whole) h k ∙ sym (laid_out-append (padded x ++ (names ++ more)) ps ((h ++ k) ∷ [])))

pub built : (i : Input) (new : List NewEntry) (o1 o2 o3 o4 o5 o6 o7 o8 : List ℕ)
    → o1 ≡ changed_input i new → o2 ≡ padded o1 → o3 ≡ o2 ++ i.names → o4 ≡ o3 ++ new_names new
    → o5 ≡ laid_out o4 (bodies new) → o6 ≡ padded o5 → o7 ≡ o6 ++ changed_headers i new
    → o8 ≡ o7 ++ header_table (added_headers i new)
    → o8 ≡ extended i new
built i new o1 o2 o3 o4 o5 o6 o7 o8 h1 h2 h3 h4 h5 h6 h7 h8 =
    rw (h8, h7, h6, h5, h4, h3, h2, h1)
    (joined (changed_input i new) i.names (new_names new) (bodies new) (changed_headers i new) (header_table (added_headers i new)))

-- as far as the name table
pub names_built : (i : Input) (new : List NewEntry) (ok : IsInput i) (o1 o2 o3 o4 : List ℕ)
    → o1 ≡ changed_input i new → o2 ≡ padded o1 → o3 ≡ o2 ++ i.names → o4 ≡ o3 ++ new_names new
    → length o4 ≡ aligned (length i.bytes) + length (all_names i new)
names_built i new ok o1 o2 o3 o4 h1 h2 h3 h4 =
    let l1 : length o1 ≡ length i.bytes = ap length h1 ∙ length-changed_input i new ok in
    let l2 : length o2 ≡ aligned (length o1) = ap length h2 ∙ length-padded o1 in
    let l3 : length o3 ≡ length o2 + length i.names = ap length h3 ∙ length-append o2 i.names in
    let l4 : length o4 ≡ length o3 + length (new_names new) = ap length h4 ∙ length-append o3 (new_names new) in
    let a : aligned (length o1) ≡ aligned (length i.bytes) = ap aligned l1 in
    omega (arith, length-append i.names (new_names new))
