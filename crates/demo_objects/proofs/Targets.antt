-- The sections that have relocations, and the bytes of these.
use Rattle.std.proofs.Common.{◌≡◌, ◌≢◌, ℕ, ◌+◌, ◌-◌, ◌*◌, ◌<◌, ◌≤◌, Bool, true, false, List, [], ◌∷◌, ◌++◌, length, map, take, get_or, set, cond, eqb, refl, sym, ap, ◌∙◌, arith, inl, inr, get_or-set_other, get_or-set_same, length-append, length-set}
use Rattle.std.specs.Prelude.{All, filter, ◌==◌}
use Rattle.std.specs.List.{flat_map, range_with_len}
use Rattle.std.proofs.lemmas.Bool.{cases_eq, ne_eqb}
use Rattle.std.proofs.lemmas.Bool.Decides.{nat_tests}
use Rattle.std.proofs.lemmas.Grind.{flat_map-append}
use Rattle.std.proofs.lemmas.List.{append-nil, map-append, map-id, take_more}
use Rattle.std.proofs.lemmas.List.Elements.{All-filter, filter-append}
use Rattle.std.proofs.lemmas.List.FromFn.{filter_of_map_range_with_len_more, get_or-range_with_len, length-range_with_len}
use Rattle.elf_objects.specs.declared.symbol.Reloc.{Reloc}
use Rattle.elf_write.proofs.Lists.{length-encoded}
use Rattle.demo_objects.specs.declared.spec.RelSpec.{RelSpec}
use Rattle.demo_objects.specs.Bodies.{AreRelocBodies}
use Rattle.demo_objects.specs.Made.{has_relocs, reloc_bytes, relocs_for}

pub length-reloc_bytes : (r : Reloc) → length (reloc_bytes r) ≡ 24
length-reloc_bytes r = simp (length-append, length-encoded) refl

pub length-relocs_body : (rs : List Reloc) → length (flat_map reloc_bytes rs) ≡ 24 * length rs
length-relocs_body [] = refl
length-relocs_body (r ∷ rs) =
    let l = length-reloc_bytes r in
    let ih = length-relocs_body rs in
    omega (arith, length-append (reloc_bytes r) (flat_map reloc_bytes rs))

-- a section has relocations exactly where it has some
pub some-has : (relocs : List RelSpec) (k : ℕ) → has_relocs relocs k ≡ true → 0 < length (relocs_for relocs k)
some-has [] k h = absurd cc
some-has (r ∷ rs) k h = grind (arith, nat_tests, some-has rs k)

pub none-has : (relocs : List RelSpec) (k : ℕ) → has_relocs relocs k ≡ false → relocs_for relocs k ≡ []
none-has [] k h = refl
none-has (r ∷ rs) k h = grind (arith, nat_tests, none-has rs k)

-- one relocation more
relocs_for-more : (relocs : List RelSpec) (i : ℕ) (r : RelSpec) (k : ℕ) → i < length relocs
    → relocs_for (take (i + 1) relocs) k ≡ relocs_for (take i relocs) k ++ relocs_for (get_or relocs i r ∷ []) k
relocs_for-more relocs i r k h =
    ap (λ (rs : List RelSpec). relocs_for rs k) (take_more relocs i r h)
    ∙ ap (λ (rs : List RelSpec). map (λ x. x.reloc) rs) (filter-append (λ x. x.sec == k) (take i relocs) (get_or relocs i r ∷ []))
    ∙ map-append (λ x. x.reloc) (filter (λ x. x.sec == k) (take i relocs)) (filter (λ x. x.sec == k) (get_or relocs i r ∷ []))

relocs_for-own : (r : RelSpec) (k : ℕ) → k ≡ r.sec → relocs_for (r ∷ []) k ≡ r.reloc ∷ []
relocs_for-own r k e = let t : eqb r.sec k ≡ true = grind (arith, nat_tests) in rw t refl

relocs_for-other : (r : RelSpec) (k : ℕ) → k ≢ r.sec → relocs_for (r ∷ []) k ≡ []
relocs_for-other r k ne = let t : eqb r.sec k ≡ false = ne_eqb r.sec k (λ e. ne (sym e)) in rw t refl

pub bodies-more : (relocs : List RelSpec) (i : ℕ) (r : RelSpec) (count : ℕ) (lists : List (List ℕ)) (body : List ℕ) → i < length relocs → r ≡ get_or relocs i r → r.sec < count
    → AreRelocBodies (take i relocs) count lists → body ≡ get_or lists r.sec [] ++ reloc_bytes r.reloc
    → AreRelocBodies (take (i + 1) relocs) count (set lists r.sec body)
bodies-more relocs i r count lists body h is inside ok made = record {
  size = length-set lists r.sec body ∙ ok.size;
  each = λ k below. elim (cases_eq k r.sec) [
    | inl own ↦
        let there : r.sec < length lists = (let s = ok.size in omega arith) in
        ap (λ (n : ℕ). get_or (set lists r.sec body) n []) own
        ∙ get_or-set_same lists r.sec body [] there
        ∙ made
        ∙ ap (λ (xs : List ℕ). xs ++ reloc_bytes r.reloc) (ok.each r.sec inside)
        ∙ ap (λ (xs : List ℕ). flat_map reloc_bytes (relocs_for (take i relocs) r.sec) ++ xs) (sym (append-nil (reloc_bytes r.reloc)))
        ∙ sym (flat_map-append reloc_bytes (relocs_for (take i relocs) r.sec) (r.reloc ∷ []))
        ∙ ap (λ (rs : List Reloc). flat_map reloc_bytes (relocs_for (take i relocs) r.sec ++ rs)) (sym (relocs_for-own r r.sec refl))
        ∙ ap (λ (x : RelSpec). flat_map reloc_bytes (relocs_for (take i relocs) r.sec ++ relocs_for (x ∷ []) r.sec)) is
        ∙ ap (flat_map reloc_bytes) (sym (relocs_for-more relocs i r r.sec h))
        ∙ ap (λ (n : ℕ). flat_map reloc_bytes (relocs_for (take (i + 1) relocs) n)) (sym own)
    | inr other ↦
        get_or-set_other lists r.sec k body [] other
        ∙ ok.each k below
        ∙ ap (flat_map reloc_bytes) (sym (append-nil (relocs_for (take i relocs) k)))
        ∙ ap (λ (rs : List Reloc). flat_map reloc_bytes (relocs_for (take i relocs) k ++ rs)) (sym (relocs_for-other r k other))
        ∙ ap (λ (x : RelSpec). flat_map reloc_bytes (relocs_for (take i relocs) k ++ relocs_for (x ∷ []) k)) is
        ∙ ap (flat_map reloc_bytes) (sym (relocs_for-more relocs i r k h))
  ];
}

-- the targets are sections
pub targets-known : (p : ℕ → Bool) (n : ℕ) → All (λ sec. (1 ≤ sec) × (sec ≤ n)) (filter p (range_with_len 1 n))
targets-known p n =
    All-filter p (λ sec. (1 ≤ sec) × (sec ≤ n)) (range_with_len 1 n)
    (λ k d h. (let l = length-range_with_len 1 n in let e = get_or-range_with_len 1 n k d (omega arith) in (omega arith, omega arith)))

-- one section more
pub filter-more : (p : ℕ → Bool) (n j : ℕ) → 1 + n ≡ j → filter p (range_with_len 1 (n + 1)) ≡ filter p (range_with_len 1 n) ++ cond (p j) (j ∷ []) []
filter-more p n j e =
    ap (filter p) (sym (map-id (range_with_len 1 (n + 1))))
    ∙ filter_of_map_range_with_len_more p (λ (x : ℕ). x) 1 n j e
    ∙ ap (λ (xs : List ℕ). filter p xs ++ cond (p j) (j ∷ []) []) (map-id (range_with_len 1 n))

-- the bytes are there exactly where relocations are
pub body-empty : (relocs : List RelSpec) (k : ℕ) (body : List ℕ) → body ≡ flat_map reloc_bytes (relocs_for relocs k) → length body ≡ 0 → has_relocs relocs k ≡ false
body-empty relocs k body e none = by (has_relocs relocs k) refl
  where
    by : (b : Bool) → has_relocs relocs k ≡ b → b ≡ false
    by false w = refl
    by true w =
        let some = some-has relocs k w in
        let l = length-relocs_body (relocs_for relocs k) in
        let m = ap length e in
        absurd (omega arith)

pub body-some : (relocs : List RelSpec) (k : ℕ) (body : List ℕ) → body ≡ flat_map reloc_bytes (relocs_for relocs k) → length body ≢ 0 → has_relocs relocs k ≡ true
body-some relocs k body e some = by (has_relocs relocs k) refl
  where
    by : (b : Bool) → has_relocs relocs k ≡ b → b ≡ true
    by true w = refl
    by false w = absurd (some (ap length e ∙ ap (λ (rs : List Reloc). length (flat_map reloc_bytes rs)) (none-has relocs k w)))

-- the list of targets with the next section looked at
pub targets-some : (p : ℕ → Bool) (sec : ℕ) (list : List ℕ) → 1 ≤ sec → list ≡ filter p (range_with_len 1 (sec - 1)) → p sec ≡ true → list ++ sec ∷ [] ≡ filter p (range_with_len 1 (sec + 1 - 1))
targets-some p sec list low e is =
    ap (λ (xs : List ℕ). xs ++ sec ∷ []) e
    ∙ ap (λ (b : Bool). filter p (range_with_len 1 (sec - 1)) ++ cond b (sec ∷ []) []) (sym is)
    ∙ sym (filter-more p (sec - 1) sec (omega arith))
    ∙ ap (λ (n : ℕ). filter p (range_with_len 1 n)) (omega arith)

pub targets-none : (p : ℕ → Bool) (sec : ℕ) (list : List ℕ) → 1 ≤ sec → list ≡ filter p (range_with_len 1 (sec - 1)) → p sec ≡ false → list ≡ filter p (range_with_len 1 (sec + 1 - 1))
targets-none p sec list low e is =
    e
    ∙ sym (append-nil (filter p (range_with_len 1 (sec - 1))))
    ∙ ap (λ (b : Bool). filter p (range_with_len 1 (sec - 1)) ++ cond b (sec ∷ []) []) (sym is)
    ∙ sym (filter-more p (sec - 1) sec (omega arith))
    ∙ ap (λ (n : ℕ). filter p (range_with_len 1 n)) (omega arith)
