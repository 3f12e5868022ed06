-- What decoding answers is so, and no other answer is.
use Rattle.std.proofs.Common.{◌≡◌, ℕ, ◌+◌, ◌-◌, ◌<◌, ◌≤◌, true, false, cond, ltb, List, [], ◌∷◌, ◌++◌, length, take, drop, get_or, Result, Ok, Err, refl, sym, ap, subst, ◌∙◌, inl, inr, arith, suc, append_assoc}
use Rattle.std.specs.Prelude.{◌↔◌, IfOk, Option, Some, None}
use Rattle.std.proofs.lemmas.Bool.{cases_lt, ltb-true, ltb-false}
use Rattle.std.proofs.lemmas.List.{length-append, length-drop, length-take, take_at, take_all, take-append-drop}
use Rattle.operation_defs.specs.declared.insn.Insn.{Insn}
use Rattle.x86_map.specs.declared.map.Map.{Map}
use Rattle.x86_decode.specs.declared.DecodeFault.{DecodeFault}
use Rattle.x86_decode.specs.declared.DecodeFault.TheVariants.{Cut, Outside, Long}
use Rattle.x86_decode.specs.declared.reading.ReadStop.TheVariants.{Dead, More}
use Rattle.x86_decode.specs.Spelling.{Spells, SpelledInFront, BeginsSpelling, BeginsNone}
use Rattle.x86_decode.specs.Reading.{Read, no_prefixes, reading}
use Rattle.x86_decode.specs.Emulation.{emulated_in}
use Rattle.x86_decode.specs.Decoding.{StandsInFront, emulated, spelled, EndsOutside, IsTooLong, answer_of, read_in_front, or_read, decoded, Outcome}
use Rattle.x86_decode.proofs.Languages.{IsBytes, FromPrefixes, Begins, Verdict}
use Rattle.x86_decode.proofs.Starts.{start_prefixes}
use Rattle.x86_decode.proofs.Verdicts.{reading_verdict}
use Rattle.x86_decode.proofs.Spelled.{to_language}
use Rattle.x86_decode.proofs.Parsed.{from_language}
use Rattle.x86_decode.proofs.Emulating.{bytes_left, bytes_taken, spelled_within, emulated_is, is_emulated, some_spelled, one_emulated}
use Rattle.x86_decode.proofs.Fronts.{one_spelling-holds, not_begun, none_spelled, none_begun, take_split}

-- ---- bytes

pub bytes_from_each : (bytes : List ℕ) → ((k : ℕ) → get_or bytes k 0 < 256) → IsBytes bytes
bytes_from_each [] h = tt
bytes_from_each (b ∷ bytes) h = (h 0, bytes_from_each bytes (λ k. h (suc k)))

pub bytes_both : (xs ys : List ℕ) → IsBytes xs → IsBytes ys → IsBytes (xs ++ ys)
bytes_both [] ys h k = k
bytes_both (x ∷ xs) ys h k = (h.0, bytes_both xs ys h.1 k)

-- ---- the answer is so

begins_spelling : (map : Map) (front : List ℕ) → IsBytes front → Begins (FromPrefixes (no_prefixes map) 0) front → BeginsSpelling map front
begins_spelling map front are_bytes b = (b.0, b.1, b.2, from_language map (front ++ b.0) b.1 (bytes_both front b.0 are_bytes b.3) b.4)

outcome_of : (map : Map) (bytes : List ℕ) → IsBytes bytes → emulated_in map bytes ≡ None → (r : Read) → Verdict (FromPrefixes (no_prefixes map) 0) 0 (take 15 bytes) r → Outcome map bytes (answer_of (length bytes) r)
outcome_of map bytes are_bytes none (Ok insn) v = spelled (spelled_within map bytes insn 15 are_bytes v) (λ other e. let is : None ≡ Some other = sym none ∙ emulated_is map bytes other e in cc)
outcome_of map bytes are_bytes none (Err More) v =
    let window-bytes : IsBytes (take 15 bytes) = bytes_left (take 15 bytes) (drop 15 bytes) (subst IsBytes (sym (take-append-drop 15 bytes)) are_bytes) in
    let begins : BeginsSpelling map (take 15 bytes) = begins_spelling map (take 15 bytes) window-bytes v in
    elim (ltb (length bytes) 15) as (λ b. ltb (length bytes) 15 ≡ b → Outcome map bytes (cond b (Err (Cut (length bytes))) (Err Long))) [
      | true ↦ λ e.
          let short : length bytes < 15 = ltb-true _ _ e in
          let all : take 15 bytes ≡ bytes = take_all 15 bytes (omega arith) in
          record { all = refl; few = short; begins = subst (BeginsSpelling map) all begins }
      | false ↦ λ e. record { many = ltb-false _ _ e; begins = begins }
    ] refl
outcome_of map bytes are_bytes none (Err (Dead seen)) (inl v) =
    let start = start_prefixes (no_prefixes map) 0 refl in
    absurd (v.1 start.0 start.1 start.4)
outcome_of map bytes are_bytes none (Err (Dead seen)) (inr v) =
    let front = v.0 in
    let b = v.1 in
    let window-bytes : IsBytes (take 15 bytes) = bytes_left (take 15 bytes) (drop 15 bytes) (subst IsBytes (sym (take-append-drop 15 bytes)) are_bytes) in
    let front-bytes : IsBytes front = bytes_left front (b ∷ v.2) (subst IsBytes v.3 window-bytes) in
    let whole : bytes ≡ front ++ (b ∷ (v.2 ++ drop 15 bytes)) = sym (take-append-drop 15 bytes) ∙ ap (λ (t : List ℕ). t ++ drop 15 bytes) v.3 ∙ append_assoc front (b ∷ v.2) (drop 15 bytes) in
    let whole' : bytes ≡ (front ++ b ∷ []) ++ (v.2 ++ drop 15 bytes) = whole ∙ sym (append_assoc front (b ∷ []) (v.2 ++ drop 15 bytes)) in
    let one_less : take (seen - 1) bytes ≡ front = ap (take (seen - 1)) whole ∙ take_at front (b ∷ (v.2 ++ drop 15 bytes)) (seen - 1) (omega (arith, v.4)) in
    let them : take seen bytes ≡ front ++ b ∷ [] = ap (take seen) whole' ∙ take_at (front ++ b ∷ []) (v.2 ++ drop 15 bytes) seen (omega (arith, v.4, length-append front (b ∷ []))) in
    let dead : BeginsNone map (front ++ b ∷ []) = λ rest insn s. v.6 rest insn (to_language map ((front ++ b ∷ []) ++ rest) insn s) in
    let window-len : length front + 1 + length v.2 ≡ length (take 15 bytes) = omega (arith, ap (length {A = ℕ}) v.3, length-append front (b ∷ v.2)) in
    record {
      some = omega (arith, v.4);
      few = omega (arith, v.4, window-len, length-take 15 bytes);
      there = omega (arith, v.4, window-len, length-take 15 bytes);
      begins = subst (BeginsSpelling map) (sym one_less) (begins_spelling map front front-bytes v.5);
      none = subst (BeginsNone map) (sym them) dead;
    }

pub outcome : (map : Map) (bytes : List ℕ) → IsBytes bytes → Outcome map bytes (decoded map bytes)
unfolding decoded
outcome map bytes are_bytes =
    elim (emulated_in map bytes) as (λ (o : Option Insn). emulated_in map bytes ≡ o → Outcome map bytes (or_read o (read_in_front map bytes))) [
      | None ↦ λ none. outcome_of map bytes are_bytes none (reading map (take 15 bytes)) (reading_verdict map (take 15 bytes) (bytes_taken 15 bytes are_bytes))
      | Some insn ↦ λ is. emulated (is_emulated map bytes insn are_bytes is)
    ] refl

-- ---- no other answer is

stands_outside : (map : Map) (bytes : List ℕ) (insn : Insn) (seen : ℕ) → SpelledInFront map bytes insn → EndsOutside map bytes seen → ⊥
stands_outside map bytes insn seen s o = elim (cases_lt insn.len seen) [
  | inl lt ↦ not_begun map (take insn.len bytes) insn _ s.1 (subst (BeginsSpelling map) (take_split insn.len (seen - 1) bytes (omega arith)) o.begins)
  | inr le ↦ none_spelled map (take seen bytes) _ insn o.none (subst (λ (t : List ℕ). Spells map t insn) (take_split seen insn.len bytes le) s.1)
]

stands_begins : (map : Map) (bytes : List ℕ) (insn : Insn) → Spells map (take insn.len bytes) insn → BeginsSpelling map bytes → ⊥
stands_begins map bytes insn s b = not_begun map (take insn.len bytes) insn (drop insn.len bytes) s (subst (BeginsSpelling map) (sym (take-append-drop insn.len bytes)) b)

stands_long : (map : Map) (bytes : List ℕ) (insn : Insn) → SpelledInFront map bytes insn → IsTooLong map bytes → ⊥
stands_long map bytes insn s l = not_begun map (take insn.len bytes) insn _ s.1 (subst (BeginsSpelling map) (take_split insn.len 15 bytes s.0) l.begins)

outside_begins : (map : Map) (bytes : List ℕ) (seen : ℕ) → EndsOutside map bytes seen → BeginsSpelling map bytes → ⊥
outside_begins map bytes seen o b = none_begun map (take seen bytes) (drop seen bytes) o.none (subst (BeginsSpelling map) (sym (take-append-drop seen bytes)) b)

outside_long : (map : Map) (bytes : List ℕ) (seen : ℕ) → EndsOutside map bytes seen → IsTooLong map bytes → ⊥
outside_long map bytes seen o l = none_begun map (take seen bytes) _ o.none (subst (BeginsSpelling map) (take_split seen 15 bytes o.few) l.begins)

outside_before : (map : Map) (bytes : List ℕ) (n m : ℕ) → EndsOutside map bytes n → EndsOutside map bytes m → n < m → ⊥
outside_before map bytes n m o p lt = none_begun map (take n bytes) _ o.none (subst (BeginsSpelling map) (take_split n (m - 1) bytes (omega arith)) p.begins)

one_stands : (map : Map) (bytes : List ℕ) (m n : Insn) → StandsInFront map bytes m → StandsInFront map bytes n → m ≡ n
one_stands map bytes m n (emulated e) (emulated f) = one_emulated map bytes m n e f
one_stands map bytes m n (emulated e) (spelled t alone) = absurd (alone m e)
one_stands map bytes m n (spelled s alone) (emulated f) = absurd (alone n f)
one_stands map bytes m n (spelled s alone) (spelled t only) =
    let same : take m.len bytes ++ drop m.len bytes ≡ take n.len bytes ++ drop n.len bytes = take-append-drop m.len bytes ∙ sym (take-append-drop n.len bytes) in
    (one_spelling-holds map (take m.len bytes) (take n.len bytes) (drop m.len bytes) (drop n.len bytes) m n s.1 t.1 same).1

-- an instruction stands there, and one is no fault
stands_or : (map : Map) (bytes : List ℕ) (insn : Insn) (P : Type 0) → StandsInFront map bytes insn → ((m : Insn) → SpelledInFront map bytes m → P) → P
stands_or map bytes insn P s f = let one = some_spelled map bytes insn s in f one.0 one.1

pub exclusive : (map : Map) (bytes : List ℕ) (r q : Result Insn DecodeFault) → Outcome map bytes r → Outcome map bytes q → r ≡ q
exclusive map bytes (Ok m) (Ok n) s t = ap (λ (i : Insn). Ok i) (one_stands map bytes m n s t)
exclusive map bytes (Ok m) (Err (Outside seen)) s o = absurd (stands_or map bytes m ⊥ s (λ k u. stands_outside map bytes k seen u o))
exclusive map bytes (Ok m) (Err (Cut have)) s c = absurd (stands_or map bytes m ⊥ s (λ k u. stands_begins map bytes k u.1 c.begins))
exclusive map bytes (Ok m) (Err Long) s l = absurd (stands_or map bytes m ⊥ s (λ k u. stands_long map bytes k u l))
exclusive map bytes (Err (Outside seen)) (Ok n) o t = absurd (stands_or map bytes n ⊥ t (λ k u. stands_outside map bytes k seen u o))
exclusive map bytes (Err (Outside n)) (Err (Outside m)) o p = elim (cases_lt n m) [
  | inl lt ↦ absurd (outside_before map bytes n m o p lt)
  | inr le ↦ elim (cases_lt m n) [
    | inl lt ↦ absurd (outside_before map bytes m n p o lt)
    | inr ge ↦ let same : n ≡ m = omega arith in ap (λ (k : ℕ). Err (Outside k)) same
  ]
]
exclusive map bytes (Err (Outside seen)) (Err (Cut have)) o c = absurd (outside_begins map bytes seen o c.begins)
exclusive map bytes (Err (Outside seen)) (Err Long) o l = absurd (outside_long map bytes seen o l)
exclusive map bytes (Err (Cut have)) (Ok n) c t = absurd (stands_or map bytes n ⊥ t (λ k u. stands_begins map bytes k u.1 c.begins))
exclusive map bytes (Err (Cut have)) (Err (Outside seen)) c o = absurd (outside_begins map bytes seen o c.begins)
exclusive map bytes (Err (Cut n)) (Err (Cut m)) c d = let same : n ≡ m = sym c.all ∙ d.all in ap (λ (k : ℕ). Err (Cut k)) same
exclusive map bytes (Err (Cut have)) (Err Long) c l = absurd (omega (arith, c.all, c.few, l.many))
exclusive map bytes (Err Long) (Ok n) l t = absurd (stands_or map bytes n ⊥ t (λ k u. stands_long map bytes k u l))
exclusive map bytes (Err Long) (Err (Outside seen)) l o = absurd (outside_long map bytes seen o l)
exclusive map bytes (Err Long) (Err (Cut have)) l c = absurd (omega (arith, c.all, c.few, l.many))
exclusive map bytes (Err Long) (Err Long) l k = refl

-- the answer is r exactly where what r says is so
pub decides : (map : Map) (bytes : List ℕ) → IsBytes bytes → (result r : Result Insn DecodeFault) → result ≡ decoded map bytes → (result ≡ r) ↔ Outcome map bytes r
decides map bytes are_bytes result r is =
    let here : Outcome map bytes result = subst (Outcome map bytes) (sym is) (outcome map bytes are_bytes) in
    (λ e. subst (Outcome map bytes) e here, λ h. exclusive map bytes result r here h)

-- ---- lengths

not_empty : (map : Map) (text : List ℕ) (insn : Insn) → FromPrefixes (no_prefixes map) 0 text insn → 0 < length text
not_empty map [] insn h = absurd h
not_empty map (b ∷ text) insn h = omega arith

spelled_lengths : (map : Map) (bytes : List ℕ) (insn : Insn) → SpelledInFront map bytes insn → (0 < insn.len) × (insn.len ≤ 15) × (insn.len ≤ length bytes)
spelled_lengths map bytes insn s =
    let some = not_empty map (take insn.len bytes) insn (to_language map (take insn.len bytes) insn s.1) in
    (omega (arith, some, s.1.len), s.0, omega (arith, s.1.len, length-take insn.len bytes))

pub lengths : (map : Map) (bytes : List ℕ) (r : Result Insn DecodeFault) → Outcome map bytes r → IfOk r (λ insn. (0 < insn.len) × (insn.len ≤ 15) × (insn.len ≤ length bytes))
lengths map bytes (Ok insn) (spelled s alone) = spelled_lengths map bytes insn s
lengths map bytes (Ok insn) (emulated e) =
    let len : insn.len ≡ 5 + e.behind.len = ap (λ (i : Insn). i.len) e.is in
    let there = spelled_lengths map (drop 5 bytes) e.behind e.spelled in
    (omega (arith, len), e.few, omega (arith, len, there.0, there.2, length-drop 5 bytes))
lengths map bytes (Err f) s = tt
